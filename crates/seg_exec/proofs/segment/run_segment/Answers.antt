use Rattle.std.proofs.Common.{◌≡◌, Some, sym, ap, ◌∙◌}
use Rattle.std.specs.Prelude.{option_map}
use Rattle.seg_meaning.specs.Access.{ways_of}
use Rattle.seg_exec.specs.inner.steps.Unfolded.{config_at}
use Rattle.seg_exec.specs.inner.steps.Views.{config_of}
use Rattle.seg_exec.proofs.FinishedRooms.{so_has_room}
use Rattle.seg_meaning.proofs.Results.{if_ok_map}
use Rattle.seg_exec.proofs.Segments.{carries_taken, may_run, ran}
use Rattle.seg_exec.proofs.segment.run_segment.Goals as goal

pub returns-in_ok-ending-in-Some-clause-segment : goal.returns-in_ok-ending-in-Some-clause-segment
returns-in_ok-ending-in-Some-clause-segment g c =
    let is : config_at c.args.p.now c.args.frame.now c.args.frame.now.body ≡ Some (config_of c.in-Some.machine) =
    sym c.in_ok-take_machine.ensures.machine ∙ ap (option_map config_of) c.in-Some.is in
    if_ok_map c.finish.result (λ stop done. carries_taken c.args.p.now (ways_of g.C.Cells.known g.C.Cells.may_read g.C.Cells.may_write g.C.Cells.rule) c.args.frame.now c.take_machine.new.frame c.in-Some.machine c.run.new.machine c.args.cells.now c.run.new.cells c.run.new.prints
    c.in_ok-ending-in-Some.ending c.finish.new.frame stop c.in_ok-take_machine.ensures.frame is c.in_ok-ending-in-Some.ensures done) c.finish.ensures

pub returns-in_ok-ending-in-Some-clause-room : goal.returns-in_ok-ending-in-Some-clause-room
returns-in_ok-ending-in-Some-clause-room g c =
    if_ok_map c.finish.result (λ stop done. so_has_room c.args.p.now (ran c.args.p.now c.take_machine.new.frame c.run.new.prints c.run.new.machine.fuel) c.finish.new.frame stop c.run.new.machine.vars.active c.in_ok-ending-in-Some.ending done) c.finish.ensures

pub run-requires : goal.run-requires
run-requires g c =
    let is : config_at c.args.p.now c.args.frame.now c.args.frame.now.body ≡ Some (config_of c.in-Some.machine) =
    sym c.in_ok-take_machine.ensures.machine ∙ ap (option_map config_of) c.in-Some.is in
    may_run c.args.p.now (ways_of g.C.Cells.known g.C.Cells.may_read g.C.Cells.may_write g.C.Cells.rule) c.args.frame.now c.in-Some.machine c.args.cells.now c.take_machine.new.frame.prints c.requires is
