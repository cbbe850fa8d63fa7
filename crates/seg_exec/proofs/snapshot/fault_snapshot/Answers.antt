use Rattle.std.proofs.Common.{◌≡◌, ℤ, List, Some, length, sym, ap, ◌∙◌, subst}
use Rattle.std.specs.Prelude.{option_map}
use Rattle.twe_program.specs.Program.{Program}
use Rattle.twe_program.specs.WellFormed.{IsWellFormed}
use Rattle.seg_meaning.specs.Plain.{list_ways}
use Rattle.seg_exec.specs.Snapshots.{snapshot_of}
use Rattle.seg_meaning.specs.Segment.{flow_of}
use Rattle.seg_exec.specs.inner.steps.Unfolded.{config_at}
use Rattle.seg_exec.specs.inner.steps.Views.{config_of}
use Rattle.seg_meaning.proofs.Accesses.{may_carry_out}
use Rattle.seg_exec.proofs.SnapshotsMet.{snapshot_met}
use Rattle.seg_meaning.proofs.Results.{if_ok_map}
use Rattle.seg_exec.proofs.Segments.{may_run}
use Rattle.seg_exec.proofs.snapshot.fault_snapshot.Goals as goal

pub run-requires : goal.run-requires
run-requires c =
    let well : IsWellFormed c.args.p.now = subst (λ (p : Program). IsWellFormed p) c.p.view_is c.p.invariant in
    let is : config_at c.args.p.now c.args.frame.now c.args.frame.now.body ≡ Some (config_of c.in-Some.machine) =
    sym c.in_ok-machine.ensures ∙ ap (option_map config_of) c.in-Some.is in
    may_run c.args.p.now list_ways c.args.frame.now c.in-Some.machine c.in_ok-cells.cells c.new-prints.result
    (may_carry_out c.args.p.now well c.in_ok-cells.cells (ap (λ (xs : List ℤ). length xs) c.in_ok-cells.ensures ∙ c.requires) c.args.frame.now) is

pub returns : goal.returns
returns c =
    let is : config_at c.args.p.now c.args.frame.now c.args.frame.now.body ≡ Some (config_of c.in-Some.machine) =
    sym c.in_ok-machine.ensures ∙ ap (option_map config_of) c.in-Some.is in
    if_ok_map c.snapshot_at.result (λ snapshot there. there
    ∙ snapshot_met c.args.p.now c.args.frame.now c.in-Some.machine c.run.new.machine c.in_ok-cells.cells c.run.new.cells c.new-prints.result c.run.new.prints
    c.in_ok-ending.ending is c.in_ok-ending.ensures
    ∙ ap (λ (xs : List ℤ). snapshot_of (flow_of c.args.p.now c.args.frame.now c.args.frame.now.body xs)) c.in_ok-cells.ensures) c.snapshot_at.ensures
