use Rattle.std.proofs.Common.{◌≡◌, ap, rules, sym, subst, ◌∙◌}
use Rattle.twe_program.specs.Expression.{Arguments, arguments_of}
use Rattle.seg_exec.specs.declared.steps.continuation.Goal.TheVariants.{Make}
use Rattle.seg_meaning.specs.Access.{ways_of}
use Rattle.seg_exec.specs.inner.steps.Reached.{standing}
use Rattle.seg_exec.specs.inner.strides.Moving.{Moves, course, gathering_from}
use Rattle.seg_exec.specs.inner.strides.Strides.{MayGo}
use Rattle.seg_meaning.proofs.Results.{if_ok_map}
use Rattle.seg_exec.proofs.strides.Gathering.{none_pushed}
use Rattle.seg_exec.proofs.strides.gather.make.Goals as goal

pub gather-requires-clause-may : goal.gather-requires-clause-may
gather-requires-clause-may g c =
    let same : arguments_of c.as_slice-args.result.now ≡ c.args.args.now = search rules in
    let begun = ap (λ (args : Arguments). gathering_from c.len-count.result args (Make c.args.future c.args.task c.args.spawned c.args.place) c.args.machine.now c.args.cells.now c.args.prints.now) same
    ∙ none_pushed c.args.machine.now (Make c.args.future c.args.task c.args.spawned c.args.place) c.args.cells.now c.args.prints.now c.len-count.result c.args.args.now c.len-count.ensures in
    subst (MayGo c.args.p.now (ways_of g.C.Cells.known g.C.Cells.may_read g.C.Cells.may_write g.C.Cells.rule)) (sym begun) c.requires

pub returns : goal.returns
returns g c =
    let same : arguments_of c.as_slice-args.result.now ≡ c.args.args.now = search rules in
    let begun = ap (λ (args : Arguments). gathering_from c.len-count.result args (Make c.args.future c.args.task c.args.spawned c.args.place) c.args.machine.now c.args.cells.now c.args.prints.now) same
    ∙ none_pushed c.args.machine.now (Make c.args.future c.args.task c.args.spawned c.args.place) c.args.cells.now c.args.prints.now c.len-count.result c.args.args.now c.len-count.ensures in
    let after = standing c.gather.new.machine c.gather.new.cells c.gather.new.prints in
    if_ok_map c.gather.result (λ onward rest. subst (λ from. Moves c.args.p.now (ways_of g.C.Cells.known g.C.Cells.may_read g.C.Cells.may_write g.C.Cells.rule) from (course onward c.gather.new.machine) after) begun rest) c.gather.ensures
