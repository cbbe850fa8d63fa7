use Rattle.std.proofs.Common.{◌≡◌, ◌+◌, ◌≤◌, Some, List, [], ◌∷◌, ◌++◌, drop, length, SFits, w32, ℤ, ap, arith, rules, sym, subst, ◌∙◌}
use Rattle.std.proofs.lemmas.Int.{to_z-of_z}
use Rattle.std.proofs.lemmas.List.{drop_all}
use Rattle.twe_program.specs.Expression.{Expression, arguments_of}
use Rattle.seg_exec.specs.declared.steps.continuation.Goal.{Goal}
use Rattle.seg_meaning.specs.Access.{ways_of}
use Rattle.seg_exec.specs.inner.steps.Bodies.{with_active}
use Rattle.seg_exec.specs.inner.steps.Continuations.{Config}
use Rattle.seg_exec.specs.inner.steps.Reached.{standing_before}
use Rattle.seg_exec.specs.inner.strides.Strides.{Ends, Nears, fault_ending}
use Rattle.seg_exec.specs.inner.steps.Views.{config_before}
use Rattle.seg_exec.specs.inner.strides.Moving.{gathering_from}
use Rattle.seg_exec.proofs.steps.Callers.{with_first}
use Rattle.seg_exec.proofs.strides.Gathering.{argument_done, argument_fault, argument_may, gather_at, more_within, one_pushed, rest_of}
use Rattle.seg_exec.proofs.strides.GoingOn.{next_is}
use Rattle.seg_exec.proofs.strides.Performing.{placed}
use Rattle.seg_exec.proofs.strides.Strides.{may_near, near_carries, nears_more}
use Rattle.seg_exec.proofs.strides.arguments.evaluate_plain.Goals as goal

pub returns-then-not-is_plain : goal.returns-then-not-is_plain
returns-then-not-is_plain g c =
    let is = next_is c.args.args.now c.loop-next.next c.index-args-next.result c.loop-next-test.true c.index-args-next.is
    ∙ ap (λ (l : List Expression). c.index-args-next.result ∷ l) (sym (rest_of c.args.args.now (c.loop-next.next + 1))) in (
      c.loop-next.invariant.2,
      λ goal prints. subst (λ (l : List Expression). Nears c.args.p.now (ways_of g.C.Cells.known g.C.Cells.may_read g.C.Cells.may_write g.C.Cells.rule)
          (gathering_from c.args.count (arguments_of c.args.args.now) goal c.args.machine.now c.args.cells.now prints)
          (gathering_from c.args.count (arguments_of l) goal c.loop-next.machine c.loop-next.cells prints)) is (c.loop-next.invariant.0 goal prints),
    )

pub value_of-requires-clause-may : goal.value_of-requires-clause-may
value_of-requires-clause-may g c =
    let ways = ways_of g.C.Cells.known g.C.Cells.may_read g.C.Cells.may_write g.C.Cells.rule in
    let goal = c.requires.may.goal in
    let prints = c.requires.may.prints in
    let from = gathering_from c.args.count (arguments_of c.args.args.now) goal c.args.machine.now c.args.cells.now prints in
    let taken = drop c.args.count c.loop-next.machine.vars.active in
    let now = gather_at taken c.loop-next.next c.args.args.now goal (standing_before c.args.count c.loop-next.machine c.loop-next.cells prints) in
    let is = next_is c.args.args.now c.loop-next.next c.index-args-next.result c.loop-next-test.true c.index-args-next.is in
    argument_may c.args.p.now ways taken c.loop-next.next c.args.args.now goal c.index-args-next.result is c.first.result.now (config_before c.args.count c.loop-next.machine) c.loop-next.cells prints c.first.ensures
    (may_near c.args.p.now ways from now c.requires.may.may (c.loop-next.invariant.0 goal prints))

pub returns-in-Err : goal.returns-in-Err
returns-in-Err g c =
    λ goal prints.
    let ways = ways_of g.C.Cells.known g.C.Cells.may_read g.C.Cells.may_write g.C.Cells.rule in
    let from = gathering_from c.args.count (arguments_of c.args.args.now) goal c.args.machine.now c.args.cells.now prints in
    let taken = drop c.args.count c.loop-next.machine.vars.active in
    let now = gather_at taken c.loop-next.next c.args.args.now goal (standing_before c.args.count c.loop-next.machine c.loop-next.cells prints) in
    let is = next_is c.args.args.now c.loop-next.next c.index-args-next.result c.loop-next-test.true c.index-args-next.is in
    let left = config_before c.args.count c.loop-next.machine in
    subst (λ (config : Config). Ends c.args.p.now (ways_of g.C.Cells.known g.C.Cells.may_read g.C.Cells.may_write g.C.Cells.rule)
    (gathering_from c.args.count (arguments_of c.args.args.now) goal c.args.machine.now c.args.cells.now prints) (fault_ending c.in-Err.fault) (placed config c.value_of.new.cells prints))
    (sym (with_first c.loop-next.machine c.args.count c.truncate.new.self c.truncate.ensures))
    (near_carries c.args.p.now ways from now (placed left c.value_of.new.cells prints) (Some (fault_ending c.in-Err.fault)) (c.loop-next.invariant.0 goal prints)
    (argument_fault c.args.p.now ways taken c.loop-next.next c.args.args.now goal c.index-args-next.result is c.first.result.now left c.loop-next.cells c.value_of.new.cells prints c.in-Err.fault c.first.ensures c.in-Err.ensures))

pub loop-next-preserved : goal.loop-next-preserved
loop-next-preserved g c =
    let ways = ways_of g.C.Cells.known g.C.Cells.may_read g.C.Cells.may_write g.C.Cells.rule in
    let taken = drop c.args.count c.loop-next.machine.vars.active in
    let is = next_is c.args.args.now c.loop-next.next c.index-args-next.result c.loop-next-test.true c.index-args-next.is in
    let within : c.loop-next.next + 1 ≤ length c.args.args.now = omega arith in
    let fits : SFits w32 c.in-Ok.value = search rules in
    let pushed : c.push.new.self ≡ with_active (c.loop-next.machine.vars.active ++ c.in-Ok.value ∷ []) c.loop-next.machine.vars =
    c.in_ok-push-in-Ok.ensures ∙ ap (λ (v : ℤ). with_active (c.loop-next.machine.vars.active ++ v ∷ []) c.loop-next.machine.vars) (to_z-of_z w32 c.in-Ok.value fits) in (
      λ (goal : Goal) (prints : List ℤ). subst (λ standing. Nears c.args.p.now (ways_of g.C.Cells.known g.C.Cells.may_read g.C.Cells.may_write g.C.Cells.rule)
          (gathering_from c.args.count (arguments_of c.args.args.now) goal c.args.machine.now c.args.cells.now prints) standing)
          (sym (one_pushed c.loop-next.machine goal c.value_of.new.cells prints c.args.count (c.loop-next.next + 1) c.args.args.now c.push.new.self c.in-Ok.value c.loop-next.invariant.2 pushed))
          (nears_more c.args.p.now ways (gathering_from c.args.count (arguments_of c.args.args.now) goal c.args.machine.now c.args.cells.now prints)
          (gather_at taken c.loop-next.next c.args.args.now goal (standing_before c.args.count c.loop-next.machine c.loop-next.cells prints))
          (gather_at (taken ++ c.in-Ok.value ∷ []) (c.loop-next.next + 1) c.args.args.now goal (standing_before c.args.count c.loop-next.machine c.value_of.new.cells prints)) (c.loop-next.invariant.0 goal prints)
          (argument_done c.args.p.now ways taken c.loop-next.next c.args.args.now goal c.index-args-next.result is c.first.result.now (config_before c.args.count c.loop-next.machine) c.loop-next.cells c.value_of.new.cells prints c.in-Ok.value c.first.ensures c.in-Ok.ensures)),
      within,
      more_within c.loop-next.machine.vars c.push.new.self c.in-Ok.value c.args.count c.loop-next.invariant.2 pushed,
    )

pub returns : goal.returns
returns g c =
    let past : length c.args.args.now ≤ c.loop-next.next = omega arith in (
      c.loop-next.invariant.2,
      λ goal prints. subst (λ (l : List Expression). Nears c.args.p.now (ways_of g.C.Cells.known g.C.Cells.may_read g.C.Cells.may_write g.C.Cells.rule)
          (gathering_from c.args.count (arguments_of c.args.args.now) goal c.args.machine.now c.args.cells.now prints)
          (gathering_from c.args.count (arguments_of l) goal c.loop-next.machine c.loop-next.cells prints)) (drop_all c.loop-next.next c.args.args.now past) (c.loop-next.invariant.0 goal prints),
    )
