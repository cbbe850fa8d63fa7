use Rattle.std.proofs.Common.{◌≡◌, ◌-◌, ◌∷◌, SFits, w32, true, false, drop, ap, refl, sym, ◌∙◌, subst, arith, rules}
use Rattle.std.proofs.lemmas.Bool.{ne_eqb}
use Rattle.std.specs.Prelude.{nat_eq}
use Rattle.twe_program.specs.Statement.{statements_of}
use Rattle.seg_exec.specs.declared.steps.machine.Machine.{Machine}
use Rattle.seg_exec.specs.declared.steps.request.Ending.{Ending}
use Rattle.seg_meaning.specs.Access.{ways_of}
use Rattle.seg_meaning.specs.Arithmetic.{is_true}
use Rattle.seg_exec.specs.inner.steps.Continuations.{Config, Execute, Turn, to_do}
use Rattle.seg_exec.specs.inner.steps.Reached.{standing}
use Rattle.seg_exec.specs.inner.steps.Views.{config_of}
use Rattle.seg_exec.specs.inner.strides.Strides.{Ends, Goes}
use Rattle.seg_exec.specs.inner.strides.Turning.{looping}
use Rattle.seg_exec.proofs.steps.Callers.{with_others}
use Rattle.seg_exec.proofs.strides.GoingOn.{rest_at}
use Rattle.seg_exec.proofs.strides.Performing.{carries_fault, placed}
use Rattle.seg_exec.proofs.strides.Turning.{body_done, body_faulted, body_left, body_may, loop_over, no_fuel}
use Rattle.seg_exec.proofs.strides.turn.make_turn.Goals as goal

pub returns-in-Err : goal.returns-in-Err
returns-in-Err g c =
    let old = config_of c.args.machine.now in
    carries_fault c.args.p.now (ways_of g.C.Cells.known g.C.Cells.may_read g.C.Cells.may_write g.C.Cells.rule) c.args.condition.now c.as_slice.result.now old (Turn c.args.again.now c.args.body.now c.args.place ∷ old.work) c.args.cells.now c.value_of.new.cells c.args.prints.now
    c.in-Err.fault c.ending.result c.as_slice.ensures c.in-Err.ensures c.ending.ensures

pub returns-then-not-is_true : goal.returns-then-not-is_true
returns-then-not-is_true g c =
    let ways = ways_of g.C.Cells.known g.C.Cells.may_read g.C.Cells.may_write g.C.Cells.rule in
    let fits : SFits w32 c.in-Ok.value = search rules in
    let fails : is_true c.in-Ok.value ≡ false = search rules in
    loop_over c.args.p.now ways c.args.condition.now c.args.again.now c.args.body.now c.args.place c.as_slice.result.now (config_of c.args.machine.now) c.args.cells.now c.value_of.new.cells c.args.prints.now c.in-Ok.value c.as_slice.ensures c.in-Ok.ensures fails

pub returns-then-machine-eq0 : goal.returns-then-machine-eq0
returns-then-machine-eq0 g c =
    let ways = ways_of g.C.Cells.known g.C.Cells.may_read g.C.Cells.may_write g.C.Cells.rule in
    let fits : SFits w32 c.in-Ok.value = search rules in
    let holds : is_true c.in-Ok.value ≡ true = search rules in
    no_fuel c.args.p.now ways c.args.condition.now c.args.again.now c.args.body.now c.args.place c.as_slice.result.now (config_of c.args.machine.now) c.args.cells.now c.value_of.new.cells c.args.prints.now c.in-Ok.value c.as_slice.ensures c.in-Ok.ensures _ holds (ap (λ n. nat_eq n 0) c.if-machine-eq0.true) refl

pub carry_out-requires : goal.carry_out-requires
carry_out-requires g c =
    let ways = ways_of g.C.Cells.known g.C.Cells.may_read g.C.Cells.may_write g.C.Cells.rule in
    let fits : SFits w32 c.in-Ok.value = search rules in
    let holds : is_true c.in-Ok.value ≡ true = search rules in
    let is : c.args.body.now ≡ statements_of (drop 0 c.as_slice-stmts.result.now) = search rules in
    body_may c.args.p.now ways c.args.condition.now c.args.again.now c.args.body.now c.args.place c.as_slice.result.now (config_of c.args.machine.now) c.args.cells.now c.value_of.new.cells c.args.prints.now c.in-Ok.value c.as_slice.ensures c.in-Ok.ensures holds (ne_eqb c.args.machine.now.fuel 0 c.if-machine-eq0.false)
    c.as_slice-stmts.result.now is c.requires.may

pub returns-in-Done : goal.returns-in-Done
returns-in-Done g c =
    let ways = ways_of g.C.Cells.known g.C.Cells.may_read g.C.Cells.may_write g.C.Cells.rule in
    let fits : SFits w32 c.in-Ok.value = search rules in
    let holds : is_true c.in-Ok.value ≡ true = search rules in
    let is : c.args.body.now ≡ statements_of (drop 0 c.as_slice-stmts.result.now) = search rules in
    let from = looping c.args.condition.now c.args.again.now c.args.body.now c.args.place (standing c.args.machine.now c.args.cells.now c.args.prints.now) in
    let taken : Machine = record c.args.machine.now { fuel = c.args.machine.now.fuel - 1 } in (
      subst (λ (x : Config). Goes c.args.p.now (ways_of g.C.Cells.known g.C.Cells.may_read g.C.Cells.may_write g.C.Cells.rule) from (looping c.args.condition.now c.args.again.now c.args.body.now c.args.place (placed x c.carry_out.new.cells c.args.prints.now)))
          (sym (with_others taken c.carry_out.new.vars c.carry_out.ensures.callers))
          (body_done c.args.p.now ways c.args.condition.now c.args.again.now c.args.body.now c.args.place c.as_slice.result.now (config_of c.args.machine.now) c.args.cells.now c.value_of.new.cells c.args.prints.now c.in-Ok.value c.as_slice.ensures c.in-Ok.ensures holds (ne_eqb c.args.machine.now.fuel 0 c.if-machine-eq0.false)
          c.as_slice-stmts.result.now is c.carry_out.new.vars.active c.carry_out.new.cells c.requires.again c.in-Done.ensures.does),
      omega arith,
    )

pub returns-in-Faulted : goal.returns-in-Faulted
returns-in-Faulted g c =
    let ways = ways_of g.C.Cells.known g.C.Cells.may_read g.C.Cells.may_write g.C.Cells.rule in
    let fits : SFits w32 c.in-Ok.value = search rules in
    let holds : is_true c.in-Ok.value ≡ true = search rules in
    let is : c.args.body.now ≡ statements_of (drop 0 c.as_slice-stmts.result.now) = search rules in
    let from = looping c.args.condition.now c.args.again.now c.args.body.now c.args.place (standing c.args.machine.now c.args.cells.now c.args.prints.now) in
    let taken : Machine = record c.args.machine.now { fuel = c.args.machine.now.fuel - 1 } in
    subst (λ (x : Config). Ends c.args.p.now (ways_of g.C.Cells.known g.C.Cells.may_read g.C.Cells.may_write g.C.Cells.rule) from c.ending-in-Faulted.result (placed x c.carry_out.new.cells c.args.prints.now))
    (sym (with_others taken c.carry_out.new.vars c.carry_out.ensures.callers))
    (subst (λ (e : Ending). Ends c.args.p.now ways from e (placed (record (config_of taken) { vars = c.carry_out.new.vars.active }) c.carry_out.new.cells c.args.prints.now)) (sym c.ending-in-Faulted.ensures)
    (body_faulted c.args.p.now ways c.args.condition.now c.args.again.now c.args.body.now c.args.place c.as_slice.result.now (config_of c.args.machine.now) c.args.cells.now c.value_of.new.cells c.args.prints.now c.in-Ok.value c.as_slice.ensures c.in-Ok.ensures holds (ne_eqb c.args.machine.now.fuel 0 c.if-machine-eq0.false)
    c.as_slice-stmts.result.now is c.carry_out.new.vars.active c.carry_out.new.cells c.in-Faulted.fault c.in-Faulted.ensures.does))

pub returns-in_ok-push-in-Left : goal.returns-in_ok-push-in-Left
returns-in_ok-push-in-Left g c =
    let ways = ways_of g.C.Cells.known g.C.Cells.may_read g.C.Cells.may_write g.C.Cells.rule in
    let fits : SFits w32 c.in-Ok.value = search rules in
    let holds : is_true c.in-Ok.value ≡ true = search rules in
    let is : c.args.body.now ≡ statements_of (drop 0 c.as_slice-stmts.result.now) = search rules in
    let from = looping c.args.condition.now c.args.again.now c.args.body.now c.args.place (standing c.args.machine.now c.args.cells.now c.args.prints.now) in
    let taken : Machine = record c.args.machine.now { fuel = c.args.machine.now.fuel - 1 } in
    subst (λ (x : Config). Goes c.args.p.now (ways_of g.C.Cells.known g.C.Cells.may_read g.C.Cells.may_write g.C.Cells.rule) from (rest_at 0 c.in-Left.at c.as_slice-stmts.result.now (placed x c.carry_out.new.cells c.args.prints.now)))
    (sym (c.in_ok-push-in-Left.ensures ∙ ap (to_do (Execute c.args.again.now)) (with_others taken c.carry_out.new.vars c.carry_out.ensures.callers)))
    (body_left c.args.p.now ways c.args.condition.now c.args.again.now c.args.body.now c.args.place c.as_slice.result.now (config_of c.args.machine.now) c.args.cells.now c.value_of.new.cells c.args.prints.now c.in-Ok.value c.as_slice.ensures c.in-Ok.ensures holds (ne_eqb c.args.machine.now.fuel 0 c.if-machine-eq0.false)
    c.as_slice-stmts.result.now is c.carry_out.new.vars.active c.carry_out.new.cells c.in-Left.at c.in-Left.ensures.does.1)
