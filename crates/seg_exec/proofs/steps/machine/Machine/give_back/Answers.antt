use Rattle.std.proofs.Common.{◌∷◌, ℤ, SFits, w32, of_z, to_z, ap, sym, ◌∙◌, rules}
use Rattle.std.proofs.lemmas.Int.{to_z-of_z}
use Rattle.seg_exec.specs.declared.steps.continuation.Recovered.{Recovered}
use Rattle.seg_exec.specs.declared.steps.continuation.Recovered.TheVariants.{Caller, Block, Return, Nothing}
use Rattle.seg_exec.specs.inner.steps.Calls.{calls_of}
use Rattle.seg_exec.specs.inner.steps.Continuations.{with_operand}
use Rattle.seg_exec.specs.inner.steps.Steps.{on, returned}
use Rattle.seg_exec.specs.inner.steps.Views.{callers_past, calls_past, config_of, continuations_of, recovery_of, returning_past}
use Rattle.seg_exec.proofs.steps.Callers.{returned_as}
use Rattle.seg_exec.proofs.strides.Returning.{returned_same}
use Rattle.seg_exec.proofs.steps.machine.Machine.give_back.Goals as goal

pub frames-preserved-in-Block : goal.frames-preserved-in-Block
frames-preserved-in-Block c =
    let old = record (with_operand (to_z w32 (of_z w32 c.args.value)) (config_of c.frames.self)) { calls = calls_of c.pop.new.self } in
    let work = continuations_of c.frames.self.vars.callers c.pop.new.self in
    returned_same work work old
    ∙ sym (returned_as (record c.frames.self { operands = (to_z w32 (of_z w32 c.args.value)) ∷ c.frames.self.operands }) c.in-Some.work c.pop.new.self (Block c.in-Block.field-0) c.in-Some.ensures
    (λ xs. ap (recovery_of xs) (sym c.in-Block.is) ∙ c.recovered.ensures.recovery xs) (λ xs. ap (λ (x : Recovered). returning_past x xs) (sym c.in-Block.is) ∙ c.recovered.ensures.returning xs)
    (λ xs. ap (λ (x : Recovered). callers_past x xs) (sym c.in-Block.is) ∙ c.recovered.ensures.callers xs)
    (λ xs. ap (λ (x : Recovered). calls_past x xs) (sym c.in-Block.is) ∙ c.recovered.ensures.calls xs))
    ∙ c.frames.invariant

pub frames-preserved-in-Return : goal.frames-preserved-in-Return
frames-preserved-in-Return c =
    let old = record (with_operand (to_z w32 (of_z w32 c.args.value)) (config_of c.frames.self)) { calls = calls_of c.pop.new.self } in
    let work = continuations_of c.frames.self.vars.callers c.pop.new.self in
    returned_same work work old
    ∙ sym (returned_as (record c.frames.self { operands = (to_z w32 (of_z w32 c.args.value)) ∷ c.frames.self.operands }) c.in-Some.work c.pop.new.self Return c.in-Some.ensures
    (λ xs. ap (recovery_of xs) (sym c.in-Return.is) ∙ c.recovered.ensures.recovery xs) (λ xs. ap (λ (x : Recovered). returning_past x xs) (sym c.in-Return.is) ∙ c.recovered.ensures.returning xs)
    (λ xs. ap (λ (x : Recovered). callers_past x xs) (sym c.in-Return.is) ∙ c.recovered.ensures.callers xs)
    (λ xs. ap (λ (x : Recovered). calls_past x xs) (sym c.in-Return.is) ∙ c.recovered.ensures.calls xs))
    ∙ c.frames.invariant

pub frames-preserved : goal.frames-preserved
frames-preserved c =
    let old = record (with_operand (to_z w32 (of_z w32 c.args.value)) (config_of c.frames.self)) { calls = calls_of c.pop.new.self } in
    let work = continuations_of c.frames.self.vars.callers c.pop.new.self in
    returned_same work work old
    ∙ sym (returned_as (record c.frames.self { operands = (to_z w32 (of_z w32 c.args.value)) ∷ c.frames.self.operands }) c.in-Some.work c.pop.new.self Nothing c.in-Some.ensures
    (λ xs. ap (recovery_of xs) (sym c.in-Nothing.is) ∙ c.recovered.ensures.recovery xs) (λ xs. ap (λ (x : Recovered). returning_past x xs) (sym c.in-Nothing.is) ∙ c.recovered.ensures.returning xs)
    (λ xs. ap (λ (x : Recovered). callers_past x xs) (sym c.in-Nothing.is) ∙ c.recovered.ensures.callers xs)
    (λ xs. ap (λ (x : Recovered). calls_past x xs) (sym c.in-Nothing.is) ∙ c.recovered.ensures.calls xs))
    ∙ c.frames.invariant

pub returns-in-Caller : goal.returns-in-Caller
returns-in-Caller c =
    let initial = config_of c.args.self.now in
    let fits : SFits w32 c.args.value = search rules in
    ap on (c.in_ok-back-in-Caller.ensures c.in-Caller.call)
    ∙ sym (returned_as (record c.frames.self { operands = (to_z w32 (of_z w32 c.args.value)) ∷ c.frames.self.operands }) c.in-Some.work c.pop.new.self (Caller c.in-Caller.count c.in-Caller.call) c.in-Some.ensures
    (λ xs. ap (recovery_of xs) (sym c.in-Caller.is) ∙ c.recovered.ensures.recovery xs) (λ xs. ap (λ (x : Recovered). returning_past x xs) (sym c.in-Caller.is) ∙ c.recovered.ensures.returning xs)
    (λ xs. ap (λ (x : Recovered). callers_past x xs) (sym c.in-Caller.is) ∙ c.recovered.ensures.callers xs)
    (λ xs. ap (λ (x : Recovered). calls_past x xs) (sym c.in-Caller.is) ∙ c.recovered.ensures.calls xs))
    ∙ c.frames.invariant
    ∙ ap (λ (value : ℤ). returned initial.work (with_operand value initial)) (to_z-of_z w32 c.args.value fits)
