use Rattle.std.proofs.Common.{ap, sym, ◌∙◌}
use Rattle.seg_exec.specs.declared.steps.continuation.Recovered.{Recovered}
use Rattle.seg_exec.specs.declared.steps.continuation.Recovered.TheVariants.{Caller, Block, Return, Nothing}
use Rattle.seg_exec.specs.inner.steps.Continuations.{Config, Unwind, to_do}
use Rattle.seg_exec.specs.inner.steps.Steps.{on}
use Rattle.seg_exec.specs.inner.steps.Views.{callers_past, calls_past, recovery_of, returning_past}
use Rattle.seg_exec.proofs.steps.Callers.{unwound_as}
use Rattle.seg_meaning.proofs.Results.{if_ok_map}
use Rattle.seg_exec.proofs.steps.machine.Machine.unwind.Goals as goal

pub returns-in-Caller : goal.returns-in-Caller
returns-in-Caller c =
    if_ok_map c.hand_back.result (λ request is. is ∙ sym (unwound_as c.args.self.now c.in-Some.work c.pop.new.self (Caller c.in-Caller.count c.in-Caller.call) c.in-Some.ensures
    (λ xs. ap (recovery_of xs) (sym c.in-Caller.is) ∙ c.recovered.ensures.recovery xs) (λ xs. ap (λ (x : Recovered). returning_past x xs) (sym c.in-Caller.is) ∙ c.recovered.ensures.returning xs)
    (λ xs. ap (λ (x : Recovered). callers_past x xs) (sym c.in-Caller.is) ∙ c.recovered.ensures.callers xs)
    (λ xs. ap (λ (x : Recovered). calls_past x xs) (sym c.in-Caller.is) ∙ c.recovered.ensures.calls xs))) (c.hand_back.ensures c.in-Caller.call)

pub returns-in-Block : goal.returns-in-Block
returns-in-Block c =
    if_ok_map c.unwind_on.result (λ request is. is ∙ sym (unwound_as c.args.self.now c.in-Some.work c.pop.new.self (Block c.in-Block.field-0) c.in-Some.ensures
    (λ xs. ap (recovery_of xs) (sym c.in-Block.is) ∙ c.recovered.ensures.recovery xs) (λ xs. ap (λ (x : Recovered). returning_past x xs) (sym c.in-Block.is) ∙ c.recovered.ensures.returning xs)
    (λ xs. ap (λ (x : Recovered). callers_past x xs) (sym c.in-Block.is) ∙ c.recovered.ensures.callers xs)
    (λ xs. ap (λ (x : Recovered). calls_past x xs) (sym c.in-Block.is) ∙ c.recovered.ensures.calls xs))) c.unwind_on.ensures

pub returns-in_ok-push_return-in-Return : goal.returns-in_ok-push_return-in-Return
returns-in_ok-push_return-in-Return c =
    if_ok_map c.unwind_on-in-Return.result (λ request is. is ∙ ap (λ (x : Config). on (to_do Unwind x)) c.in_ok-push_return-in-Return.ensures
    ∙ sym (unwound_as c.args.self.now c.in-Some.work c.pop.new.self Return c.in-Some.ensures
    (λ xs. ap (recovery_of xs) (sym c.in-Return.is) ∙ c.recovered.ensures.recovery xs) (λ xs. ap (λ (x : Recovered). returning_past x xs) (sym c.in-Return.is) ∙ c.recovered.ensures.returning xs)
    (λ xs. ap (λ (x : Recovered). callers_past x xs) (sym c.in-Return.is) ∙ c.recovered.ensures.callers xs)
    (λ xs. ap (λ (x : Recovered). calls_past x xs) (sym c.in-Return.is) ∙ c.recovered.ensures.calls xs))) c.unwind_on-in-Return.ensures

pub returns-in-Nothing : goal.returns-in-Nothing
returns-in-Nothing c =
    if_ok_map c.unwind_on-in-Nothing.result (λ request is. is ∙ sym (unwound_as c.args.self.now c.in-Some.work c.pop.new.self Nothing c.in-Some.ensures
    (λ xs. ap (recovery_of xs) (sym c.in-Nothing.is) ∙ c.recovered.ensures.recovery xs) (λ xs. ap (λ (x : Recovered). returning_past x xs) (sym c.in-Nothing.is) ∙ c.recovered.ensures.returning xs)
    (λ xs. ap (λ (x : Recovered). callers_past x xs) (sym c.in-Nothing.is) ∙ c.recovered.ensures.callers xs)
    (λ xs. ap (λ (x : Recovered). calls_past x xs) (sym c.in-Nothing.is) ∙ c.recovered.ensures.calls xs))) c.unwind_on-in-Nothing.ensures
