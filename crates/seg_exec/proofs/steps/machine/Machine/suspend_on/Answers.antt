use Rattle.std.proofs.Common.{ap, sym, ◌∙◌}
use Rattle.seg_exec.specs.declared.steps.continuation.Recovered.{Recovered}
use Rattle.seg_exec.specs.declared.steps.continuation.Recovered.TheVariants.{Caller, Block, Return, Nothing}
use Rattle.seg_exec.specs.declared.steps.continuation.Suspension.{Suspension}
use Rattle.seg_exec.specs.inner.steps.Continuations.{Config, Suspend, to_do}
use Rattle.seg_exec.specs.inner.steps.Steps.{on}
use Rattle.seg_exec.specs.inner.steps.Views.{callers_past, calls_past, config_of, recovery_of, returning_past}
use Rattle.seg_exec.proofs.steps.Callers.{suspended_as}
use Rattle.seg_meaning.proofs.Results.{if_ok_map}
use Rattle.seg_exec.proofs.steps.machine.Machine.suspend_on.Goals as goal

pub returns-in-Caller : goal.returns-in-Caller
returns-in-Caller c =
    if_ok_map c.leave.result (λ request is. is ∙ sym (suspended_as c.args.self.now c.in-Some.work c.pop.new.self (Caller c.in-Caller.count c.in-Caller.call) c.in-Some.ensures
    (λ xs. ap (recovery_of xs) (sym c.in-Caller.is) ∙ c.recovered.ensures.recovery xs) (λ xs. ap (λ (x : Recovered). returning_past x xs) (sym c.in-Caller.is) ∙ c.recovered.ensures.returning xs)
    (λ xs. ap (λ (x : Recovered). callers_past x xs) (sym c.in-Caller.is) ∙ c.recovered.ensures.callers xs)
    (λ xs. ap (λ (x : Recovered). calls_past x xs) (sym c.in-Caller.is) ∙ c.recovered.ensures.calls xs)
    c.args.suspension.operation c.args.suspension.positions)) (c.leave.ensures c.in-Caller.call)

pub returns-in_ok-close-in-Block : goal.returns-in_ok-close-in-Block
returns-in_ok-close-in-Block c =
    if_ok_map c.suspend_below.result (λ request is. is ∙ ap (λ (s : Suspension). on (to_do (Suspend s.operation s.positions) (config_of (record c.args.self.now { work = c.pop.new.self })))) c.in_ok-close-in-Block.ensures
    ∙ sym (suspended_as c.args.self.now c.in-Some.work c.pop.new.self (Block c.in-Block.position) c.in-Some.ensures
    (λ xs. ap (recovery_of xs) (sym c.in-Block.is) ∙ c.recovered.ensures.recovery xs) (λ xs. ap (λ (x : Recovered). returning_past x xs) (sym c.in-Block.is) ∙ c.recovered.ensures.returning xs)
    (λ xs. ap (λ (x : Recovered). callers_past x xs) (sym c.in-Block.is) ∙ c.recovered.ensures.callers xs)
    (λ xs. ap (λ (x : Recovered). calls_past x xs) (sym c.in-Block.is) ∙ c.recovered.ensures.calls xs)
    c.args.suspension.operation c.args.suspension.positions)) c.suspend_below.ensures

pub returns-in_ok-push_return-in-Return : goal.returns-in_ok-push_return-in-Return
returns-in_ok-push_return-in-Return c =
    if_ok_map c.suspend_below-in-Return.result (λ request is. is ∙ ap (λ (x : Config). on (to_do (Suspend c.args.suspension.operation c.args.suspension.positions) x)) c.in_ok-push_return-in-Return.ensures
    ∙ sym (suspended_as c.args.self.now c.in-Some.work c.pop.new.self Return c.in-Some.ensures
    (λ xs. ap (recovery_of xs) (sym c.in-Return.is) ∙ c.recovered.ensures.recovery xs) (λ xs. ap (λ (x : Recovered). returning_past x xs) (sym c.in-Return.is) ∙ c.recovered.ensures.returning xs)
    (λ xs. ap (λ (x : Recovered). callers_past x xs) (sym c.in-Return.is) ∙ c.recovered.ensures.callers xs)
    (λ xs. ap (λ (x : Recovered). calls_past x xs) (sym c.in-Return.is) ∙ c.recovered.ensures.calls xs)
    c.args.suspension.operation c.args.suspension.positions)) c.suspend_below-in-Return.ensures

pub returns-in-Nothing : goal.returns-in-Nothing
returns-in-Nothing c =
    if_ok_map c.suspend_below-in-Nothing.result (λ request is. is ∙ sym (suspended_as c.args.self.now c.in-Some.work c.pop.new.self Nothing c.in-Some.ensures
    (λ xs. ap (recovery_of xs) (sym c.in-Nothing.is) ∙ c.recovered.ensures.recovery xs) (λ xs. ap (λ (x : Recovered). returning_past x xs) (sym c.in-Nothing.is) ∙ c.recovered.ensures.returning xs)
    (λ xs. ap (λ (x : Recovered). callers_past x xs) (sym c.in-Nothing.is) ∙ c.recovered.ensures.callers xs)
    (λ xs. ap (λ (x : Recovered). calls_past x xs) (sym c.in-Nothing.is) ∙ c.recovered.ensures.calls xs)
    c.args.suspension.operation c.args.suspension.positions)) c.suspend_below-in-Nothing.ensures
