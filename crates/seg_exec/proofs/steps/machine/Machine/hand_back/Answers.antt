use Rattle.std.proofs.Common.{List, ℤ, SFits, w32, ap, ◌∙◌, rules}
use Rattle.std.proofs.lemmas.Int.{to_z-of_z}
use Rattle.seg_exec.specs.declared.steps.continuation.Continuation.TheVariants.{Leave}
use Rattle.seg_exec.specs.inner.steps.Bodies.{last_of}
use Rattle.seg_exec.specs.inner.steps.Continuations.{top}
use Rattle.seg_exec.specs.inner.steps.Steps.{back_with, on}
use Rattle.seg_exec.specs.inner.steps.Views.{config_under}
use Rattle.seg_exec.proofs.steps.machine.Machine.hand_back.Goals as goal

pub returns : goal.returns
returns c = λ call.
    let old = c.args.self.now in
    let vars = last_of c.args.count old.vars.callers in
    let under = config_under (Leave c.args.count call) old in
    let fits : SFits w32 c.pop_or-value.result = search rules in
    ap on (c.in_ok-back.ensures call
    ∙ ap (λ (value : ℤ). back_with value vars (record under { operands = c.pop_or-value.new.self })) (to_z-of_z w32 c.pop_or-value.result fits ∙ c.pop_or-value.ensures.item)
    ∙ ap (λ (operands : List ℤ). back_with (top old.operands) vars (record under { operands = operands })) c.pop_or-value.ensures.rest)
