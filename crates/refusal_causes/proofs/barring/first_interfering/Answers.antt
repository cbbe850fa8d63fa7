use Rattle.std.proofs.Common.{◌≡◌, ◌∙◌, false, List, sym, subst}
use Rattle.std.specs.List.{All}
use Rattle.effect_sets.specs.declared.effects.Effect.{Effect}
use Rattle.effect_sets.specs.Interference.{statically_interferes}
use Rattle.refusal_causes.proofs.Loops.{one_more, whole}
use Rattle.refusal_causes.proofs.barring.first_interfering.Goals as goal

-- one more does not interfere
pub loop-other-preserved : goal.loop-other-preserved
loop-other-preserved c =
    one_more (λ other. statically_interferes c.args.effect.now other ≡ false) c.as_slice-other-items.result.now
    c.loop-other.other-index c.other-item.result c.loop-other-test.true c.other-item.is c.loop-other.invariant
    (sym c.interferes.ensures.exact ∙ c.if-interferes.false)

-- none does
pub returns-clause-none : goal.returns-clause-none
returns-clause-none c =
    let P : Effect → Type 0 = λ other. statically_interferes c.args.effect.now other ≡ false in
    subst (λ (xs : List Effect). All P xs) c.as_slice-other-items.ensures
    (whole P c.as_slice-other-items.result.now c.loop-other.other-index c.loop-other-test.false c.loop-other.invariant)
