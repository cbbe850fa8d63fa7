use Rattle.std.proofs.Common.{◌≡◌, List, true, length, sym, ◌∙◌, subst, arith}
use Rattle.std.proofs.lemmas.Bool.{leb-true}
use Rattle.effect_infer.specs.declared.needs.need.Need.{Need}
use Rattle.effect_infer.specs.Spread.{are_spread_out}
use Rattle.effect_infer.specs.Crowded.{AreWitnesses}
use Rattle.effect_infer.proofs.Crowding.{crowded-by}
use Rattle.effect_infer.proofs.crowd.is_crowded.Goals.{then-len-ge-MOST_NOTED, else-len-ge-MOST_NOTED}
use Rattle.effect_infer.proofs.crowd.is_crowded.Goals as goal

-- there are enough of them, and they are spread out
pub returns : goal.returns
returns c =
    let all = c.args.all.now in
    let found = c.args.found.now in
    let needs = c.in_ok-needs.needs in
    elim c.if-len-ge-MOST_NOTED.branch [
      | then-len-ge-MOST_NOTED w ↦ λ h.
          crowded-by all found needs (sym c.is_same_for_callers.ensures ∙ c.if-not-is_same_for_callers.false)
          (subst (λ r. AreWitnesses all found.method r needs) c.rank.ensures.rank c.in_ok-needs.ensures)
          (let many = w.if-len-ge-MOST_NOTED.true in let long : c.len.result ≡ length needs = c.len.ensures in omega (arith, many, long))
          (subst (λ (xs : List Need). are_spread_out xs found.need ≡ true) w.as_slice.ensures (sym w.is_spread_out.ensures ∙ sym w.result-is ∙ h))
      | else-len-ge-MOST_NOTED w ↦ λ h.
          absurd (let many = leb-true 9 c.len.result (sym w.result-is ∙ h) in let few = w.if-len-ge-MOST_NOTED.false in omega (arith, many, few))
    ]
