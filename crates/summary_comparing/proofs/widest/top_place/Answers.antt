use Rattle.std.proofs.Common.{◌≡◌, ◌<◌, ◌+◌, ℕ, length, get_or, sym, ◌∙◌, subst}
use Rattle.summary_comparing.proofs.Tops.{IsTopSoFar, top-kept, top-next, top-of-all}
use Rattle.summary_comparing.proofs.widest.top_place.Goals.{then-covers_effect, else-covers_effect}
use Rattle.summary_comparing.proofs.widest.top_place.Goals as goal

-- the next one covers it, or it stays
pub loop-at-preserved : goal.loop-at-preserved
loop-at-preserved c =
    let effects = c.args.effects.now in
    let at = c.loop-at.at in
    let top = c.loop-at.top in
    let e = c.index-effects-at.result in
    let t = c.index-effects-top.result in
    let below = c.loop-at-test.true in
    let inside = c.loop-at.invariant.inside in
    let is : e ≡ get_or effects at e = c.index-effects-at.is in
    let was : t ≡ get_or effects top t = c.index-effects-top.is in
    let old : IsTopSoFar effects at top = c.loop-at.invariant.so_far in
    record {
      inside = elim c.if-covers_effect.branch [
        | then-covers_effect w ↦ subst (λ (i : ℕ). i < length effects) (sym w.top-is) below
        | else-covers_effect w ↦ subst (λ (i : ℕ). i < length effects) (sym w.top-is) inside
      ];
      so_far = elim c.if-covers_effect.branch [
        | then-covers_effect w ↦ subst (IsTopSoFar effects (at + 1)) (sym w.top-is)
            (top-next effects at top e t below inside is was old (sym c.covers_effect.ensures ∙ w.if-covers_effect.true))
        | else-covers_effect w ↦ subst (IsTopSoFar effects (at + 1)) (sym w.top-is)
            (top-kept effects at top e t below inside is was old (sym c.covers_effect.ensures ∙ w.if-covers_effect.false))
      ];
    }

-- all have been looked at
pub returns-clause-top : goal.returns-clause-top
returns-clause-top c = top-of-all c.args.effects.now c.loop-at.at c.loop-at.top c.loop-at-test.false c.loop-at.invariant.so_far
