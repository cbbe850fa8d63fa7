-- The search for an effect that covers each of those that cover it: from one place to the next.
use Rattle.std.proofs.Common.{◌≡◌, ◌<◌, ◌≤◌, ℕ, ◌+◌, true, false, List, length, get_or, take, sym, ◌∙◌, subst}
use Rattle.std.proofs.lemmas.Bool.{false≢true}
use Rattle.std.proofs.lemmas.List.{take_all}
use Rattle.std.proofs.lemmas.List.Elements.{All-more, All-weaker, at_read}
use Rattle.effect_sets.specs.declared.effects.Effect.{Effect}
use Rattle.effect_sets.specs.Covers.{effect_covers}
use Rattle.summary_comparing.specs.inner.Keeping.{IsTopAmong, IsTopAt}
use Rattle.summary_comparing.proofs.Covers.{cover-trans}

-- the effect at this place covers each of those so far that covers it
abbrev pub IsTopSoFar : List Effect → ℕ → ℕ → Type 0
IsTopSoFar effects at top = (d : Effect) → IsTopAmong (take at effects) (get_or effects top d)

-- it covers the other, if the other covers it
abbrev OverIfUnder : Effect → Effect → Type 0
OverIfUnder top other = effect_covers other top ≡ true → effect_covers top other ≡ true

module _ (effects : List Effect) (at top : ℕ) (e t : Effect) (below : at < length effects) (inside : top < length effects) (is : e ≡ get_or effects at e)
    (was : t ≡ get_or effects top t) (old : IsTopSoFar effects at top) where
  before : IsTopAmong (take at effects) t
  before = subst (IsTopAmong (take at effects)) (sym was) (old t)

  -- the next one covers it
  pub top-next : effect_covers e t ≡ true → IsTopSoFar effects (at + 1) at
  top-next h = at_read effects (IsTopAmong (take (at + 1) effects)) at e below is
      (All-more (OverIfUnder e) effects at e below
      (All-weaker (OverIfUnder t) (OverIfUnder e) (λ other over k. cover-trans e t other h (over (cover-trans other e t k h))) (take at effects) before)
      (subst (OverIfUnder e) is (λ k. k)))

  -- it does not
  pub top-kept : effect_covers e t ≡ false → IsTopSoFar effects (at + 1) top
  top-kept h = at_read effects (IsTopAmong (take (at + 1) effects)) top t inside was
      (All-more (OverIfUnder t) effects at e below before (subst (OverIfUnder t) is (λ k. absurd (false≢true (sym h ∙ k)))))

-- all have been looked at
pub top-of-all : (effects : List Effect) (at top : ℕ) → length effects ≤ at → IsTopSoFar effects at top → IsTopAt effects top
top-of-all effects at top past so_far d = subst (λ (es : List Effect). IsTopAmong es (get_or effects top d)) (take_all at effects past) (so_far d)
