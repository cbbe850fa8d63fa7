-- Declared effects that nothing needs can be left out.
use Rattle.std.proofs.Common.{◌≡◌, Bool, true, false, List, [], ◌∷◌, if◌then◌else◌, inl, inr, sym, subst}
use Rattle.std.specs.List.{Contains}
use Rattle.std.proofs.lemmas.Bool.{false≢true}
use Rattle.twe_base.proofs.Members.{contains-in, in-list_any, or-true, true-or}
use Rattle.effect_sets.specs.declared.effects.Effect.{Effect}
use Rattle.effect_sets.specs.Covers.{effect_covers}
use Rattle.summary_comparing.specs.Comparisons.{is_needed, needed_effects}
use Rattle.summary_comparing.specs.Widest.{covers_some, is_under}

-- one more, or not
under-more : (b : Bool) (e need : Effect) (rest : List Effect) → is_under rest need ≡ true → is_under (if b then e ∷ rest else rest) need ≡ true
under-more true e need rest h = true-or (effect_covers e need) (is_under rest need) (inr h)
under-more false e need rest h = h

module _ (body children : List Effect) (need : Effect) (is : (e : Effect) → effect_covers e need ≡ true → is_needed body children e ≡ true) where
  pub stays-under : (declared : List Effect) → is_under declared need ≡ true → is_under (needed_effects body children declared) need ≡ true
  stays-under [] h = absurd (false≢true h)
  stays-under (e ∷ declared) h = elim (or-true (effect_covers e need) (is_under declared need) h) [
    | inl here ↦
        let rest = needed_effects body children declared in
        subst (λ (b : Bool). is_under (if b then e ∷ rest else rest) need ≡ true) (sym (is e here))
        (true-or (effect_covers e need) (is_under rest need) (inl here))
    | inr later ↦ under-more (is_needed body children e) e need (needed_effects body children declared) (stays-under declared later)
  ]

pub needed-by-body : (body children : List Effect) (need e : Effect) → Contains body need → effect_covers e need ≡ true → is_needed body children e ≡ true
needed-by-body body children need e c h =
    true-or (covers_some body e) (covers_some children e) (inl (in-list_any (λ narrow. effect_covers e narrow) body need (contains-in body need c) h))

pub needed-by-child : (body children : List Effect) (need e : Effect) → Contains children need → effect_covers e need ≡ true → is_needed body children e ≡ true
needed-by-child body children need e c h =
    true-or (covers_some body e) (covers_some children e) (inr (in-list_any (λ narrow. effect_covers e narrow) children need (contains-in children need c) h))
