-- The tasks that are shown are one choice.
use Rattle.std.proofs.Common.{◌≡◌, ◌<◌, ◌⊎◌, inl, inr, ℕ, zero, suc, Bool, true, false, List, [], ◌∷◌, length, refl, sym, ap, ◌∙◌, arith}
use Rattle.twe_draw.specs.picture.Choice.{AreShown, how_many, is_flagged}

-- a flag of the first list that is not one of the second
abbrev IsExtra : List Bool → List Bool → Type 0
IsExtra a b = (x : ℕ) × (is_flagged a x ≡ true) × (is_flagged b x ≡ false)

extra_on : (u v : Bool) (a b : List Bool) → IsExtra a b → IsExtra (u ∷ a) (v ∷ b)
extra_on u v a b extra = (suc extra.0, extra.1, extra.2)

extra : (a b : List Bool) → length a ≡ length b → how_many b < how_many a → IsExtra a b
extra [] [] many more = absurd (omega (arith, more))
extra [] (v ∷ b) many more = absurd (omega (arith, many))
extra (u ∷ a) [] many more = absurd (omega (arith, many))
extra (true ∷ a) (true ∷ b) many more = extra_on true true a b (extra a b (omega (arith, many)) (omega (arith, more)))
extra (true ∷ a) (false ∷ b) many more = (0, refl, refl)
extra (false ∷ a) (true ∷ b) many more = extra_on false true a b (extra a b (omega (arith, many)) (omega (arith, more)))
extra (false ∷ a) (false ∷ b) many more = extra_on false false a b (extra a b (omega (arith, many)) (omega (arith, more)))

-- two lists with as many flags are one, or each has a flag that the other has not
differ_on : (flag : Bool) (a b : List Bool) → (a ≡ b) ⊎ (IsExtra a b × IsExtra b a) → (flag ∷ a ≡ flag ∷ b) ⊎ (IsExtra (flag ∷ a) (flag ∷ b) × IsExtra (flag ∷ b) (flag ∷ a))
differ_on flag a b (inl same) = inl (ap (λ (l : List Bool). flag ∷ l) same)
differ_on flag a b (inr both) = inr (extra_on flag flag a b both.0, extra_on flag flag b a both.1)

differ : (a b : List Bool) → length a ≡ length b → how_many a ≡ how_many b → (a ≡ b) ⊎ (IsExtra a b × IsExtra b a)
differ [] [] many same = inl refl
differ [] (v ∷ b) many same = absurd (omega (arith, many))
differ (u ∷ a) [] many same = absurd (omega (arith, many))
differ (true ∷ a) (true ∷ b) many same = differ_on true a b (differ a b (omega (arith, many)) (omega (arith, same)))
differ (false ∷ a) (false ∷ b) many same = differ_on false a b (differ a b (omega (arith, many)) same)
differ (true ∷ a) (false ∷ b) many same = inr ((0, refl, refl), extra_on false true b a (extra b a (omega (arith, many)) (omega (arith, same))))
differ (false ∷ a) (true ∷ b) many same = inr (extra_on false true a b (extra a b (omega (arith, many)) (omega (arith, same))), (0, refl, refl))

flagged_below : (flags : List Bool) (x : ℕ) → is_flagged flags x ≡ true → x < length flags
flagged_below [] x is = absurd (cc (is))
flagged_below (flag ∷ flags) zero is = omega arith
flagged_below (flag ∷ flags) (suc x) is = let rest = flagged_below flags x is in omega (arith, rest)

module _ (most : ℕ) (works : List ℕ) (needed : List Bool) where
  -- what is not shown is not needed
  unneeded : (shown : List Bool) → AreShown most works needed shown → (x : ℕ) → is_flagged shown x ≡ false → is_flagged needed x ≡ false
  unneeded shown are x hidden = by_flag (is_flagged needed x) refl
    where
      by_flag : (flag : Bool) → is_flagged needed x ≡ flag → flag ≡ false
      by_flag false is = refl
      by_flag true is = let seen = are.needed_are x is in absurd (cc (seen, hidden))

  pub one_shown : (shown other : List Bool) → AreShown most works needed shown → AreShown most works needed other → shown ≡ other
  one_shown shown other a b = elim (differ shown other (a.each ∙ sym b.each) (a.count ∙ sym b.count)) [
    | inl same ↦ same
    | inr both ↦
        let x = both.0.0 in
        let y = both.1.0 in
        let x_below = flagged_below shown x both.0.1 in
        let y_below = flagged_below other y both.1.1 in
        let many = a.each in
        let also = b.each in
        let first = a.heaviest x y both.0.1 (unneeded other b x both.0.2) (omega (arith, y_below, also)) both.1.2 in
        let second = b.heaviest y x both.1.1 (unneeded shown a y both.1.2) (omega (arith, x_below, many)) both.0.2 in
        let least = first.no_less in
        let most_of = second.no_less in
        let less = first.lower_if_as_much (omega (arith, least, most_of)) in
        let more = second.lower_if_as_much (omega (arith, least, most_of)) in
        absurd (omega (arith, less, more))
  ]
