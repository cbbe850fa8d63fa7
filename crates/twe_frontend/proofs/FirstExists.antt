-- Where a rule fails, one failure comes first: what can't be is that each failure comes after another.
use Rattle.std.proofs.Common.{◌≡◌, ◌⊎◌, ◌<◌, ◌≤◌, ℕ, zero, suc, inl, inr, sym, ap, ◌∙◌, arith}
use Rattle.twe_base.specs.declared.place.Place.{Place}
use Rattle.twe_base.specs.Order.{NotAfter}

same_place : (a b : Place) → a.line ≡ b.line → a.col ≡ b.col → a ≡ b
same_place a b e f =
    let make : ℕ → ℕ → Place = λ l c. record { line = l; col = c } in
    ap (λ l. make l a.col) e ∙ ap (make b.line) f

sooner : (a b : ℕ) → (a < b) ⊎ ((a ≡ b) ⊎ (b < a))
sooner a b = grind arith

below_or_at : (a b : ℕ) → a < suc b → (a < b) ⊎ (a ≡ b)
below_or_at a b h = grind arith

module _ {R : Type 0} (number_of : R → ℕ) (Fails : R → Place → Type 0) where
  abbrev pub ComesBeforeAll : R → Place → Type 0
  ComesBeforeAll rule place = (other : R) (elsewhere : Place) → Fails other elsewhere → NotAfter number_of rule place other elsewhere

  -- no failure is in an earlier line; in this line at an earlier column; at this place with a lower number
  abbrev NoneBeforeLine : ℕ → Type 0
  NoneBeforeLine line = (rule : R) (place : Place) → Fails rule place → place.line < line → ⊥

  abbrev NoneBeforeCol : ℕ → ℕ → Type 0
  NoneBeforeCol line col = (rule : R) (place : Place) → Fails rule place → place.line ≡ line → place.col < col → ⊥

  abbrev NoneBelow : ℕ → ℕ → ℕ → Type 0
  NoneBelow line col number = (rule : R) (place : Place) → Fails rule place → place.line ≡ line → place.col ≡ col → number_of rule < number → ⊥

  module _ (none : (rule : R) (place : Place) → Fails rule place → ¬ ComesBeforeAll rule place) where
    -- a failure before which there is none comes before all
    comes_first : (rule : R) (place : Place) → NoneBeforeLine place.line → NoneBeforeCol place.line place.col → NoneBelow place.line place.col (number_of rule)
        → ComesBeforeAll rule place
    comes_first rule place lines cols numbers other its fails = elim (sooner its.line place.line) [
      | inl before ↦ absurd (lines other its fails before)
      | inr q ↦ elim q [
        | inr after ↦ inl (inl after)
        | inl line ↦ elim (sooner its.col place.col) [
          | inl before ↦ absurd (cols other its fails line before)
          | inr r ↦ elim r [
            | inr after ↦ inl (inr (sym line, after))
            | inl col ↦ elim (sooner (number_of other) (number_of rule)) [
              | inl lower ↦ absurd (numbers other its fails line col lower)
              | inr s ↦ inr (same_place place its (sym line) (sym col), elim s [ inl same ↦ omega arith | inr higher ↦ omega arith ])
            ]
          ]
        ]
      ]
    ]

    none_below : (line col : ℕ) → NoneBeforeLine line → NoneBeforeCol line col → (number : ℕ) → NoneBelow line col number
    none_below line col lines cols zero rule place fails at there low = absurd (omega arith)
    none_below line col lines cols (suc number) rule place fails at there low =
        let fewer : NoneBelow line col number = none_below line col lines cols number in
        elim (below_or_at (number_of rule) number low) [
          | inl lower ↦ fewer rule place fails at there lower
          | inr same ↦
              none rule place fails
              (comes_first rule place
              (λ other its wrong before. lines other its wrong (omega arith))
              (λ other its wrong line before. cols other its wrong (line ∙ at) (omega arith))
              (λ other its wrong line column lower. fewer other its wrong (line ∙ at) (column ∙ there) (omega arith)))
        ]

    none_before_col : (line : ℕ) → NoneBeforeLine line → (col : ℕ) → NoneBeforeCol line col
    none_before_col line lines zero rule place fails at before = absurd (omega arith)
    none_before_col line lines (suc col) rule place fails at before =
        let cols : NoneBeforeCol line col = none_before_col line lines col in
        elim (below_or_at place.col col before) [
          | inl earlier ↦ cols rule place fails at earlier
          | inr same ↦ none_below line col lines cols (suc (number_of rule)) rule place fails at same (omega arith)
        ]

    none_before_line : (line : ℕ) → NoneBeforeLine line
    none_before_line zero rule place fails before = absurd (omega arith)
    none_before_line (suc line) rule place fails before =
        let lines : NoneBeforeLine line = none_before_line line in
        elim (below_or_at place.line line before) [
          | inl earlier ↦ lines rule place fails earlier
          | inr same ↦ none_before_col line lines (suc place.col) rule place fails same (omega arith)
        ]

  -- if no failure comes before all, there is no failure
  pub no_first-none : ((rule : R) (place : Place) → Fails rule place → ¬ ComesBeforeAll rule place) → (rule : R) (place : Place) → ¬ Fails rule place
  no_first-none none rule place fails = none_before_line none (suc place.line) rule place fails (omega arith)
