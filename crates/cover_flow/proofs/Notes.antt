-- What is seen at a point of a row after something was noted.
use Rattle.std.proofs.Common.{◌≡◌, ◌<◌, ℕ, Bool, true, List, length, get_or, ◌⊎◌, inl, inr, sym, ap, ◌∙◌, subst}
use Rattle.std.proofs.lemmas.Bool.{cases_eq}
use Rattle.std.proofs.lemmas.List.{length-set, get_or-set_same, get_or-set_other}
use Rattle.cover_flow.specs.declared.facts.Fact.{Fact}
use Rattle.cover_flow.specs.inner.After.{nowhere, joined}
use Rattle.cover_flow.specs.inner.Marked.{noted}
use Rattle.cover_flow.proofs.FactLaws.{has, joined_left, joined_right, joined_from}

-- what a row has at a point
abbrev pub has_at : Bool → List Fact → ℕ → Bool
has_at b row point = has b (get_or row point nowhere)

pub length-noted : (row : List Fact) (point : ℕ) (seen : Fact) → length (noted row point seen) ≡ length row
length-noted row point seen = length-set row point (joined (get_or row point nowhere) seen)

at_noted : (row : List Fact) (point : ℕ) (seen : Fact) → point < length row → get_or (noted row point seen) point nowhere ≡ joined (get_or row point nowhere) seen
at_noted row point seen within = get_or-set_same row point (joined (get_or row point nowhere) seen) nowhere within

elsewhere : (row : List Fact) (point other : ℕ) (seen : Fact) → (point ≡ other → ⊥) → get_or (noted row other seen) point nowhere ≡ get_or row point nowhere
elsewhere row point other seen differs = get_or-set_other row other point (joined (get_or row other nowhere) seen) nowhere differs

pub noted_here : (b : Bool) (row : List Fact) (point : ℕ) (seen : Fact) → point < length row → has b seen ≡ true → has_at b (noted row point seen) point ≡ true
noted_here b row point seen within h = ap (has b) (at_noted row point seen within) ∙ joined_right b (get_or row point nowhere) seen h

pub noted_keeps : (b : Bool) (row : List Fact) (point other : ℕ) (seen : Fact) → point < length row → has_at b row point ≡ true → has_at b (noted row other seen) point ≡ true
noted_keeps b row point other seen within h =
    elim (cases_eq point other) [
      | inl same ↦
          let P : ℕ → Type 0 = λ q. has_at b (noted row q seen) point ≡ true in
          subst P same (ap (has b) (at_noted row point seen within) ∙ joined_left b (get_or row point nowhere) seen h)
      | inr differs ↦ ap (has b) (elsewhere row point other seen differs) ∙ h
    ]

pub noted_from : (b : Bool) (row : List Fact) (point other : ℕ) (seen : Fact) → point < length row → has_at b (noted row other seen) point ≡ true → (has_at b row point ≡ true) ⊎ ((other ≡ point) × (has b seen ≡ true))
noted_from b row point other seen within h =
    elim (cases_eq point other) [
      | inl same ↦
          let P : ℕ → Type 0 = λ q. has_at b (noted row q seen) point ≡ true in
          let here : has_at b (noted row point seen) point ≡ true = subst P (sym same) h in
          elim (joined_from b (get_or row point nowhere) seen (sym (ap (has b) (at_noted row point seen within)) ∙ here)) [
            | inl before ↦ inl before
            | inr new ↦ inr (sym same, new)
          ]
      | inr differs ↦ inl (sym (ap (has b) (elsewhere row point other seen differs)) ∙ h)
    ]
