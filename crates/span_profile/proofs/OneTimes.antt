-- Entries have one list of earliest times.
use Rattle.std.proofs.Common.{◌≡◌, ◌<◌, ◌≤◌, inl, inr, ℕ, zero, suc, List, [], ◌∷◌, length, refl, sym, ◌∙◌, arith}
use Rattle.std.specs.Prelude.{slice_index}
use Rattle.schedules.specs.Timetables.{AreEarliest}

-- lists of one length with the same numbers are one
pub same_numbers : (xs ys : List ℕ) → length xs ≡ length ys → ((i : ℕ) → i < length xs → slice_index xs i ≡ slice_index ys i) → xs ≡ ys
same_numbers [] [] many same = refl
same_numbers [] (y ∷ ys) many same = absurd (omega (arith, many))
same_numbers (x ∷ xs) [] many same = absurd (omega (arith, many))
same_numbers (x ∷ xs) (y ∷ ys) many same =
    let first : x ≡ y = same 0 (omega arith) in
    let rest = same_numbers xs ys (omega (arith, many)) (λ i below. same (suc i) (omega (arith, below))) in
    λ i. first i ∷ rest i

module _ (Leads : ℕ → ℕ → Type 0) (up : (i j : ℕ) → Leads i j → i < j) (weight : ℕ → ℕ) (count : ℕ) where
  -- no entry starts later by one list than by another
  no_later : (span other : ℕ) (starts ends firsts lasts : List ℕ) → AreEarliest Leads weight count span starts ends → AreEarliest Leads weight count other firsts lasts
      → (bound entry : ℕ) → entry < bound → entry < count → slice_index starts entry ≤ slice_index firsts entry
  no_later span other starts ends firsts lasts one two zero entry under below = absurd (omega (arith, under))
  no_later span other starts ends firsts lasts one two (suc bound) entry under below = elim (one.tight entry below) [
    | inl first ↦ omega (arith, first)
    | inr before ↦
        let less = up before.0 entry before.2 in
        let rest = no_later span other starts ends firsts lasts one two bound before.0 (omega (arith, less, under)) before.1 in
        let takes = one.takes before.0 before.1 in
        let also = two.takes before.0 before.1 in
        let order = two.ordered before.0 entry before.1 below before.2 in
        let until = before.3 in
        omega (arith, rest, takes, also, order, until)
  ]

  module _ (span other : ℕ) (starts ends firsts lasts : List ℕ) (one : AreEarliest Leads weight count span starts ends) (two : AreEarliest Leads weight count other firsts lasts) where
    same_start : (entry : ℕ) → entry < count → slice_index starts entry ≡ slice_index firsts entry
    same_start entry below =
        let least = no_later span other starts ends firsts lasts one two (suc entry) entry (omega arith) below in
        let most = no_later other span firsts lasts starts ends two one (suc entry) entry (omega arith) below in
        omega (arith, least, most)

    same_end : (entry : ℕ) → entry < count → slice_index ends entry ≡ slice_index lasts entry
    same_end entry below =
        let start = same_start entry below in
        let takes = one.takes entry below in
        let also = two.takes entry below in
        omega (arith, start, takes, also)

    least_span : span ≤ other
    least_span = elim one.reached [
      | inl none ↦ omega (arith, none)
      | inr last ↦ (let end = same_end last.0 last.1 in let within = two.within last.0 last.1 in let there = last.2 in omega (arith, end, within, there))
    ]

  pub one_earliest : (span other : ℕ) (starts ends firsts lasts : List ℕ) → AreEarliest Leads weight count span starts ends → AreEarliest Leads weight count other firsts lasts
      → (span ≡ other) × (starts ≡ firsts) × (ends ≡ lasts)
  one_earliest span other starts ends firsts lasts one two = (
    (let least = least_span span other starts ends firsts lasts one two in let most = least_span other span firsts lasts starts ends two one in omega (arith, least, most)),
    same_numbers starts firsts (one.starts_count ∙ sym two.starts_count) (λ entry below. let many = one.starts_count in same_start span other starts ends firsts lasts one two entry (omega (arith, below, many))),
    same_numbers ends lasts (one.ends_count ∙ sym two.ends_count) (λ entry below. let many = one.ends_count in same_end span other starts ends firsts lasts one two entry (omega (arith, below, many))),
  )
