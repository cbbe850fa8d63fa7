-- Rows that match.
use Rattle.std.proofs.Common.{◌≡◌, ◌<◌, ◌+◌, ℕ, List, Some, inl, inr, sym, ap, ◌∙◌, subst, arith}
use Rattle.std.specs.Prelude.{slice_get}
use Rattle.std.proofs.lemmas.Bool.{cases_lt}
use Rattle.machine_state.specs.declared.state.TaskRow.{TaskRow}
use Rattle.machine_state.proofs.lists.Places.{got_one}
use Rattle.state_copies.specs.inner.Rows.{RowsMatch}

-- one more row of each list was compared
pub more_match : (a b : List TaskRow) (t : ℕ) (x y : TaskRow) → slice_get a t ≡ Some x → slice_get b t ≡ Some y → RowsMatch x y
    → ((k : ℕ) (row other : TaskRow) → k < t → slice_get a k ≡ Some row → slice_get b k ≡ Some other → RowsMatch row other)
    → (k : ℕ) (row other : TaskRow) → k < t + 1 → slice_get a k ≡ Some row → slice_get b k ≡ Some other → RowsMatch row other
more_match a b t x y here there match before k row other below is also =
    elim (cases_lt k t) [
      | inl less ↦ before k row other less is also
      | inr high ↦
          let same : k ≡ t = omega arith in
          let first : x ≡ row = got_one (slice_get a t) here (ap (slice_get a) (sym same) ∙ is) in
          let second : y ≡ other = got_one (slice_get b t) there (ap (slice_get b) (sym same) ∙ also) in
          subst (λ (r : TaskRow). RowsMatch r other) first (subst (λ (r : TaskRow). RowsMatch x r) second match)
    ]
