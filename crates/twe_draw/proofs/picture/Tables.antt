-- Tables of numbers, and what they say of bars after one more.
use Rattle.std.proofs.Common.{◌≡◌, ◌<◌, ◌++◌, ℕ, zero, suc, Bool, true, false, List, [], ◌∷◌, length, Option, None, Some, refl, sym, ap, ◌∙◌, inl, inr}
use Rattle.std.specs.Prelude.{◌==◌, ◌||◌, slice_set, if◌then◌else◌}
use Rattle.std.proofs.lemmas.Bool.{cases_eq, eq-eqb, ne_eqb}
use Rattle.std.proofs.lemmas.List.Sums.{fold_push}
use Rattle.machine_state.proofs.lists.Places.{below_there, set_other, set_same}
use Rattle.twe_draw.specs.picture.Bars.{concerns, has_done, last_that}
use Rattle.twe_draw.specs.declared.picture.bars.Bars.{Bars}
use Rattle.twe_draw.specs.declared.picture.bars.EntryBar.{EntryBar}
use Rattle.twe_draw.specs.picture.inner.Known.{AreKnown, number_at, number_found}

-- room for one task more changes nothing
pub room_more : (numbers : List (Option ℕ)) (task : ℕ) → number_at (numbers ++ None ∷ []) task ≡ number_at numbers task
room_more [] zero = refl
room_more [] (suc task) = refl
room_more (number ∷ numbers) zero = refl
room_more (number ∷ numbers) (suc task) = room_more numbers task

-- a task has got a number
pub put_at : (numbers : List (Option ℕ)) (task t number : ℕ) → task < length numbers
    → number_at (slice_set numbers task (Some number)) t ≡ (if t == task then Some number else number_at numbers t)
put_at numbers task t number below = elim (cases_eq t task) [ inl same ↦ at_same same | inr differ ↦ at_other differ ]
  where
    at_same : t ≡ task → number_at (slice_set numbers task (Some number)) t ≡ (if t == task then Some number else number_at numbers t)
    at_same same =
        let there = below_there numbers task below in
        ap (number_at (slice_set numbers task (Some number))) same
        ∙ (ap number_found (set_same numbers task there.0 (Some number) there.1)
        ∙ sym (ap (λ (b : Bool). if b then Some number else number_at numbers t) (eq-eqb t task same)))

    at_other : ¬ (t ≡ task) → number_at (slice_set numbers task (Some number)) t ≡ (if t == task then Some number else number_at numbers t)
    at_other differ =
        ap number_found (set_other numbers task t (Some number) differ)
        ∙ sym (ap (λ (b : Bool). if b then Some number else number_at numbers t) (ne_eqb t task differ))

-- a task that is one of two got the number
pub one_of_two : (number : ℕ) (old : Option ℕ) (a b : Bool) → (if b then Some number else (if a then Some number else old)) ≡ (if a || b then Some number else old)
one_of_two number old true true = refl
one_of_two number old true false = refl
one_of_two number old false b = refl

-- or one that is the first
pub the_first : (number : ℕ) (old : Option ℕ) (a : Bool) → (if a then Some number else old) ≡ (if a || false then Some number else old)
the_first number old true = refl
the_first number old false = refl

-- the last of the bars that passes a test, with one more bar
last_more : (test : EntryBar → Bool) (bars : List EntryBar) (bar : EntryBar) → last_that test (bars ++ bar ∷ []) ≡ (if test bar then Some bar.number else last_that test bars)
last_more test bars bar = fold_push (λ (last : Option ℕ) (b : EntryBar). if test b then Some b.number else last) None bars bar

pub none_known : (bars : Bars) → bars.marks ≡ [] → bars.lasts ≡ [] → bars.done ≡ [] → AreKnown bars
none_known bars none lasts done = record {
  last = λ task. ap (λ (l : List (Option ℕ)). number_at l task) lasts ∙ sym (ap (last_that (concerns task)) none);
  done_by = λ task. ap (λ (l : List (Option ℕ)). number_at l task) done ∙ sym (ap (last_that (has_done task)) none);
}

-- both are known of one bar more
pub known_more : (old new : Bars) (bar : EntryBar) → AreKnown old → new.marks ≡ old.marks ++ bar ∷ []
    → ((t : ℕ) → number_at new.lasts t ≡ (if concerns t bar then Some bar.number else number_at old.lasts t))
    → ((t : ℕ) → number_at new.done t ≡ (if has_done t bar then Some bar.number else number_at old.done t)) → AreKnown new
known_more old new bar known marks lasts done = record {
  last = λ task.
      lasts task
      ∙ (ap (λ (l : Option ℕ). if concerns task bar then Some bar.number else l) (known.last task)
      ∙ (sym (last_more (concerns task) old.marks bar) ∙ sym (ap (last_that (concerns task)) marks)));
  done_by = λ task.
      done task
      ∙ (ap (λ (l : Option ℕ). if has_done task bar then Some bar.number else l) (known.done_by task)
      ∙ (sym (last_more (has_done task) old.marks bar) ∙ sym (ap (last_that (has_done task)) marks)));
}
