-- How often each task was enabled: by its admission, or by the entry that made it.
use Rattle.std.proofs.Common.{◌≡◌, ◌<◌, ◌≤◌, ◌+◌, ℕ, zero, suc, Bool, true, false, List, [], ◌∷◌, length, Option, None, Some, cond, refl, sym, ap, ◌∙◌, arith}
use Rattle.std.specs.Prelude.{◌||◌, ◌&&◌, count_by, if◌then◌else◌, is_some, slice_get}
use Rattle.std.proofs.lemmas.Bool.{le-ltb}
use Rattle.std.proofs.lemmas.List.Sums.{sum_by-cons}
use Rattle.seg_journal.specs.declared.journal.Entry.{Entry}
use Rattle.twe_base.specs.Limits.{Bounds}
use Rattle.twe_program.specs.Program.{Program}
use Rattle.machine_state.specs.declared.state.State.{State}
use Rattle.machine_state.specs.declared.state.TaskRow.{TaskRow}
use Rattle.machine_state.specs.declared.state.TaskStatus.{TaskStatus}
use Rattle.machine_state.specs.Runs.{AllTasksDone, admits, makes}
use Rattle.machine_state.proofs.counts.JournalCounts.{Counts, times_made, times_admitted, times_admitted_at, times_finished}
use Rattle.machine_state.proofs.counts.Once.{at_most_once, not_past, once}
use Rattle.machine_state.proofs.lists.RowNumbers.{number_at}
use Rattle.machine_state.proofs.standing.Standing.{Stands}
use Rattle.run_theorem.specs.Journals.{EachEnabledAtMostOnce, EachEnabledOnce, NothingHappened, enables, is_spawned_row}

-- Counts of entries that meet one of two conditions.

count_next : (test : Entry → Bool) (entry : Entry) (entries : List Entry) → count_by test (entry ∷ entries) ≡ cond (test entry) 1 0 + count_by test entries
count_next test = sum_by-cons (λ (e : Entry). cond (test e) 1 0)

or_false : (b : Bool) → (b || false) ≡ b
or_false true = refl
or_false false = refl

-- one entry more
or_more : (first second : Bool) (rest more all : ℕ) → cond first 1 0 + rest ≡ 0 → (rest ≡ 0 → all ≡ more) → cond (first || second) 1 0 + all ≡ cond second 1 0 + more
or_more true second rest more all none same = absurd (omega (arith, none))
or_more false second rest more all none same = ap (λ (k : ℕ). cond second 1 0 + k) (same (omega (arith, none)))

-- if no entry meets the first
or_count : (first second : Entry → Bool) (entries : List Entry) → count_by first entries ≡ 0 → count_by (λ (e : Entry). first e || second e) entries ≡ count_by second entries
or_count first second [] none = refl
or_count first second (entry ∷ entries) none =
    count_next (λ (e : Entry). first e || second e) entry entries
    ∙ (or_more (first entry) (second entry) (count_by first entries) (count_by second entries) (count_by (λ (e : Entry). first e || second e) entries)
    (sym (count_next first entry entries) ∙ none) (or_count first second entries)
    ∙ sym (count_next second entry entries))

-- Rows.

-- a spawned task is never admitted
spawned_at : (parent : Option ℕ) (status : TaskStatus) → is_some parent ≡ true → times_admitted_at parent status ≡ 0
spawned_at None status spawned = absurd (cc (spawned))
spawned_at (Some q) status spawned = refl

spawned_none : (found : Option TaskRow) → is_spawned_row found ≡ true → number_at times_admitted found ≡ 0
spawned_none None spawned = absurd (cc (spawned))
spawned_none (Some row) spawned = spawned_at row.parent row.status spawned

-- a spawned task is not task 0
above_zero : (parent : Option ℕ) (t : ℕ) → ((q : ℕ) → parent ≡ Some q → q < t) → is_some parent ≡ true → 0 < t
above_zero None t above spawned = absurd (cc (spawned))
above_zero (Some q) t above spawned = let low = above q refl in omega (arith, low)

-- past the end there is no row
past_end : (rows : List TaskRow) (t : ℕ) → length rows ≤ t → slice_get rows t ≡ None
past_end [] t past = refl
past_end (row ∷ rows) zero past = absurd (omega (arith, past))
past_end (row ∷ rows) (suc t) past = past_end rows t (omega (arith, past))

none_made : (t n : ℕ) → n ≤ t → times_made t n ≡ 0
none_made zero n past = refl
none_made (suc t) n past = ap (λ (b : Bool). cond b 1 0) (le-ltb (suc t) n past)

-- the one of two numbers that a flag picks
picked_le : (spawned : Bool) (made admitted enabled : ℕ) → enabled ≡ cond spawned made admitted → made ≤ 1 → admitted ≤ 1 → enabled ≤ 1
picked_le true made admitted enabled is some few = omega (arith, is, some)
picked_le false made admitted enabled is some few = omega (arith, is, few)

picked_one : (spawned : Bool) (made admitted : ℕ) → (spawned ≡ true → made ≡ 1) → admitted ≡ (if spawned then 0 else 1) → cond spawned made admitted ≡ 1
picked_one true made admitted first other = first refl
picked_one false made admitted first other = other

module _ (journal : List Entry) (st : State) (counts : Counts journal st) where
  by_spawned : (t : ℕ) (spawned : Bool) → (spawned ≡ true → count_by (admits t) journal ≡ 0)
      → count_by (λ (e : Entry). admits t e || (spawned && makes t e)) journal ≡ cond spawned (count_by (makes t) journal) (count_by (admits t) journal)
  by_spawned t true none = or_count (admits t) (makes t) journal (none refl)
  by_spawned t false none = ap (λ (test : Entry → Bool). count_by test journal) (λ i e. or_false (admits t e) i)

  -- a spawned task is enabled when it is made, and another one when it is admitted
  enablings : (t : ℕ) → count_by (enables st t) journal ≡ cond (is_spawned_row (slice_get st.tasks t)) (count_by (makes t) journal) (count_by (admits t) journal)
  enablings t =
      by_spawned t (is_spawned_row (slice_get st.tasks t)) (λ spawned. counts.admitted t ∙ spawned_none (slice_get st.tasks t) spawned)

  nothing : (t : ℕ) → length st.tasks ≤ t → NothingHappened journal st t
  nothing t past =
      let none : slice_get st.tasks t ≡ None = past_end st.tasks t past in
      record {
        not_made = counts.made t ∙ none_made t (length st.tasks) past;
        not_enabled = enablings t
            ∙ (ap (λ (found : Option TaskRow). cond (is_spawned_row found) (count_by (makes t) journal) (count_by (admits t) journal)) none
            ∙ (counts.admitted t ∙ ap (number_at times_admitted) none));
        not_finished = counts.finished t ∙ ap (number_at times_finished) none;
      }

  pub tasks_at_most_once : EachEnabledAtMostOnce journal st
  tasks_at_most_once =
      let each = at_most_once journal st counts in
      record {
        made = each.made;
        enabled = λ t. picked_le (is_spawned_row (slice_get st.tasks t)) _ _ _ (enablings t) (each.made t) (each.enabled t);
        finished = each.done;
        first = counts.made 0;
        others = nothing;
      }

  module _ (p : Program) (lim : Bounds) (stands : Stands p lim st) (all : AllTasksDone st) where
    enabled_once : (t : ℕ) → t < length st.tasks → (found : Option TaskRow) → slice_get st.tasks t ≡ found → count_by (enables st t) journal ≡ 1
    enabled_once t below None there = absurd (not_past st.tasks t there below)
    enabled_once t below (Some row) there =
        let each = once journal st counts all in
        enablings t
        ∙ (ap (λ (found : Option TaskRow). cond (is_spawned_row found) (count_by (makes t) journal) (count_by (admits t) journal)) there
        ∙ picked_one (is_some row.parent) (count_by (makes t) journal) (count_by (admits t) journal)
        (λ spawned. each.made t (above_zero row.parent t (stands.rows t row there).parent spawned) below) (each.enabled t row there))

    pub tasks_once : EachEnabledOnce journal st
    tasks_once =
        let each = once journal st counts all in
        record {
          made = each.made;
          enabled = λ t below. enabled_once t below (slice_get st.tasks t) refl;
          finished = each.done;
          first = counts.made 0;
          others = nothing;
        }
