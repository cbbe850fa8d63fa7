-- From the counts of a journal: each thing happened at most once, and exactly once if all tasks are done.
use Rattle.std.proofs.Common.{◌≡◌, ◌<◌, ◌≤◌, ◌⊎◌, inl, inr, ℕ, zero, suc, Bool, List, [], ◌∷◌, length, Option, Some, None, true, false, cond, refl, ap, ◌∙◌, arith}
use Rattle.std.specs.Prelude.{count_by, if◌then◌else◌, is_some, nat_lt, slice_get}
use Rattle.std.proofs.lemmas.Bool.{lt-ltb, le-ltb}
use Rattle.seg_journal.specs.declared.journal.Entry.{Entry}
use Rattle.machine_state.specs.declared.state.State.{State}
use Rattle.machine_state.specs.declared.state.TaskRow.{TaskRow}
use Rattle.machine_state.specs.declared.state.TaskStatus.{TaskStatus}
use Rattle.machine_state.specs.declared.state.TaskStatus.TheVariants.{Made, Enabled, Done, Faulted}
use Rattle.machine_state.specs.Runs.{AllTasksDone, EachAtMostOnce, EachOnce, admits, makes}
use Rattle.machine_state.proofs.counts.JournalCounts.{Counts, times_made, times_admitted, times_admitted_at, times_finished, times_finished_at}
use Rattle.machine_state.proofs.lists.RowNumbers.{number_at}

cond_le : (b : Bool) → cond b 1 0 ≤ 1
cond_le true = omega arith
cond_le false = omega arith

made_le : (t n : ℕ) → times_made t n ≤ 1
made_le zero n = omega arith
made_le (suc t) n = cond_le (nat_lt (suc t) n)

admitted_le : (parent : Option ℕ) (status : TaskStatus) → times_admitted_at parent status ≤ 1
admitted_le (Some q) status = omega arith
admitted_le None Made = omega arith
admitted_le None Enabled = omega arith
admitted_le None Done = omega arith
admitted_le None Faulted = omega arith

finished_le : (status : TaskStatus) → times_finished_at status ≤ 1
finished_le Made = omega arith
finished_le Enabled = omega arith
finished_le Done = omega arith
finished_le Faulted = omega arith

number_le : (f : TaskRow → ℕ) (found : Option TaskRow) → ((row : TaskRow) → f row ≤ 1) → number_at f found ≤ 1
number_le f None le = omega arith
number_le f (Some row) le = le row

pub at_most_once : (journal : List Entry) (st : State) → Counts journal st → EachAtMostOnce journal
at_most_once journal st counts = record {
  made = λ t. rw (counts.made t) (made_le t (length st.tasks));
  enabled = λ t. rw (counts.admitted t) (number_le times_admitted (slice_get st.tasks t) (λ row. admitted_le row.parent row.status));
  done = λ t. rw (counts.finished t) (number_le times_finished (slice_get st.tasks t) (λ row. finished_le row.status));
}

made_once : (t n : ℕ) → 0 < t → t < n → times_made t n ≡ 1
made_once zero n some below = absurd (omega arith)
made_once (suc t) n some below = ap (λ (b : Bool). cond b 1 0) (lt-ltb (suc t) n below)

made_never : (t n : ℕ) → (t ≡ 0) ⊎ (n ≤ t) → times_made t n ≡ 0
made_never zero n other = refl
made_never (suc t) n (inl zeroth) = absurd (omega arith)
made_never (suc t) n (inr past) = ap (λ (b : Bool). cond b 1 0) (le-ltb (suc t) n past)

admitted_once : (parent : Option ℕ) → times_admitted_at parent Done ≡ (if is_some parent then 0 else 1)
admitted_once (Some q) = refl
admitted_once None = refl

-- a row that is there is found
pub not_past : (rows : List TaskRow) (t : ℕ) → slice_get rows t ≡ None → t < length rows → ⊥
not_past [] t none below = omega arith
not_past (row ∷ rows) zero none below = cc
not_past (row ∷ rows) (suc t) none below = not_past rows t none (omega arith)

finished_once : (rows : List TaskRow) (t : ℕ) → ((u : ℕ) (row : TaskRow) → slice_get rows u ≡ Some row → row.status ≡ Done) → t < length rows
    → (found : Option TaskRow) → slice_get rows t ≡ found → number_at times_finished found ≡ 1
finished_once rows t all below None there = absurd (not_past rows t there below)
finished_once rows t all below (Some row) there = ap times_finished_at (all t row there)

pub once : (journal : List Entry) (st : State) → Counts journal st → AllTasksDone st → EachOnce journal st
once journal st counts all = record {
  made = λ t some below. counts.made t ∙ made_once t (length st.tasks) some below;
  no_other = λ t other. counts.made t ∙ made_never t (length st.tasks) other;
  enabled = λ t row there.
      counts.admitted t ∙ (ap (number_at times_admitted) there
      ∙ (ap (times_admitted_at row.parent) (all t row there) ∙ admitted_once row.parent));
  done = λ t below. counts.finished t ∙ finished_once st.tasks t all below (slice_get st.tasks t) refl;
}

-- a task that was spawned was never admitted
pub never_admitted : (journal : List Entry) (st : State) → Counts journal st → (t parent : ℕ) (row : TaskRow) → slice_get st.tasks t ≡ Some row → row.parent ≡ Some parent
    → count_by (admits t) journal ≡ 0
never_admitted journal st counts t parent row there spawned =
    counts.admitted t ∙ (ap (number_at times_admitted) there ∙ ap (λ (q : Option ℕ). times_admitted_at q row.status) spawned)

-- and task 0 was never made
pub first_never_made : (journal : List Entry) (st : State) → Counts journal st → count_by (makes 0) journal ≡ 0
first_never_made journal st counts = counts.made 0
