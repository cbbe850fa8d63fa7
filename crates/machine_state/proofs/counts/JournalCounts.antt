-- How often each task was made, admitted and ended in a journal.
use Rattle.std.proofs.Common.{◌≡◌, ◌+◌, ℕ, ℤ, zero, suc, Bool, List, [], ◌∷◌, ◌++◌, length, Option, Some, None, true, false, cond, refl, sym, ap, ◌∙◌, arith}
use Rattle.std.specs.Prelude.{count_by, nat_lt, slice_get}
use Rattle.std.proofs.lemmas.List.Sums.{sum_by-append}
use Rattle.effect_sets.specs.declared.effects.Summary.{Summary}
use Rattle.seg_journal.specs.declared.journal.Entry.{Entry}
use Rattle.twe_base.specs.Limits.{Bounds}
use Rattle.seg_meaning.specs.declared.frame.Frame.{Frame}
use Rattle.machine_state.specs.declared.state.State.{State}
use Rattle.machine_state.specs.declared.state.TaskRow.{TaskRow}
use Rattle.machine_state.specs.declared.state.TaskStatus.{TaskStatus}
use Rattle.machine_state.specs.declared.state.TaskStatus.TheVariants.{Made, Enabled, Done, Faulted}
use Rattle.machine_state.specs.Moves.{new_row, parent_of}
use Rattle.machine_state.specs.Runs.{makes, admits, finishes}
use Rattle.machine_state.proofs.counts.StoppedNumbers.{ChangesWhenDone}
use Rattle.machine_state.proofs.lists.RowNumbers.{number_at}

-- of this number of tasks each but the first was made once
abbrev pub times_made : ℕ → ℕ → ℕ
times_made zero count = 0
times_made (suc t) count = cond (nat_lt (suc t) count) 1 0

-- a task without a parent was admitted once, unless it still waits for its admission; a spawned task never was
abbrev pub times_admitted_at : Option ℕ → TaskStatus → ℕ
times_admitted_at (Some parent) status = 0
times_admitted_at None Made = 0
times_admitted_at None Enabled = 1
times_admitted_at None Done = 1
times_admitted_at None Faulted = 1

abbrev pub times_admitted : TaskRow → ℕ
times_admitted row = times_admitted_at row.parent row.status

-- a task that is done has ended
abbrev pub times_finished_at : TaskStatus → ℕ
times_finished_at Made = 0
times_finished_at Enabled = 0
times_finished_at Done = 1
times_finished_at Faulted = 0

abbrev pub times_finished : TaskRow → ℕ
times_finished row = times_finished_at row.status

-- the counts of a journal are those that the state it leads to gives
pub record Counts (journal : List Entry) (st : State) : Type 0 where
  pub made : (t : ℕ) → count_by (makes t) journal ≡ times_made t (length st.tasks)
  pub admitted : (t : ℕ) → count_by (admits t) journal ≡ number_at times_admitted (slice_get st.tasks t)
  pub finished : (t : ℕ) → count_by (finishes t) journal ≡ number_at times_finished (slice_get st.tasks t)

-- a journal that goes on by an entry
pub count_more : (test : Entry → Bool) (journal : List Entry) (last : Entry) → count_by test (journal ++ last ∷ []) ≡ count_by test journal + cond (test last) 1 0
count_more test journal last = sum_by-append (λ (e : Entry). cond (test e) 1 0) journal (last ∷ []) ∙ omega arith

-- how segments of an enabled task change the two numbers
done_admitted : (parent : Option ℕ) → times_admitted_at parent Done ≡ times_admitted_at parent Enabled
done_admitted (Some q) = refl
done_admitted None = refl

failed_admitted : (parent : Option ℕ) → times_admitted_at parent Faulted ≡ times_admitted_at parent Enabled
failed_admitted (Some q) = refl
failed_admitted None = refl

fresh_admitted : (lim : Bounds) (number t : ℕ) (spawned : Bool) (child : Frame) (args : List ℤ) (effects : Summary)
    → times_admitted (new_row lim number (parent_of t spawned) child args effects) ≡ 0
fresh_admitted lim number t true child args effects = refl
fresh_admitted lim number t false child args effects = refl

fresh_finished : (lim : Bounds) (number t : ℕ) (spawned : Bool) (child : Frame) (args : List ℤ) (effects : Summary)
    → times_finished (new_row lim number (parent_of t spawned) child args effects) ≡ 0
fresh_finished lim number t true child args effects = refl
fresh_finished lim number t false child args effects = refl

pub admitted_changes : (row : TaskRow) → row.status ≡ Enabled → ChangesWhenDone times_admitted 0 row
admitted_changes row enabled =
    let was : times_admitted_at row.parent Enabled ≡ times_admitted row = ap (times_admitted_at row.parent) (sym enabled) in
    record {
      joins = λ r. refl;
      going = λ frame. refl;
      done = λ frame value. done_admitted row.parent ∙ (was ∙ omega arith);
      failed = λ frame. failed_admitted row.parent ∙ was;
      fresh = fresh_admitted;
    }

pub finished_changes : (row : TaskRow) → row.status ≡ Enabled → ChangesWhenDone times_finished 1 row
finished_changes row enabled =
    let none : times_finished row ≡ 0 = ap times_finished_at enabled in
    record {
      joins = λ r. refl;
      going = λ frame. refl;
      done = λ frame value. omega (arith, none);
      failed = λ frame. sym none;
      fresh = fresh_finished;
    }
