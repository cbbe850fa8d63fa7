-- A run that goes on by a legal move keeps its counts.
use Rattle.std.proofs.Common.{◌≡◌, ◌+◌, ◌<◌, ◌==◌, ◌&&◌, ℕ, List, [], ◌∷◌, ◌++◌, length, Option, Some, None, cond, sym, ap, ◌∙◌, subst, arith, length-set}
use Rattle.std.specs.Prelude.{slice_get}
use Rattle.seg_journal.specs.declared.journal.Entry.{Entry}
use Rattle.seg_journal.specs.declared.journal.End.{End}
use Rattle.seg_journal.specs.declared.journal.End.TheVariants as ends
use Rattle.seg_journal.specs.declared.moves.Kind.{Kind}
use Rattle.seg_journal.specs.declared.moves.Kind.TheVariants.{Admit, Run}
use Rattle.twe_base.specs.Limits.{Bounds}
use Rattle.twe_program.specs.Program.{Program}
use Rattle.wait_graph.specs.Link.{link_of}
use Rattle.seg_meaning.specs.Segment.{segment}
use Rattle.machine_state.specs.declared.state.State.{State}
use Rattle.machine_state.specs.declared.state.TaskRow.{TaskRow}
use Rattle.machine_state.specs.declared.state.TaskStatus.TheVariants.{Made, Enabled}
use Rattle.machine_state.specs.Legal.{MayTake}
use Rattle.machine_state.specs.Moves.{admitted, admitted_row, joined_child, ran, result_by_kind, ready_frame}
use Rattle.machine_state.specs.Runs.{makes, admits, finishes, makes_task, is_admission, is_done}
use Rattle.machine_state.proofs.counts.JournalCounts.{Counts, count_more, times_made, times_admitted, times_admitted_at, times_finished, times_finished_at}
use Rattle.machine_state.proofs.counts.MoveCounts.{CountsOn, stopped_counts, stopped_admitted}
use Rattle.machine_state.proofs.weight.Falls.{CountsMade}
use Rattle.machine_state.proofs.lists.RowNumbers.{number_at, hits_is, hits_none, number_set}

-- how a move of t changes the three counts of task u
pub record Adds (u : ℕ) (kind : Kind) (t : ℕ) (before : State) (after : State × End) : Type 0 where
  pub on : CountsOn u t before after
  pub admitted : number_at times_admitted (slice_get after.0.tasks u) ≡ number_at times_admitted (slice_get before.tasks u) + cond (is_admission kind && (t == u)) 1 0

-- an admission
admission_adds : (st : State) (u t : ℕ) (row : TaskRow) → slice_get st.tasks t ≡ Some row → row.status ≡ Made → row.parent ≡ None
    → Adds u Admit t st (admitted st t (Some row), ends.Admitted)
admission_adds st u t row found made alone =
    let once : times_admitted (admitted_row row) ≡ times_admitted row + 1 =
    ap (λ (q : Option ℕ). times_admitted_at q Enabled) alone
    ∙ ap (λ (n : ℕ). n + 1) (sym (ap (λ (q : Option ℕ). times_admitted_at q row.status) alone ∙ ap (times_admitted_at None) made)) in
    let never : times_finished (admitted_row row) ≡ times_finished row + 0 = ap (λ (n : ℕ). n + 0) (sym (ap times_finished_at made)) in
    record {
      on = record {
        made = ap (times_made u) (length-set st.tasks t (admitted_row row)) ∙ omega arith;
        finished = number_set times_finished st.tasks t u 0 row (admitted_row row) found never ∙ omega (arith, hits_none t u);
      };
      admitted = number_set times_admitted st.tasks t u 1 row (admitted_row row) found once
          ∙ ap (λ (n : ℕ). number_at times_admitted (slice_get st.tasks u) + n) (hits_is t u 1);
    }

-- a segment
segment_adds : (p : Program) (lim : Bounds) (st : State) (u t : ℕ) (row : TaskRow) → slice_get st.tasks t ≡ Some row → row.status ≡ Enabled
    → 0 < length st.tasks → CountsMade lim st → Adds u Run t st (ran p lim st t (Some row))
segment_adds p lim st u t row found enabled some counts =
    let after = segment p (ready_frame st.tasks row.frame) st.cells in
    let later : State = record st { cells = after.cells } in
    let child = joined_child row.out (link_of st.links t).waits in
    let on = stopped_counts lim later t row found enabled child after.frame after.stop u some counts in
    record {
      on = record { made = on.made; finished = on.finished };
      admitted = stopped_admitted lim later t row found enabled child after.frame after.stop u ∙ omega arith;
    }

-- any legal move, if a task that is to be admitted has no parent
pub adds : (p : Program) (lim : Bounds) (st : State) (kind : Kind) (u t : ℕ) → MayTake st kind t
    → ((row : TaskRow) → slice_get st.tasks t ≡ Some row → row.status ≡ Made → row.parent ≡ None)
    → 0 < length st.tasks → CountsMade lim st → Adds u kind t st (result_by_kind p lim st kind t)
adds p lim st Admit u t may alone some counts =
    let row = may.0 in
    subst (λ (found : Option TaskRow). Adds u Admit t st (admitted st t found, ends.Admitted)) (sym row.1) (admission_adds st u t row.0 row.1 row.2 (alone row.0 row.1 row.2))
adds p lim st Run u t may alone some counts =
    let row = may.0 in
    subst (λ (found : Option TaskRow). Adds u Run t st (ran p lim st t found)) (sym row.1) (segment_adds p lim st u t row.0 row.1 row.2 some counts)

-- the journal with the entry of that move, which has the end that the move gives
pub counts_more : (p : Program) (lim : Bounds) (st : State) (entry : Entry) (journal : List Entry) → Counts journal st
    → (result_by_kind p lim st entry.mv.kind entry.mv.task).1 ≡ entry.end
    → ((u : ℕ) → Adds u entry.mv.kind entry.mv.task st (result_by_kind p lim st entry.mv.kind entry.mv.task))
    → Counts (journal ++ entry ∷ []) (result_by_kind p lim st entry.mv.kind entry.mv.task).0
counts_more p lim st entry journal counts is more =
    let kind = entry.mv.kind in
    let t = entry.mv.task in
    record {
      made = λ u. count_more (makes u) journal entry ∙ (ap (λ (n : ℕ). n + cond (makes_task u entry.end) 1 0) (counts.made u)
          ∙ (ap (λ (e : End). times_made u (length st.tasks) + cond (makes_task u e) 1 0) (sym is) ∙ sym (more u).on.made));
      admitted = λ u. count_more (admits u) journal entry ∙ (ap (λ (n : ℕ). n + cond (is_admission kind && (t == u)) 1 0) (counts.admitted u) ∙ sym (more u).admitted);
      finished = λ u. count_more (finishes u) journal entry ∙ (ap (λ (n : ℕ). n + cond (is_done entry.end && (t == u)) 1 0) (counts.finished u)
          ∙ (ap (λ (e : End). number_at times_finished (slice_get st.tasks u) + cond (is_done e && (t == u)) 1 0) (sym is) ∙ sym (more u).on.finished));
    }
