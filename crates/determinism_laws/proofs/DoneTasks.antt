-- A deterministic task that is done: its execution finds and leaves what the journal does.
use Rattle.std.proofs.Common.{◌≡◌, ◌≤◌, ◌<◌, ◌+◌, ℕ, List, [], ◌∷◌, inl, inr, sym, ap, ◌∙◌, arith}
use Rattle.std.specs.Prelude.{slice_get}
use Rattle.std.proofs.lemmas.Bool.{cases_lt}
use Rattle.seg_journal.specs.declared.journal.Entry.{Entry}
use Rattle.twe_base.specs.Limits.{Bounds}
use Rattle.twe_program.specs.Program.{Program}
use Rattle.twe_program.specs.WellFormed.{IsWellFormed}
use Rattle.isolation_laws.specs.soundness.KeepsEffects.{KeepsEffects}
use Rattle.machine_state.specs.declared.state.TaskRow.{TaskRow}
use Rattle.machine_state.specs.declared.state.TaskStatus.TheVariants.{Done}
use Rattle.machine_state.specs.Rows.{HasStatus}
use Rattle.machine_state.specs.Runs.{Legal}
use Rattle.machine_state.proofs.lists.Places.{got_one}
use Rattle.determinism_laws.specs.Execution.{DoneTasksExecuteAlike, IsNextSegment}
use Rattle.determinism_laws.specs.Ranks.{HasRank, IsBelow}
use Rattle.determinism_laws.specs.Segments.{state_before}
use Rattle.determinism_laws.proofs.ExecutedOrder.{executions_in_rank_order}
use Rattle.determinism_laws.proofs.Executing.{done_tasks_executed}
use Rattle.determinism_laws.proofs.JournalPlaces.{done_at}
use Rattle.determinism_laws.proofs.Listing.{segments_can_be_listed}
use Rattle.determinism_laws.proofs.RankExecution.{executes_in_rank_order}
use Rattle.determinism_laws.proofs.Trees.{holds_at, spawned_before}

module _ (p : Program) (wf : IsWellFormed p) (keeps : KeepsEffects p) (lim : Bounds) (journal : List Entry) (legal : Legal p lim journal) (t : ℕ) where
  -- no segment below t stands before the first segment of t
  pub after_first : (first : ℕ) → IsNextSegment journal t 0 first → (rank : List ℕ) (i : ℕ) → HasRank p lim journal t i rank → first ≤ i
  after_first first is [] i has = absurd has
  after_first first is (n ∷ []) i has = elim (cases_lt i first) [
    | inl before ↦ absurd (is.first i (omega arith) before has.0)
    | inr after ↦ after
  ]
  after_first first is (n ∷ next ∷ others) i has =
      let inner = spawned_before p wf keeps lim journal legal (next ∷ others) t has.0 has.1 i has.2 has.4 in
      elim (cases_lt has.0 first) [
        | inl before ↦ absurd (is.first has.0 (omega arith) before has.2.segment)
        | inr after ↦ omega (arith, after, inner)
      ]

  -- and none once t is done
  pub before_done : (end : ℕ) → HasStatus (state_before p lim journal end) t Done → (rank : List ℕ) (i : ℕ) → HasRank p lim journal t i rank → i < end
  before_done end done rank i has = elim (cases_lt i end) [
    | inl before ↦ before
    | inr after ↦
        let later = done_at p wf lim journal legal end i t after done in
        let holds = holds_at p wf keeps lim journal legal rank t i has in
        let same : later.0 ≡ holds.row = got_one (slice_get (state_before p lim journal i).tasks t) later.1 holds.there in
        absurd (holds.undone (sym (ap (λ (r : TaskRow). r.status) same) ∙ later.2))
  ]

pub done_tasks_alike : (p : Program) → IsWellFormed p → KeepsEffects p → (lim : Bounds) (journal : List Entry) → Legal p lim journal → DoneTasksExecuteAlike p lim journal
done_tasks_alike p wf keeps lim journal legal t first from count row there finished flag is_first before enabled done =
    let executed = done_tasks_executed p wf keeps lim journal legal t first row there finished flag is_first.segment in
    let listed = segments_can_be_listed p wf keeps lim journal legal t from count in
    let range : (i : ℕ) → IsBelow p lim journal t i → (from ≤ i) × (i < from + count) = λ i below.
    let least = after_first p wf keeps lim journal legal t first is_first below.0 i below.1 in
    (omega (arith, before, least), before_done p wf keeps lim journal legal t (from + count) done below.0 i below.1) in
    let order = executions_in_rank_order p wf keeps lim journal legal t first from count listed.0 executed.0 is_first executed.1 listed.1 range in
    record {
      segments = listed.0;
      executed = executed.0;
      listed = listed.1;
      execution = executed.1;
      order = order;
      alike = executes_in_rank_order p wf keeps lim journal legal t row there flag from count listed.0 executed.0 enabled listed.1 order;
    }
