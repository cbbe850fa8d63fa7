-- A deterministic task that is done has its sequential result: it was enabled from the entry that enabled it up to the one
-- that finished it.
use Rattle.std.proofs.Common.{◌≡◌, ◌≤◌, ◌<◌, ◌+◌, ℕ, suc, List, inl, inr, subst, arith}
use Rattle.std.proofs.lemmas.Bool.{cases_lt}
use Rattle.seg_journal.specs.declared.journal.Entry.{Entry}
use Rattle.twe_base.specs.Limits.{Bounds}
use Rattle.twe_program.specs.Program.{Program}
use Rattle.twe_program.specs.WellFormed.{IsWellFormed}
use Rattle.isolation_laws.specs.soundness.KeepsEffects.{KeepsEffects}
use Rattle.machine_state.specs.declared.state.State.{State}
use Rattle.machine_state.specs.declared.state.TaskRow.{TaskRow}
use Rattle.machine_state.specs.declared.state.TaskStatus.TheVariants.{Enabled, Done}
use Rattle.machine_state.specs.Rows.{HasStatus, IsRow}
use Rattle.machine_state.specs.Runs.{Legal, state_after}
use Rattle.determinism_laws.specs.Deterministic.{IsDeterministic}
use Rattle.determinism_laws.specs.Execution.{IsNextSegment}
use Rattle.determinism_laws.specs.Ranks.{IsBelow}
use Rattle.determinism_laws.specs.Segments.{state_before}
use Rattle.determinism_laws.specs.Sequential.{IsEnabledThroughout}
use Rattle.determinism_laws.proofs.DoneTasks.{after_first, before_done}
use Rattle.determinism_laws.proofs.Statuses.{next_segment_of}
use Rattle.determinism_laws.proofs.theorem.Elided.{deterministic_tasks_as_run}
use Rattle.determinism_laws.specs.results.Results.{DeterministicTasksHaveResults, HasSequentialResult, IsEnabledBy, IsFinishedBy}
use Rattle.determinism_laws.proofs.results.Enabling.{became_enabled}
use Rattle.determinism_laws.proofs.results.Finishing.{finished_from}

-- The places of t in the journal: the entry that enabled it, its first segment, and how many entries later it was finished.
pub record HasPlaces (p : Program) (lim : Bounds) (journal : List Entry) (t : ℕ) (row : TaskRow) : Type 0 where
  pub enabling : ℕ
  pub enabled_by : IsEnabledBy p lim journal t enabling
  pub first : ℕ
  pub is_first : IsNextSegment journal t 0 first
  pub early : enabling + 1 ≤ first
  pub count : ℕ
  pub enabled : IsEnabledThroughout p lim journal t (enabling + 1) count
  pub finished : IsFinishedBy journal t (enabling + count) row.value
  pub ended : HasStatus (state_before p lim journal (enabling + 1 + count)) t Done

module _ (p : Program) (wf : IsWellFormed p) (keeps : KeepsEffects p) (lim : Bounds) (journal : List Entry) (legal : Legal p lim journal) (t : ℕ) (row : TaskRow)
    (there : IsRow (state_after p lim journal) t row) (done : row.status ≡ Done) where
  abbrev st : ℕ → State
  st n = state_before p lim journal n

  pub has_places : HasPlaces p lim journal t row
  has_places =
      let final : HasStatus (state_after p lim journal) t Done = (row, there, done) in
      let became = became_enabled p wf keeps lim journal legal t final in
      let from = became.place + 1 in
      let next_place : suc became.place ≡ from = omega arith in
      let enabled : HasStatus (st from) t Enabled = subst (λ (n : ℕ). HasStatus (st n) t Enabled) next_place became.enabled in
      let next = next_segment_of p wf lim journal legal t from Enabled (λ e. cc (e)) (λ e. cc (e)) enabled final in
      let finished = finished_from p wf keeps lim journal legal t row there done from enabled in
      let last_place : from + finished.count ≡ became.place + suc finished.count = omega arith in
      let end_place : suc (from + finished.count) ≡ from + suc finished.count = omega arith in
      record {
        enabling = became.place;
        enabled_by = became.enabled_by;
        first = next.0;
        is_first = record {
          segment = next.1.segment;
          least = omega arith;
          first = λ n least below. elim (cases_lt n from) [
            | inl before ↦ became.silent n (omega (arith, before))
            | inr after ↦ next.1.first n after below
          ];
        };
        early = next.1.least;
        count = suc finished.count;
        enabled = finished.enabled;
        finished = subst (λ (n : ℕ). IsFinishedBy journal t n row.value) last_place finished.by;
        ended = subst (λ (n : ℕ). HasStatus (st n) t Done) end_place finished.ended;
      }

  -- all segments below t are between the two
  pub all_between : (places : HasPlaces p lim journal t row) → (i : ℕ) → IsBelow p lim journal t i → (places.enabling < i) × (i ≤ places.enabling + places.count)
  all_between places i below =
      let least = after_first p wf keeps lim journal legal t places.first places.is_first below.0 i below.1 in
      let most = before_done p wf keeps lim journal legal t (places.enabling + 1 + places.count) places.ended below.0 i below.1 in
      (omega (arith, least, places.early), omega (arith, most))

  pub has_result : 1 ≤ lim.tasks → IsDeterministic p row → HasSequentialResult p lim journal t row
  has_result some flag =
      let places = has_places in
      let elides = deterministic_tasks_as_run p wf keeps lim journal legal t places.first (places.enabling + 1) places.count row there done flag some places.is_first places.early
      places.enabled places.ended in
      record {
        enabling = places.enabling;
        count = places.count;
        enabled = places.enabled_by;
        finished = places.finished;
        between = all_between places;
        made = elides.0;
        elides = elides.1;
      }

pub tasks_have_results : (p : Program) → IsWellFormed p → KeepsEffects p → (lim : Bounds) → 1 ≤ lim.tasks → (journal : List Entry) → Legal p lim journal → DeterministicTasksHaveResults p lim journal
tasks_have_results p wf keeps lim some journal legal t row there done flag = has_result p wf keeps lim journal legal t row there done some flag
