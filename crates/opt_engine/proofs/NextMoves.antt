-- Taking the moves of a task's next segment.
use Rattle.std.proofs.Common.{◌≡◌, ◌+◌, ◌++◌, ℕ, List, [], ◌∷◌, Option, None, Some, length, refl, sym, ap, ◌∙◌, subst, inl, inr, append_assoc}
use Rattle.std.specs.Prelude.{slice_get, slice_set}
use mathlib.Core.List.{IsPrefix}
use Rattle.seg_journal.specs.declared.journal.Entry.{Entry}
use Rattle.seg_journal.specs.declared.moves.Kind.TheVariants as kinds
use Rattle.seg_journal.specs.declared.moves.Move.{Move}
use Rattle.twe_base.specs.Limits.{Bounds}
use Rattle.wait_graph.specs.declared.tasks.Link.{Link}
use Rattle.wait_graph.specs.Link.{link_of}
use Rattle.wait_graph.specs.Waiting.{WaitsFor}
use Rattle.twe_program.specs.Program.{Program}
use Rattle.twe_program.specs.WellFormed.{IsWellFormed}
use Rattle.seg_meaning.specs.declared.frame.Next.TheVariants.{Go}
use Rattle.machine_state.specs.declared.state.State.{State}
use Rattle.machine_state.specs.declared.state.TaskRow.{TaskRow}
use Rattle.machine_state.specs.declared.state.TaskStatus.{TaskStatus}
use Rattle.machine_state.specs.declared.state.TaskStatus.TheVariants.{Made, Enabled}
use Rattle.machine_state.specs.Legal.{MayRun}
use Rattle.machine_state.specs.Moves.{admitted, admitted_row, move_result}
use Rattle.machine_state.specs.Rows.{HasStatus, IsRow, row_awaited, link_of_row}
use Rattle.machine_state.specs.Runs.{IsReached, IsRun, entry_of}
use Rattle.machine_state.proofs.links.Linked.{link_at}
use Rattle.machine_state.proofs.lists.Places.{set_same}
use Rattle.machine_state.proofs.standing.ReachedStands.{reached_stands}
use Rattle.opt_engine.specs.declared.core_run.CoreRun.{CoreRun}
use Rattle.opt_engine.specs.NextMoves.{AnswersNext, GoesNext, MayTakeNext, TakesNext}
use Rattle.opt_engine.specs.Taking.{TakingSteps}
use Rattle.opt_engine.specs.Verdicts.{AreLegalFrom, IsKept, entries_from, moves_of, state_from}
use Rattle.opt_engine.specs.inner.Judging.{Admits}
use Rattle.opt_engine.proofs.Committed.{reached_by}

-- the journal goes on when the moves are taken
pub next_begins : (p : Program) (lim : Bounds) (old : CoreRun) (t number : ℕ) (new : CoreRun) → TakesNext p lim old t number new → IsPrefix old.journal new.journal
next_begins p lim old t number new takes = (entries_from p lim old.state (moves_of takes.row.status t), sym takes.journal)

-- a task that was made may run once it is admitted
admitted_may : (p : Program) (lim : Bounds) (st : State) (t : ℕ) → IsWellFormed p → IsReached p lim st → (made : HasStatus st t Made) → MayRun (admitted st t (Some made.0)) t
admitted_may p lim st t well reached made =
    let row = made.0 in
    let there : IsRow st t row = made.1 in
    let stands = reached_stands p lim st well reached in
    let new = admitted_row row in
    let now : slice_get (slice_set st.tasks t new) t ≡ Some new = set_same st.tasks t row new there in
    let fresh = (stands.rows t row there).made made.2 in
    let goes : row.frame.next ≡ Go = ap (λ (r : TaskRow). r.frame.next) fresh in
    let free : (u : ℕ) → ¬ WaitsFor st.links t u = λ u waits.
    let link : link_of st.links t ≡ link_of_row row = ap (λ (l : List Link). link_of l t) stands.links ∙ link_at st.tasks t row there in
    let none : (link_of st.links t).waits ≡ None = ap (λ (l : Link). l.waits) link ∙ ap row_awaited goes in
    cc (none, waits.waits) in
    ((new, now, refl), free)

-- after the admission, if it was needed, the task may run
pub record IsUnderWay (p : Program) (lim : Bounds) (run : CoreRun) (t : ℕ) : Type 0 where
  pub run_is : IsRun p lim run.journal run.state
  pub may : MayRun run.state t

pub under_way : (p : Program) (lim : Bounds) (old new : CoreRun) (t : ℕ) → IsWellFormed p → IsRun p lim old.journal old.state → MayTakeNext old.state t → Admits p lim old t new → IsUnderWay p lim new t
under_way p lim old new t well run may (inl admits) =
    let made = admits.0 in
    let state : new.state ≡ admitted old.state t (Some made.0) = admits.1.state ∙ ap (admitted old.state t) made.1 in
    record {
      run_is = admits.1.run_is;
      may = subst (λ (s : State). MayRun s t) (sym state) (admitted_may p lim old.state t well (reached_by p lim old run) made);
    }
under_way p lim old new t well run may (inr kept) =
    let runs : MayRun old.state t = elim may.0 [ inl made ↦ absurd (kept.0 made) | inr runs ↦ runs ] in
    record {
      run_is = subst (λ (r : CoreRun). IsRun p lim r.journal r.state) (sym kept.1) run;
      may = subst (λ (r : CoreRun). MayRun r.state t) (sym kept.1) runs;
    }

-- the moves were taken
pub took_next : (p : Program) (lim : Bounds) (old between new : CoreRun) (t number : ℕ) → MayTakeNext old.state t → Admits p lim old t between
    → MayRun between.state t → TakingSteps p lim between (record { kind = kinds.Run; task = t }) new → number + 1 ≡ length new.journal → TakesNext p lim old t number new
took_next p lim old between new t number go (inl admits) may steps last =
    let made = admits.0 in
    let moves : moves_of Made t ≡ moves_of made.0.status t = ap (λ (s : TaskStatus). moves_of s t) (sym made.2) in
    let admit : Move = record { kind = kinds.Admit; task = t } in
    let run : Move = record { kind = kinds.Run; task = t } in
    let state = admits.1.state in
    let one = entry_of p lim old.state admit in
    let journal : new.journal ≡ old.journal ++ entries_from p lim old.state (moves_of Made t) =
    steps.journal ∙ ((λ i. admits.1.journal i ++ entry_of p lim (state i) run ∷ []) ∙ append_assoc old.journal (one ∷ []) (entry_of p lim (move_result p lim old.state admit).0 run ∷ [])) in
    let after : new.state ≡ state_from p lim old.state (moves_of Made t) = steps.state ∙ ap (λ (s : State). (move_result p lim s run).0) state in
    let legal : AreLegalFrom p lim old.state (moves_of Made t) = (go.1 made, (subst (λ (s : State). MayRun s t) state may, tt)) in
    record {
      row = made.0;
      there = made.1;
      legal = subst (AreLegalFrom p lim old.state) moves legal;
      journal = journal ∙ ap (λ (m : List Move). old.journal ++ entries_from p lim old.state m) moves;
      state = after ∙ ap (state_from p lim old.state) moves;
      last = last;
    }
took_next p lim old between new t number go (inr kept) may steps last =
    let may_old : MayRun old.state t = subst (λ (r : CoreRun). MayRun r.state t) kept.1 may in
    let enabled = may_old.0 in
    let moves : moves_of Enabled t ≡ moves_of enabled.0.status t = ap (λ (s : TaskStatus). moves_of s t) (sym enabled.2) in
    let run : Move = record { kind = kinds.Run; task = t } in
    let journal : new.journal ≡ old.journal ++ entries_from p lim old.state (moves_of Enabled t) =
    steps.journal ∙ ap (λ (r : CoreRun). r.journal ++ entry_of p lim r.state run ∷ []) kept.1 in
    let after : new.state ≡ state_from p lim old.state (moves_of Enabled t) = steps.state ∙ ap (λ (r : CoreRun). (move_result p lim r.state run).0) kept.1 in
    let legal : AreLegalFrom p lim old.state (moves_of Enabled t) = (may_old, tt) in
    record {
      row = enabled.0;
      there = enabled.1;
      legal = subst (AreLegalFrom p lim old.state) moves legal;
      journal = journal ∙ ap (λ (m : List Move). old.journal ++ entries_from p lim old.state m) moves;
      state = after ∙ ap (state_from p lim old.state) moves;
      last = last;
    }

-- the core had this run, and answers as it does
pub next_answered : (p prog : Program) (limits lim : Bounds) (earlier : List Entry) (core kept : Option CoreRun) (old after : CoreRun) (t : ℕ) (number : Option ℕ)
    → p ≡ prog → limits ≡ lim → kept ≡ Some old → kept ≡ core → IsKept prog lim earlier kept → GoesNext p limits old t number (Some after)
    → AnswersNext prog lim earlier core t number (Some after)
next_answered p prog limits lim earlier core kept old after t number same_program same_limits is view keeps goes = (
  old,
  sym view ∙ is,
  subst (IsKept prog lim earlier) is keeps,
  subst (λ (x : Program × Bounds). GoesNext x.0 x.1 old t number (Some after)) (λ i. (same_program i, same_limits i)) goes,
)
