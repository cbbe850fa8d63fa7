-- The sequential execution of a deterministic task that is done: it has the steps of the journal, and the tasks that it made
-- can be numbered.
use Rattle.std.proofs.Common.{◌≡◌, ◌≤◌, ◌+◌, ℕ, ℤ, List, [], ◌∷◌, refl, sym, ap, ◌∙◌, subst, arith}
use Rattle.std.specs.Prelude.{slice_get}
use Rattle.seg_journal.specs.declared.journal.Entry.{Entry}
use Rattle.twe_base.specs.Limits.{Bounds}
use Rattle.twe_program.specs.Program.{Program}
use Rattle.twe_program.specs.WellFormed.{IsWellFormed}
use Rattle.seg_meaning.specs.Entry.{entry_frame}
use Rattle.isolation_laws.specs.soundness.KeepsEffects.{KeepsEffects}
use Rattle.machine_state.specs.declared.state.TaskRow.{TaskRow}
use Rattle.machine_state.specs.declared.state.TaskStatus.TheVariants.{Done}
use Rattle.machine_state.specs.Moves.{value_of}
use Rattle.machine_state.specs.Rows.{HasStatus, IsRow}
use Rattle.machine_state.specs.Runs.{Legal, state_after}
use Rattle.determinism_laws.specs.Deterministic.{IsDeterministic}
use Rattle.determinism_laws.specs.Execution.{IsExecutedAlike, IsNextSegment}
use Rattle.determinism_laws.specs.Frames.{StartsFrom}
use Rattle.determinism_laws.specs.Sequential.{IsEnabledThroughout}
use Rattle.determinism_laws.proofs.DoneTasks.{done_tasks_alike}
use Rattle.determinism_laws.specs.Segments.{state_before}
use Rattle.determinism_laws.specs.elision.Elision.{first_frame}
use Rattle.determinism_laws.specs.numbering.Played.{ElidesTo, IsInjective, Played}
use Rattle.determinism_laws.specs.numbering.Renumbering.{Numbering}
use Rattle.determinism_laws.proofs.numbering.Playing.{played_elides}
use Rattle.determinism_laws.specs.theorem.Steps.{StepsAreNumbered, DoneTasksElideByTheirDeclarations, DoneTasksElideInEachNumbering, DoneTasksElideAsRun, ElidesAsRun, IsElidedAsRun, IsPlayed, final_value, tasks_after}
use Rattle.determinism_laws.proofs.theorem.FirstSegments.{starts_first}
use Rattle.determinism_laws.proofs.theorem.Finds.{steps_find, steps_leave}
use Rattle.determinism_laws.specs.numbering.Numberings.{numbering_of}
use Rattle.determinism_laws.proofs.numbering.Listed.{few_below, listed_apart}
use Rattle.determinism_laws.proofs.theorem.Numbered.{has_numbering, numbered_suffix, tasks_counted}
use Rattle.determinism_laws.proofs.theorem.Played.{executions_played}
use Rattle.determinism_laws.proofs.theorem.Printing.{printed_alike, steps_print}

-- Task t, which has this row, was executed by these segments, as steps; and under each numbering that gives t and the tasks
-- that they spawned the first numbers, and is within the limit, the sequential execution of the declaration has these steps.
pub record IsElidedBySteps (p : Program) (lim : Bounds) (journal : List Entry) (t first from count : ℕ) (row : TaskRow) (task : ℕ) (args : List ℤ) : Type 0 where
  pub alike : IsExecutedAlike p lim journal t row first from count
  pub played : IsPlayed p lim journal t (first_frame lim t (entry_frame p task args)) alike.executed
  pub elides : (to : Numbering) → IsInjective to → to 0 ≡ t → StepsAreNumbered to 1 played.children → tasks_after 1 played.children ≤ lim.tasks
      → ElidesTo p lim task args (state_before p lim journal from).cells row.value played.steps (tasks_after 1 played.children)

module _ (p : Program) (wf : IsWellFormed p) (keeps : KeepsEffects p) (lim : Bounds) (journal : List Entry) (legal : Legal p lim journal) (t first from count : ℕ) (row : TaskRow) (task : ℕ)
    (args : List ℤ) (there : IsRow (state_after p lim journal) t row) (done : row.status ≡ Done) (flag : IsDeterministic p row) (some : 1 ≤ lim.tasks) (is_first : IsNextSegment journal t 0 first)
    (early : from ≤ first) (enabled : IsEnabledThroughout p lim journal t from count) (ended : HasStatus (state_before p lim journal (from + count)) t Done)
    (starts : StartsFrom p lim journal t first (first_frame lim t (entry_frame p task args))) where
  pub elided_by_steps : IsElidedBySteps p lim journal t first from count row task args
  elided_by_steps =
      let alike = done_tasks_alike p wf keeps lim journal legal t first from count row there done flag is_first early enabled ended in
      let frame = first_frame lim t (entry_frame p task args) in
      let played = executions_played p wf keeps lim journal legal t first frame row alike.executed there done flag starts alike.execution in
      let cells = (state_before p lim journal from).cells in
      let values = final_value p lim journal in
      let finds = steps_find p lim journal cells alike.executed alike.alike.finds played.steps played.same in
      record {
        alike = alike;
        played = played;
        elides = λ to apart zero numbered few.
            let upto = tasks_after 1 played.children in
            let run : Played p lim to values (to 0) (first_frame lim (to 0) (entry_frame p task args)) played.steps 1 upto =
            subst (λ (n : ℕ). Played p lim to values n (first_frame lim n (entry_frame p task args)) played.steps 1 upto) (sym zero) (played.played to 1 numbered few) in
            subst (λ (v : ℤ). ElidesTo p lim task args cells v played.steps upto) (ap values zero ∙ ap value_of there)
            (played_elides p lim to values wf apart task args cells played.steps upto some run finds);
      }

  -- the tasks that it made can be numbered
  pub elided_whole : (by : IsElidedBySteps p lim journal t first from count row task args)
      → ElidesTo p lim task args (state_before p lim journal from).cells row.value by.played.steps (tasks_after 1 by.played.children)
  elided_whole by =
      let children = by.played.children in
      let names = t ∷ children in
      let n = has_numbering p wf keeps lim journal legal t first row by.alike.executed children some there by.alike.execution is_first.segment by.alike.order.once by.played.spawned in
      let few = few_below lim.tasks names n.differ n.below in
      let counted = tasks_counted 1 children in
      by.elides (numbering_of lim.tasks names) (listed_apart lim.tasks names n.differ n.below) refl (numbered_suffix lim.tasks (t ∷ []) children 1 refl) (omega (arith, few, counted))

  -- what it leaves and prints is what the run has
  as_run : (by : IsElidedBySteps p lim journal t first from count row task args) (upto : ℕ)
      → ElidesTo p lim task args (state_before p lim journal from).cells row.value by.played.steps upto → ElidesAsRun p lim journal t row from count task args upto
  as_run by upto e =
      let cells = (state_before p lim journal from).cells in
      record {
        later = e.later;
        ends = e.ends;
        leaves = λ cell under.
            ap (λ (l : List ℤ). slice_get l cell) (e.cells_are ∙ steps_leave p lim journal by.alike.executed by.played.steps cells by.played.same) ∙ by.alike.alike.leaves cell under;
        segments = by.alike.segments;
        listed = by.alike.listed;
        prints = e.prints_are ∙ steps_print p lim journal by.alike.executed by.played.steps by.played.same ∙ sym (printed_alike by.alike.segments by.alike.executed by.alike.alike.prints);
        tasks_are = e.tasks_are;
      }

  elided_as_run : IsElidedAsRun p lim journal t first from count row task args
  elided_as_run =
      let by = elided_by_steps in
      record {
        segments = by.alike.segments;
        executed = by.alike.executed;
        listed = by.alike.listed;
        execution = by.alike.execution;
        order = by.alike.order;
        alike = by.alike.alike;
        children = by.played.children;
        spawned = by.played.spawned;
        elides = λ to apart zero numbered few. as_run by (tasks_after 1 by.played.children) (by.elides to apart zero numbered few);
      }

  whole_as_run : (upto : ℕ) × ElidesAsRun p lim journal t row from count task args upto
  whole_as_run = let by = elided_by_steps in (tasks_after 1 by.played.children, as_run by (tasks_after 1 by.played.children) (elided_whole by))

pub done_tasks_elided : (p : Program) → IsWellFormed p → KeepsEffects p → (lim : Bounds) (journal : List Entry) → Legal p lim journal → DoneTasksElideInEachNumbering p lim journal
done_tasks_elided p wf keeps lim journal legal t first from count row task args there done flag some is_first early enabled ended starts =
    elided_as_run p wf keeps lim journal legal t first from count row task args there done flag some is_first early enabled ended starts

pub done_tasks_as_run : (p : Program) → IsWellFormed p → KeepsEffects p → (lim : Bounds) (journal : List Entry) → Legal p lim journal → DoneTasksElideAsRun p lim journal
done_tasks_as_run p wf keeps lim journal legal t first from count row task args there done flag some is_first early enabled ended starts =
    whole_as_run p wf keeps lim journal legal t first from count row task args there done flag some is_first early enabled ended starts

pub deterministic_tasks_as_run : (p : Program) → IsWellFormed p → KeepsEffects p → (lim : Bounds) (journal : List Entry) → Legal p lim journal → DoneTasksElideByTheirDeclarations p lim journal
deterministic_tasks_as_run p wf keeps lim journal legal t first from count row there done flag some is_first early enabled ended =
    done_tasks_as_run p wf keeps lim journal legal t first from count row row.decl row.args there done flag some is_first early enabled ended
    (starts_first p wf keeps lim journal legal t first is_first row there)
