-- What admission by the effect tree asks of the tasks of a state, beside isolation.
use Rattle.std.specs.Prelude.{◌≡◌, ◌⊎◌, ◌==◌, ℕ, Any, Contains, IsTrue, List, None, Option, Some, filter, option_and_then}
use Rattle.std.specs.List.{last_or}
use Rattle.region_paths.specs.Inside.{inside}
use Rattle.effect_sets.specs.declared.effects.Effect.{Effect}
use Rattle.seg_journal.specs.declared.journal.End.{End}
use Rattle.seg_journal.specs.declared.journal.End.TheVariants as ends
use Rattle.seg_journal.specs.declared.journal.Entry.{Entry}
use Rattle.wait_graph.specs.Link.{link_of}
use Rattle.wait_graph.specs.Waiting.{SpawnedBy, WaitsForNobody}
use Rattle.machine_state.specs.declared.state.State.{State}
use Rattle.machine_state.specs.declared.state.TaskRow.{TaskRow}
use Rattle.machine_state.specs.declared.state.TaskStatus.TheVariants.{Enabled, Faulted, Made}
use Rattle.machine_state.specs.Rows.{HasStatus, IsRow}

-- the second effect lies inside the first by the test on paths, and the first writes if the second does
abbrev pub EffectInside : Effect → Effect → Type 0
EffectInside d e = (IsTrue e.write → IsTrue d.write) × IsTrue (inside e.path d.path)

-- each effect of an unjoined child lies inside one effect of its parent
abbrev pub ChildrenInside : State → Type 0
ChildrenInside st =
    (c t : ℕ) (child parent : TaskRow) → IsRow st c child → IsRow st t parent → SpawnedBy st.links c t
    → (e : Effect) → Contains child.effects.effects e → Any (λ d. EffectInside d e) parent.effects.effects

-- each task whose next operation is a wait is enabled
abbrev pub WaitersAreEnabled : State → Type 0
WaitersAreEnabled st = (t u : ℕ) → (link_of st.links t).waits ≡ Some u → HasStatus st t Enabled

-- each task that has an unjoined child is enabled, or has met a fault
abbrev pub ParentsAreEnabledOrFaulted : State → Type 0
ParentsAreEnabledOrFaulted st = (c t : ℕ) → SpawnedBy st.links c t → HasStatus st t Enabled ⊎ HasStatus st t Faulted

-- Task t, which has this row, is alone: it has no parent, it has no unjoined child, and it waits for nobody.
pub record IsAlone (st : State) (t : ℕ) (row : TaskRow) : Type 0 where
  pub parent : row.parent ≡ None
  pub linked_parent : (link_of st.links t).parent ≡ None
  pub childless : (c : ℕ) → ¬ SpawnedBy st.links c t
  pub free : WaitsForNobody st.links t

-- each task that is not admitted yet is alone
abbrev pub MadeTasksAreAlone : State → Type 0
MadeTasksAreAlone st = (t : ℕ) (row : TaskRow) → IsRow st t row → row.status ≡ Made → IsAlone st t row

-- the last entry of task t in the journal, if it has an entry
abbrev pub last_entry : ℕ → List Entry → Option Entry
last_entry t journal = last_or None (filter (λ (entry : Entry). entry.mv.task == t) journal)

-- the task that a move with this end has made, if it has made one
abbrev pub task_made : End → Option ℕ
task_made (ends.Made child) = Some child
task_made _ = None

-- the task that the last entry of task t made, if that entry made one
abbrev pub made_last : ℕ → List Entry → Option ℕ
made_last t journal = option_and_then (λ (entry : Entry). task_made entry.end) (last_entry t journal)

-- each task whose last entry made a task waits for nobody
abbrev pub LastMakersAreFree : List Entry → State → Type 0
LastMakersAreFree journal st = (t child : ℕ) → made_last t journal ≡ Some child → WaitsForNobody st.links t
