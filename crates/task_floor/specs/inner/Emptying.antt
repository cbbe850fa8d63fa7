-- What lies in the slots of tasks, and what a closed table says together with the tasks that were taken out of its slots.
use Rattle.std.specs.Prelude.{◌≡◌, ℕ, List, Option, None, take}
use Rattle.twe_base.specs.Limits.{Bounds}
use Rattle.twe_program.specs.Program.{Program}
use Rattle.machine_state.specs.declared.state.State.{State}
use Rattle.seg_journal.specs.declared.numbered.NumberedEntry.{NumberedEntry}
use Rattle.seg_journal.specs.Merging.{all_of}
use Rattle.floor_laws.specs.declared.rule.view.TaskSlot.{TaskSlot}
use Rattle.floor_laws.specs.declared.table.view.View.{View}
use Rattle.floor_laws.specs.table.Holds.{ShowsEnd}
use Rattle.floor_laws.specs.table.Layout.{word_count}
use Rattle.floor_laws.specs.table.Shown.{EndedQuiet, ShowsRest}
use Rattle.floor_laws.specs.declared.table.nodes.slot.TreeSlot.{TreeSlot}
use Rattle.floor_laws.specs.declared.table.nodes.slot.TreeSlot.TheVariants as kinds
use Rattle.task_floor.specs.steps.inner.Reading.{held_in}

-- what lies in the slot of a task; nothing if the slot is none of a task
abbrev pub task_in : TreeSlot → Option TaskSlot
task_in (kinds.Task slot) = slot
task_in (kinds.Node records) = None
task_in (kinds.Errand errand) = None

-- The seats were joined to one that has this view, and the table was closed. Its words begin with those of the floor, and these
-- tasks lay in the slots.
pub record EndedWith (p : Program) (lim : Bounds) (v : View) (words : List ℕ) (tasks : List TaskSlot) : Type 0 where
  pub slots : List (Option TaskSlot)
  pub quiet : EndedQuiet p lim v (take (word_count p lim) words) slots
  pub held : tasks ≡ held_in slots

-- the same of a view whose entries are those of these parts
pub record EndedAfter (p : Program) (lim : Bounds) (parts : List (List NumberedEntry)) (words : List ℕ)
    (tasks : List TaskSlot) : Type 0 where
  pub view : View
  pub entries : all_of parts ≡ view.part
  pub ended : EndedWith p lim view words tasks

-- words that begin with those of the floor, and these tasks, which lay in the slots, show this state
pub record ShowsState (p : Program) (lim : Bounds) (st : State) (words : List ℕ) (tasks : List TaskSlot) : Type 0 where
  pub slots : List (Option TaskSlot)
  pub end : ShowsEnd p st (take (word_count p lim) words) slots
  pub rest : ShowsRest p lim st (take (word_count p lim) words) slots
  pub held : tasks ≡ held_in slots
