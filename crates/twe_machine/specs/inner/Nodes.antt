-- Nodes that keep their enabled tasks.
use Rattle.std.specs.Prelude.{◌≡◌, ℕ, Bool, true, false, List, Some, slice_get}
use Rattle.twe_machine.specs.declared.book.NodeTasks.{NodeTasks}
use Rattle.twe_machine.specs.declared.queue.Queued.{Queued}
use Rattle.machine_state.specs.declared.state.State.{State}
use Rattle.machine_state.specs.declared.state.TaskStatus.TheVariants.{Enabled}
use Rattle.twe_machine.specs.Books.{NodeIs}
use Rattle.twe_machine.specs.Queues.{IsQueued}
use Rattle.machine_state.specs.Rows.{HasStatus}

-- each enabled task of the first entries is one of the others
abbrev pub EntriesKeep : State → List Queued → List Queued → Type 0
EntriesKeep st old new = (s : ℕ) → HasStatus st s Enabled → IsQueued old s → IsQueued new s

-- each node still has its enabled tasks, those that are placed there and those that are placed below
abbrev pub NodesKeep : State → List NodeTasks → List NodeTasks → Type 0
NodesKeep st old new =
    (n : ℕ) (node : NodeTasks) → slice_get old n ≡ Some node
    → NodeIs new n
    (λ (now : NodeTasks). EntriesKeep st node.here.entries now.here.entries
    × EntriesKeep st node.below.entries now.below.entries)

-- the tasks that are placed at a node, or else those that are placed below it
abbrev pub entries_of : Bool → NodeTasks → List Queued
entries_of true node = node.here.entries
entries_of false node = node.below.entries
