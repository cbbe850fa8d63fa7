-- How a task that a stand has in hand goes on, beside the nodes.
use Rattle.std.specs.Prelude.{◌≡◌, ◌≢◌, ◌⊎◌, ◌++◌, ℕ, List, None}
use Rattle.std.specs.List.{All}
use Rattle.region_paths.specs.declared.elements.Elem.{Elem}
use Rattle.machine_state.specs.declared.state.TaskRow.{TaskRow}
use Rattle.task_floor.specs.steps.Resuming.{KnowsMore, MovesOn}
use Rattle.floor_laws.specs.admission.admission_core.States.{IsAmong}
use Rattle.floor_laws.specs.declared.rule.view.Phase.TheVariants.{Done}
use Rattle.floor_laws.specs.rule.nodes.Trees.{WaitFact}
use Rattle.floor_laws.specs.rule.nodes.TurnSteps.{HasPlacedChildren, LeavesNone, of_others}
use Rattle.floor_laws.specs.declared.table.view.TurnChange.{TurnChange}
use Rattle.floor_laws.specs.table.Added.{HasGrown, IsAdded}
use Rattle.floor_laws.specs.table.Layout.{free_word, phase_of_word}
use Rattle.floor_laws.specs.declared.table.nodes.view.Look.{Look}
use Rattle.floor_laws.specs.declared.table.nodes.view.Look.TheVariants.{AtPhase, AtTurn}
use Rattle.floor_laws.specs.declared.table.nodes.view.TreeView.{TreeView}
use Rattle.floor_laws.specs.table.nodes.FloorSeats.{floor_seat}
use Rattle.floor_laws.specs.table.nodes.Seats.{TreeSeat, tree_seen, turns_seen}

-- A seat with this view, which took the turn of task t, knows enough of the nodes to give it while the task has this row: it does
-- nothing in the tree, has placed all children of the task, and leaves no record that has to be removed.
pub record KnowsEnough (nodes : List (List Elem)) (v : TreeView) (t : ℕ) (row : TaskRow) : Type 0 where
  pub idle : v.activity ≡ None
  pub children : HasPlacedChildren (turns_seen v) 0 t
  pub leaves : LeavesNone nodes (tree_seen v) 0 t row.effects.effects row.status

-- One of the looks that were added shows why the value of task t was not had: its phase word did not say that it is done, or its
-- turn word was not free.
abbrev pub WasNotDone : List Look → List Look → ℕ → Type 0
WasNotDone before after t =
    (found : ℕ)
    × ((IsAdded (AtPhase t found) before after × (phase_of_word found ≢ Done))
    ⊎ (IsAdded (AtTurn t found) before after × (found ≢ free_word)))

-- each turn that was taken or given since is one of a task other than t
pub record HasLeftTurn (before after : List TurnChange) (t : ℕ) : Type 0 where
  pub added : List TurnChange
  pub is : after ≡ added ++ before
  pub others : All (λ change. change.task ≢ t) added

-- The seat has taken the turn of task t only if it found that the task was not done: it has neither taken nor given that turn, or
-- one of the looks that were added found another phase. So a turn that it found taken is not one that it took meanwhile.
abbrev pub LeftTurnUnlessUndone : TreeView → TreeView → ℕ → Type 0
LeftTurnUnlessUndone before after t =
    HasLeftTurn before.floor.turns after.floor.turns t
    ⊎ ((found : ℕ) × IsAdded (AtPhase t found) before.looks after.looks × (phase_of_word found ≢ Done))

-- The seat may know more tasks to be done and more waits, and may have looked. It may have forgotten which records of task t do
-- not stand. All else is as before.
pub record KnowsMoreBeside (before after : TreeSeat) (t : ℕ) : Type 0 where
  pub floor : KnowsMore (floor_seat before) (floor_seat after)
  pub waits : (fact : WaitFact) → IsAmong fact before.0.waits → IsAmong fact after.0.waits
  pub looks : HasGrown before.0.looks after.0.looks
  pub clear : (after.0.clear ≡ before.0.clear) ⊎ (after.0.clear ≡ of_others t before.0.clear)
  pub view : after.0 ≡ record before.0 {
    floor = after.0.floor;
    waits = after.0.waits;
    clear = after.0.clear;
    looks = after.0.looks;
  }
  pub out : after.1 ≡ before.1

-- The seat may know more tasks to be done and more waits, may have looked, and may have another turn of task t. It may have
-- forgotten which records of one other task do not stand. All else is as before.
pub record MovesOnBeside (before after : TreeSeat) (t : ℕ) : Type 0 where
  pub floor : MovesOn (floor_seat before) (floor_seat after) t
  pub waits : (fact : WaitFact) → IsAmong fact before.0.waits → IsAmong fact after.0.waits
  pub looks : HasGrown before.0.looks after.0.looks
  pub clear : (after.0.clear ≡ before.0.clear) ⊎ ((u : ℕ) × (u ≢ t) × (after.0.clear ≡ of_others u before.0.clear))
  pub view : after.0 ≡ record before.0 {
    floor = after.0.floor;
    waits = after.0.waits;
    clear = after.0.clear;
    looks = after.0.looks;
  }
  pub out : after.1 ≡ before.1
