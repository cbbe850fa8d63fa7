-- The steps of the floor on turns, phases and seats, beside the nodes: what the seat that takes one has to know of nodes, and
-- the nodes after it.
use Rattle.std.specs.Prelude.{◌≡◌, ◌≢◌, ◌==◌, ◌++◌, ℕ, true, false, List, [], ◌∷◌, Some, None, Contains, if◌then◌else◌, is_some}
use Rattle.region_paths.specs.declared.elements.Elem.{Elem}
use Rattle.effect_sets.specs.declared.effects.Effect.{Effect}
use Rattle.twe_base.specs.Limits.{Bounds}
use Rattle.twe_program.specs.Program.{Program}
use Rattle.machine_state.specs.declared.state.TaskStatus.{TaskStatus}
use Rattle.machine_state.specs.declared.state.TaskStatus.TheVariants as status
use Rattle.seg_journal.specs.declared.numbered.NumberedEntry.{NumberedEntry}
use Rattle.floor_laws.specs.declared.rule.view.HeldTurn.{HeldTurn}
use Rattle.floor_laws.specs.rule.Fitting.{Turns}
use Rattle.floor_laws.specs.rule.Floors.{Floor, put}
use Rattle.floor_laws.specs.admission.admission_core.Tasks.{Tasks}
use Rattle.floor_laws.specs.admission.admission_core.States.{State, Record, IsAmong, IsPlaceOf}
use Rattle.floor_laws.specs.admission.admission_core.Entries.{TaskEvent}
use Rattle.floor_laws.specs.rule.nodes.Rule.{KeepsNodes}
use Rattle.floor_laws.specs.rule.nodes.Trees.{Tree}

-- a step of the floor that leaves floor and nodes so is one event of the core on its tasks, and keeps the rule on nodes
abbrev pub IsTaskEvent : List (List Elem) → Program → Bounds → List NumberedEntry → Floor → Tree → State → Type 0
IsTaskEvent nodes p lim log after tree core =
    (tasks : Tasks) × TaskEvent nodes core tasks × KeepsNodes nodes p lim log after tree (record core { tasks = tasks })

-- Giving a turn.

-- the records of the other tasks
abbrev pub of_others : ℕ → List Record → List Record
of_others t [] = []
of_others t (r ∷ records) = if r.task == t then of_others t records else r ∷ of_others t records

-- seat i knows nothing of records of task t any more
abbrev pub after_forgetting : Tree → ℕ → ℕ → Tree
after_forgetting tree i t = record tree {
  fresh = put tree.fresh i (of_others t (tree.fresh i));
  clear = put tree.clear i (of_others t (tree.clear i));
}

-- seat i knows that no record of task t stands, which has these effects
abbrev pub IsClearOf : List (List Elem) → Tree → ℕ → ℕ → List Effect → Type 0
IsClearOf nodes tree i t effects =
    (e : Effect) (n : ℕ) → Contains effects e → IsPlaceOf nodes e n
    → IsAmong (record { task = t; effect = e; node = n }) (tree.clear i)

-- What a seat has to know of the records of a task whose turn it gives. If the task is still to be admitted, it has placed none
-- that it has not removed. If the task has ended, none stands at the place of an effect.
abbrev pub LeavesNone : List (List Elem) → Tree → ℕ → ℕ → List Effect → TaskStatus → Type 0
LeavesNone nodes tree i t effects status.Made = (r : Record) → IsAmong r (tree.fresh i) → r.task ≢ t
LeavesNone nodes tree i t effects status.Enabled = Unit {0}
LeavesNone nodes tree i t effects status.Done = IsClearOf nodes tree i t effects
LeavesNone nodes tree i t effects status.Faulted = IsClearOf nodes tree i t effects

-- seat i has no first turn of a child of task t, so each spawned child of t is placed if the seat has the turn of t
abbrev pub HasPlacedChildren : Turns → ℕ → ℕ → Type 0
HasPlacedChildren turns i t = (c : ℕ) (child : HeldTurn) → turns i c ≡ Some child → child.first ≡ true → child.row.parent ≢ Some t

-- Seat i may give the turn of task t, which it took: it does nothing in the tree, has placed all children of t, and leaves no
-- record that has to be removed.
pub record MayGiveTaken (nodes : List (List Elem)) (turns : Turns) (tree : Tree) (i t : ℕ) (turn : HeldTurn) : Type 0 where
  pub has : turns i t ≡ Some turn
  pub taken : turn.first ≡ false
  pub idle : tree.activities i ≡ None
  pub children : HasPlacedChildren turns i t
  pub leaves : LeavesNone nodes tree i t turn.row.effects.effects turn.row.status

-- Seat i may give the first turn of task t. If the task was spawned, the seat has placed a record for each of its effects.
pub record MayGiveFirst (nodes : List (List Elem)) (turns : Turns) (tree : Tree) (i t : ℕ) (turn : HeldTurn) : Type 0 where
  pub has : turns i t ≡ Some turn
  pub first : turn.first ≡ true
  pub placed : is_some turn.row.parent ≡ true → (e : Effect) → Contains turn.row.effects.effects e
      → (n : ℕ) × IsPlaceOf nodes e n × IsAmong (record { task = t; effect = e; node = n }) (tree.fresh i)
  pub leaves : LeavesNone nodes tree i t turn.row.effects.effects turn.row.status

-- Seats.

-- seat i has what seat j has placed and removed, and knows the waits that it knows; seat j is left with none
abbrev pub after_joining : Tree → ℕ → ℕ → Tree
after_joining tree i j = record tree {
  placed = put (put tree.placed i (tree.placed i ++ tree.placed j)) j [];
  removed = put (put tree.removed i (tree.removed i ++ tree.removed j)) j [];
  waits = put (put tree.waits i (tree.waits i ++ tree.waits j)) j [];
}
