-- What each step on a node asks of the seat that takes it, in the words of the rule on nodes, and what it tells the seat.
use Rattle.std.specs.Prelude.{◌≡◌, ◌≢◌, ◌⊎◌, ◌==◌, ℕ, List, [], ◌∷◌, Option, Some, None, if◌then◌else◌, slice_get}
use mathlib.Core.Option as core
use Rattle.region_paths.specs.declared.elements.Elem.{Elem}
use Rattle.effect_sets.specs.declared.effects.Effect.{Effect}
use Rattle.atomic_table.specs.Table.{Me}
use Rattle.twe_base.specs.Limits.{Bounds}
use Rattle.floor_laws.specs.declared.rule.view.HeldTurn.{HeldTurn}
use Rattle.floor_laws.specs.rule.Fitting.{Turns}
use Rattle.floor_laws.specs.table.FloorOf.{turn_in}
use Rattle.floor_laws.specs.admission.admission_core.States.{Activity, Admit, Child, IsAmong, Leaves, Purpose, Record, Remove, Stage, Descends, Steps, Walks, held}
use Rattle.floor_laws.specs.rule.nodes.FactSteps.{IsToPlace}
use Rattle.floor_laws.specs.rule.nodes.LockSteps.{MayEnter, MayGiveParent, MayGoDown, MayPassBy, MayWalkDown, MayWalkUp}
use Rattle.floor_laws.specs.rule.nodes.Trees.{Tree, Unlocked}
use Rattle.floor_laws.specs.declared.table.nodes.slot.Errand.{Errand}
use Rattle.floor_laws.specs.declared.table.nodes.slot.ErrandKind.{ErrandKind}
use Rattle.floor_laws.specs.declared.table.nodes.slot.ErrandKind.TheVariants.{Admission, Placing, Removal}
use Rattle.floor_laws.specs.declared.table.nodes.slot.TreeSlot.{TreeSlot}
use Rattle.floor_laws.specs.declared.table.nodes.slot.TreeSlot.TheVariants as kinds
use Rattle.floor_laws.specs.declared.table.nodes.view.TreeView.{TreeView}
use Rattle.floor_laws.specs.table.nodes.Layout.{bare_lock, content_place}
use Rattle.floor_laws.specs.table.nodes.TreeOf.{content_in}

-- a seat: its view, and the slots that it has out, the latest first
abbrev pub TreeSeat : Type 0
TreeSeat = Me TreeSlot TreeView

-- The nodes as a seat with this view knows them, and the turns that it has. Whichever seat one asks for, it is this one. Of locks
-- and contents it knows nothing.
abbrev pub tree_seen : TreeView → Tree
tree_seen v = record {
  locks = λ n. Unlocked;
  contents = λ n. None;
  activities = λ i. v.activity;
  kept = λ i. content_in v.kept;
  placed = λ i. v.placed;
  removed = λ i. v.removed;
  fresh = λ i. v.fresh;
  clear = λ i. v.clear;
  waits = λ i. v.waits;
}

-- the turns that a seat with this view has, whichever seat one asks for
abbrev pub turns_seen : TreeView → Turns
turns_seen v = λ i. turn_in v.floor.turns

-- Errands.

-- the purpose of an errand of this kind for effect e of task t
abbrev pub purpose_for : ErrandKind → ℕ → Effect → Purpose
purpose_for Admission t e = Admit t e
purpose_for Placing t e = Child t e
purpose_for Removal t e = Remove t e

-- the stage of who holds node n alone, on the way to a place or at it
abbrev pub stage_at : ℕ → ℕ → Stage
stage_at place n = if place == n then Walks (n ∷ []) [] else Descends n

-- what a seat that has locked the root does, if it goes on this errand and knows its effect
abbrev pub activity_for : Errand → Option Effect → Option Activity
activity_for errand None = None
activity_for errand (Some e) =
    Some (record { purpose = purpose_for errand.kind errand.task e; place = errand.place; stage = stage_at errand.place 0 })

-- an effect of a task whose turn is known
abbrev pub effect_known : Option HeldTurn → ℕ → Option Effect
effect_known None number = None
effect_known (Some turn) number = slice_get turn.row.effects.effects number

-- what a seat with this view goes for that announces this
abbrev pub errand_of : TreeView → core.Option TreeSlot → Option Activity
errand_of v core.none = None
errand_of v (core.some (kinds.Task slot)) = None
errand_of v (core.some (kinds.Node records)) = None
errand_of v (core.some (kinds.Errand errand)) =
    activity_for errand (effect_known (turn_in v.floor.turns errand.task) errand.effect)

-- Locking.

-- A seat with this view may lock node c, and does this from then on. It enters at the root, for what it announces; or it goes
-- down to its place; or it walks below its place.
pub data MayLock (nodes : List (List Elem)) (v : TreeView) (said : core.Option TreeSlot) (c : ℕ) (next : Activity) : Type 0 where
  enters : c ≡ 0 → errand_of v said ≡ Some next → MayEnter nodes (turns_seen v) (tree_seen v) 0 next → MayLock nodes v said c next
  goes_down : (a : Activity) (n : ℕ) → MayGoDown nodes (tree_seen v) 0 a n c → next ≡ record a { stage = Steps n c }
      → MayLock nodes v said c next
  walks_down : (a : Activity) (t : ℕ) (e : Effect) (n : ℕ) (stack done : List ℕ)
      → MayWalkDown nodes (tree_seen v) 0 a t e n c stack done
      → next ≡ record a { stage = Walks (c ∷ n ∷ stack) done } → MayLock nodes v said c next

-- the seat has node n with these records, and does this
abbrev pub locked_view : TreeView → ℕ → List Record → Activity → TreeView
locked_view v n records next = record v { activity = Some next; kept = record { node = n; content = Some records } ∷ v.kept }

-- What a seat with this view has placed at node n is among its records. Of a task that is new or still to be admitted, and whose
-- turn the seat has, nothing else is.
pub record HasOwn (v : TreeView) (n : ℕ) (records : List Record) : Type 0 where
  pub there : (r : Record) → IsAmong r v.fresh → r.node ≡ n → IsAmong r records
  pub fresh : (r : Record) (turn : HeldTurn) → IsAmong r records → turn_in v.floor.turns r.task ≡ Some turn → IsToPlace turn
      → IsAmong r v.fresh

-- the seat has locked node n, and has its content
pub record TookNode (lim : Bounds) (before : TreeSeat) (n : ℕ) (next : Activity) (after : TreeSeat) : Type 0 where
  pub records : List Record
  pub own : HasOwn before.0 n records
  pub seat : after ≡ (locked_view before.0 n records next, (content_place lim n, kinds.Node records) ∷ before.1)

-- if the lock word was the one that the seat asked for, the seat has locked the node; otherwise nothing changes
abbrev pub TriedNode : Bounds → TreeSeat → ℕ → Activity → ℕ → ℕ → TreeSeat → Type 0
TriedNode lim before n next free found after =
    ((found ≡ free) × TookNode lim before n next after) ⊎ ((found ≢ free) × (after ≡ before))

-- Passing by.

-- A seat with this view may pass by node c, and does this from then on.
pub record MayPass (nodes : List (List Elem)) (v : TreeView) (c : ℕ) (next : Activity) : Type 0 where
  pub activity : Activity
  pub node : ℕ
  pub stack : List ℕ
  pub done : List ℕ
  pub may : MayPassBy nodes (tree_seen v) 0 activity node c stack done
  pub goes : next ≡ record activity { stage = Walks (node ∷ stack) (c ∷ done) }

-- the seat does this, and has and knows what it did before
abbrev pub passed_view : TreeView → Activity → TreeView
passed_view v next = record v { activity = Some next }

-- if the lock word said that no record lies at the node, the seat has passed by it; otherwise nothing changes
abbrev pub PassedNode : TreeSeat → Activity → ℕ → TreeSeat → Type 0
PassedNode before next found after =
    ((found ≡ bare_lock) × (after ≡ (passed_view before.0 next, before.1))) ⊎ ((found ≢ bare_lock) × (after ≡ before))

-- Unlocking.

-- A seat with this view may unlock node n and go on, and does this from then on. It gives the parent of the other node that it
-- holds, or has finished the node.
pub data MayGoOn (nodes : List (List Elem)) (v : TreeView) (n : ℕ) (next : Activity) : Type 0 where
  gives_parent : (a : Activity) (c : ℕ) (stage : Stage) → MayGiveParent (tree_seen v) 0 a n c stage
      → next ≡ record a { stage = stage } → MayGoOn nodes v n next
  walks_up : (a : Activity) (m : ℕ) (stack done : List ℕ) → MayWalkUp nodes (tree_seen v) 0 a n m stack done
      → next ≡ record a { stage = Walks (m ∷ stack) (n ∷ done) } → MayGoOn nodes v n next

-- what is left to do for a seat that gives back these nodes: nothing, if there are none
abbrev pub left_to_give : Activity → List ℕ → Option Activity
left_to_give a [] = None
left_to_give a (n ∷ others) = Some (record a { stage = Leaves (n ∷ others) })

-- A seat with this view may unlock node n and stop: it is the last that it holds. It only gives back the others from then on.
pub record MayStop (v : TreeView) (n : ℕ) (next : Option Activity) : Type 0 where
  pub activity : Activity
  pub active : v.activity ≡ Some activity
  pub others : List ℕ
  pub holds : held activity.stage ≡ n ∷ others
  pub goes : next ≡ left_to_give activity others

-- the latest slot that the seat has out is that of node n, with the content that it knows
pub record HasContent (lim : Bounds) (me : TreeSeat) (n : ℕ) (rest : List (ℕ × TreeSlot)) : Type 0 where
  pub content : List Record
  pub has : content_in me.0.kept n ≡ Some content
  pub slot : me.1 ≡ (content_place lim n, kinds.Node content) ∷ rest

-- the seat has node n no longer, and does this, or nothing more
abbrev pub unlocked_view : TreeView → ℕ → Option Activity → TreeView
unlocked_view v n next = record v { activity = next; kept = record { node = n; content = None } ∷ v.kept }

-- the seat has given node n, and the slots that it has out beside the node's are left
abbrev pub GaveNode : TreeSeat → ℕ → Option Activity → List (ℕ × TreeSlot) → TreeSeat → Type 0
GaveNode before n next rest after = after ≡ (unlocked_view before.0 n next, rest)
