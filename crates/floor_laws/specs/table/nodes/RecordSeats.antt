-- What the steps on records ask of the seat that takes them, in the words of the rule on nodes, and what it knows afterwards.
-- Whoever places a record says in the decider word of its task whether that task decides there from then on. The others are
-- stores to the lock word of a node that the seat has locked, and leave the word as it was.
use Rattle.std.specs.Prelude.{◌≡◌, ℕ, List, ◌∷◌, Some}
use Rattle.region_paths.specs.declared.elements.Elem.{Elem}
use Rattle.effect_sets.specs.declared.effects.Effect.{Effect}
use Rattle.twe_base.specs.Limits.{Bounds}
use Rattle.twe_program.specs.Program.{Program}
use Rattle.floor_laws.specs.admission.admission_core.States.{Activity, Admit, Child, Purpose, Record, Remove, record_effect}
use Rattle.floor_laws.specs.rule.nodes.FactSteps.{FindsClear}
use Rattle.floor_laws.specs.rule.nodes.LockSteps.{stopped}
use Rattle.floor_laws.specs.rule.nodes.RecordSteps.{MayPlace, MayPlaceChild, MayTakeOut, not_clear}
use Rattle.floor_laws.specs.declared.table.nodes.view.TreeView.{TreeView}
use Rattle.floor_laws.specs.table.nodes.Layout.{lock_place}
use Rattle.floor_laws.specs.table.nodes.Plays.{TreeStep}
use Rattle.floor_laws.specs.table.nodes.Seats.{TreeSeat, tree_seen, turns_seen}
use Rattle.floor_laws.specs.table.nodes.Without.{without_record}

-- the task that an activity is about, and the record of its effect
abbrev pub record_task : Purpose → ℕ
record_task (Admit t e) = t
record_task (Child t e) = t
record_task (Remove t e) = t

-- the record that an activity is about: its task's, of its effect, at its place
abbrev pub record_about : Activity → Record
record_about a = record { task = record_task a.purpose; effect = record_effect a.purpose; node = a.place }

-- Placing.

-- A seat with this view, which does this, may place the record that it went for, at its place, which has this content: that of a
-- task that is to be admitted, or that of a spawned child.
pub data MayMark (nodes : List (List Elem)) (v : TreeView) (a : Activity) (content : List Record) : Type 0 where
  marks : (t : ℕ) (e : Effect) (done : List ℕ) → MayPlace nodes (tree_seen v) 0 a t e done content → MayMark nodes v a content
  marks_child : (c : ℕ) (e : Effect) (done : List ℕ) → MayPlaceChild (turns_seen v) (tree_seen v) 0 a c e done content
      → MayMark nodes v a content

-- The seat has placed the record, which stands at the place beside the content. It knows it as placed since it got the turn, and
-- gives back the nodes that it holds.
abbrev pub marked_view : TreeView → Activity → List Record → TreeView
marked_view v a content = record v {
  activity = Some (stopped a);
  kept = record { node = a.place; content = Some (record_about a ∷ content) } ∷ v.kept;
  placed = record_about a ∷ v.placed;
  fresh = record_about a ∷ v.fresh;
  clear = not_clear (record_task a.purpose) a.place v.clear;
}

-- the record that the seat may place is placed
abbrev pub MarksPlaced : List (List Elem) → Program → Bounds → TreeStep → TreeSeat → ℕ → TreeSeat → Type 0
MarksPlaced nodes p lim s before found after =
    (a : Activity) (content : List Record) → MayMark nodes before.0 a content → after ≡ (marked_view before.0 a content, before.1)

-- Removing.

-- A seat with this view, which does this, may remove the record that it went for from its place, which has this content.
pub record MayUnmark (v : TreeView) (a : Activity) (content : List Record) : Type 0 where
  pub task : ℕ
  pub effect : Effect
  pub done : List ℕ
  pub may : MayTakeOut (turns_seen v) (tree_seen v) 0 a task effect done content (without_record (record_about a) content)
      (without_record (record_about a) v.fresh)

-- The seat has removed the record from the content of its place. It knows that the record does not stand, and gives back the
-- nodes that it holds.
abbrev pub unmarked_view : TreeView → Activity → List Record → TreeView
unmarked_view v a content = record v {
  activity = Some (stopped a);
  kept = record { node = a.place; content = Some (without_record (record_about a) content) } ∷ v.kept;
  removed = record_about a ∷ v.removed;
  fresh = without_record (record_about a) v.fresh;
  clear = record_about a ∷ v.clear;
}

-- a store to the lock word of the place of the record that the seat may remove says that it is removed
abbrev pub MarksRemoved : Program → Bounds → TreeStep → TreeSeat → ℕ → TreeSeat → Type 0
MarksRemoved p lim s before found after =
    (a : Activity) (content : List Record) → s.word ≡ lock_place p lim a.place → MayUnmark before.0 a content
    → after ≡ (unmarked_view before.0 a content, before.1)

-- Not finding a record.

-- the seat knows that the record does not stand
abbrev pub clear_view : TreeView → Record → TreeView
clear_view v r = record v { clear = r ∷ v.clear }

-- a seat that has locked its place and does not find the record there that it went for knows that it does not stand
abbrev pub MarksClear : Program → Bounds → TreeStep → TreeSeat → ℕ → TreeSeat → Type 0
MarksClear p lim s before found after =
    (a : Activity) → s.word ≡ lock_place p lim a.place → before.0.activity ≡ Some a
    → FindsClear (turns_seen before.0) (tree_seen before.0) 0 (record_about a)
    → after ≡ (clear_view before.0 (record_about a), before.1)
