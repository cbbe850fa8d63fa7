-- What a worker goes down the tree for, and what it has to know.
use Rattle.std.specs.Prelude.{◌≡◌, ℕ, false, List, ◌∷◌, Some, slice_get}
use Rattle.region_paths.specs.declared.elements.Elem.{Elem}
use Rattle.effect_sets.specs.declared.effects.Effect.{Effect}
use Rattle.machine_state.specs.declared.state.TaskStatus.TheVariants as status
use Rattle.floor_laws.specs.declared.rule.view.HeldTurn.{HeldTurn}
use Rattle.floor_laws.specs.table.FloorOf.{turn_in}
use Rattle.floor_laws.specs.admission.admission_core.States.{Activity, IsAmong, IsPlaceOf, Purpose, Record}
use Rattle.floor_laws.specs.rule.nodes.LockSteps.{PassesHere}
use Rattle.floor_laws.specs.rule.nodes.RecordSteps.{not_clear}
use Rattle.floor_laws.specs.rule.nodes.Trees.{WaitFact}
use Rattle.floor_laws.specs.declared.table.nodes.slot.Errand.{Errand}
use Rattle.floor_laws.specs.declared.table.nodes.slot.ErrandKind.{ErrandKind}
use Rattle.floor_laws.specs.declared.table.nodes.slot.ErrandKind.TheVariants.{Admission, Placing, Removal}
use Rattle.floor_laws.specs.declared.table.nodes.view.TreeView.{TreeView}
use Rattle.floor_laws.specs.table.nodes.Seats.{purpose_for, stage_at}
use Rattle.floor_laws.specs.table.nodes.Without.{without_record}

-- what a worker does on this errand for this effect that has come to node n
abbrev pub errand_at : Errand → Effect → ℕ → Activity
errand_at errand e n = record {
  purpose = purpose_for errand.kind errand.task e;
  place = errand.place;
  stage = stage_at errand.place n;
}

-- the task of an errand is still to be admitted, if the errand is for that
abbrev pub MaySetOutFor : ErrandKind → HeldTurn → Type 0
MaySetOutFor Admission turn = (turn.first ≡ false) × (turn.row.status ≡ status.Made)
MaySetOutFor Placing turn = Unit {0}
MaySetOutFor Removal turn = Unit {0}

-- A seat with this view has the turn of the errand's task, of which this is the effect, and the errand names its place.
pub record KnowsErrand (nodes : List (List Elem)) (v : TreeView) (errand : Errand) (e : Effect) : Type 0 where
  pub turn : HeldTurn
  pub has : turn_in v.floor.turns errand.task ≡ Some turn
  pub effect : slice_get turn.row.effects.effects errand.effect ≡ Some e
  pub place : IsPlaceOf nodes e errand.place
  pub may : MaySetOutFor errand.kind turn

-- each of the records passes
abbrev pub AllPass : List WaitFact → Purpose → List Record → Type 0
AllPass waits purpose content = (r : Record) → IsAmong r content → PassesHere waits purpose r

-- the record that an errand is about
abbrev pub record_of : Errand → Effect → Record
record_of errand e = record { task = errand.task; effect = e; node = errand.place }

-- What a view knows once a record was placed, or removed, or not found where it would stand.

-- the record was placed: it is fresh, and is no longer among those that do not stand
abbrev pub with_placed : Record → TreeView → TreeView
with_placed r v = record v { placed = r ∷ v.placed; fresh = r ∷ v.fresh; clear = not_clear r.task r.node v.clear }

-- the record was removed: it is fresh no longer, and does not stand
abbrev pub with_removed : Record → TreeView → TreeView
with_removed r v = record v { removed = r ∷ v.removed; fresh = without_record r v.fresh; clear = r ∷ v.clear }

-- the record was not found: it does not stand
abbrev pub with_clear : Record → TreeView → TreeView
with_clear r v = record v { clear = r ∷ v.clear }
