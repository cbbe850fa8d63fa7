-- What a seat has placed at a node is in the content that it has there, and what of its own is there it has placed.
use Rattle.std.proofs.Common.{ℕ, List, sym, ap, subst, ◌∙◌, inl, inr}
use Rattle.region_paths.specs.declared.elements.Elem.{Elem}
use Rattle.effect_sets.specs.declared.effects.Effect.{Effect}
use Rattle.twe_base.specs.Limits.{Bounds}
use Rattle.floor_laws.specs.declared.rule.view.HeldTurn.{HeldTurn}
use Rattle.floor_laws.specs.declared.table.view.View.{View}
use Rattle.floor_laws.specs.table.FloorOf.{turn_in}
use Rattle.floor_laws.specs.admission.admission_core.States.{IsAmong, Record}
use Rattle.floor_laws.specs.rule.nodes.FactSteps.{IsToPlace}
use Rattle.floor_laws.specs.declared.table.nodes.slot.Errand.{Errand}
use Rattle.floor_laws.specs.declared.table.nodes.slot.ErrandKind.{ErrandKind}
use Rattle.floor_laws.specs.declared.table.nodes.slot.ErrandKind.TheVariants.{Admission, Placing, Removal}
use Rattle.floor_laws.specs.declared.table.nodes.slot.TreeSlot.{TreeSlot}
use Rattle.floor_laws.specs.declared.table.nodes.view.TreeView.{TreeView}
use Rattle.floor_laws.specs.table.nodes.Seats.{HasOwn, TreeSeat}
use Rattle.tree_admit.specs.Descents.{MayPut, MayPutFor}
use Rattle.tree_admit.specs.Errands.{MaySetOutFor, record_of}
use Rattle.tree_admit.specs.Going.{HasOnlyLearned}

-- who has only learned since has placed the same
pub own_before : (v w : TreeView) (n : ℕ) (content : List Record) → HasOnlyLearned v w → HasOwn w n content → HasOwn v n content
own_before v w n content learned own = record {
  there = λ r among at. own.there r (subst (IsAmong r) (sym learned.fresh) among) at;
  fresh = λ r turn among has place.
      subst (IsAmong r) learned.fresh (own.fresh r turn among (ap (λ (f : View). turn_in f.turns r.task) learned.floor ∙ has) place);
}

module _ (nodes : List (List Elem)) where
  -- a task of which a record may be placed is new or still to be admitted
  to_place : (kind : ErrandKind) (v : TreeView) (t : ℕ) (e : Effect) (turn : HeldTurn) (place : ℕ) (done : List ℕ) (content : List Record) → MaySetOutFor kind turn
      → MayPutFor nodes kind v t e turn place done content → IsToPlace turn
  to_place Admission v t e turn place done content may put = inr may.1
  to_place Placing v t e turn place done content may put = inl put.0
  to_place Removal v t e turn place done content may put = absurd put

  -- a record that is to be placed and stands was placed by the seat
  pub stood_fresh : (lim : Bounds) (earlier : TreeView) (rest : List (ℕ × TreeSlot)) (errand : Errand) (e : Effect) (done : List ℕ) (content : List Record) (me : TreeSeat)
      → MayPut nodes lim earlier rest errand e done content me → IsAmong (record_of errand e) content → IsAmong (record_of errand e) earlier.fresh
  stood_fresh lim earlier rest errand e done content me may among =
      may.own.fresh (record_of errand e) may.knows.turn among may.knows.has
      (to_place errand.kind me.0 errand.task e may.knows.turn errand.place done content may.knows.may may.may)
