-- What a worker may do at its place once it has looked around.
use Rattle.std.proofs.Common.{◌≡◌, ◌⊎◌, ℕ, List, [], ◌∷◌, refl, sym, subst, ◌∙◌, inl, inr}
use Rattle.std.specs.Prelude.{IfOk, OnOk, Result, Ok, Err}
use Rattle.region_paths.specs.declared.elements.Elem.{Elem}
use Rattle.effect_sets.specs.declared.effects.Effect.{Effect}
use Rattle.effect_tree.specs.Place.{IsSolid}
use Rattle.twe_base.specs.Limits.{Bounds}
use Rattle.floor_laws.specs.declared.rule.view.HeldTurn.{HeldTurn}
use Rattle.floor_laws.specs.admission.admission_core.States.{Record}
use Rattle.floor_laws.specs.admission.admission_core.Events.{AllFinishedOrApart}
use Rattle.floor_laws.specs.declared.table.nodes.slot.Errand.{Errand}
use Rattle.floor_laws.specs.declared.table.nodes.slot.ErrandKind.{ErrandKind}
use Rattle.floor_laws.specs.declared.table.nodes.slot.ErrandKind.TheVariants.{Admission, Placing, Removal}
use Rattle.floor_laws.specs.declared.table.nodes.slot.TreeSlot.{TreeSlot}
use Rattle.floor_laws.specs.declared.table.nodes.view.TreeView.{TreeView}
use Rattle.floor_laws.specs.table.nodes.Seats.{HasOwn, TreeSeat, purpose_for}
use Rattle.tree_admit.specs.Going.{HasNode, HasOnlyFollowed}
use Rattle.tree_admit.specs.Errands.{AllPass}
use Rattle.tree_admit.specs.Descents.{HasWalkedBelow, IsOfChild, MayLookAround, MayPut, MayPutFor, MayWalkBelow, walking}
use Rattle.tree_admit.proofs.Putting.{arrived}
use Rattle.tree_admit.proofs.Steps.{followed_has}

put_for : (nodes : List (List Elem)) (v : TreeView) (t : ℕ) (e : Effect) (turn : HeldTurn) (place : ℕ) (done : List ℕ) (content : List Record) (kind : ErrandKind) → IsOfChild kind turn
    → AllPass v.waits (purpose_for kind t e) content → (kind ≡ Admission → IsSolid e.path ⊎ AllFinishedOrApart nodes e place done) → MayPutFor nodes kind v t e turn place done content
put_for nodes v t e turn place done content Admission child pass below = (pass, below refl)
put_for nodes v t e turn place done content Placing child pass below = child
put_for nodes v t e turn place done content Removal child pass below = absurd child

pub on_ok : {A E : Type 0} (P Q : A → Type 0) (r : Result A E) → ((x : A) → P x → Q x) → IfOk r P → IfOk r Q
on_ok P Q (Ok x) f h = f x h
on_ok P Q (Err x) f h = h

pub once_ok : {A E : Type 0} (P Q : Type 0) (r : Result A E) → (P → Q) → OnOk r P → OnOk r Q
once_ok P Q (Ok x) f h = f h
once_ok P Q (Err x) f h = h

module _ (nodes : List (List Elem)) (lim : Bounds) (earlier : TreeView) (rest : List (ℕ × TreeSlot)) (errand : Errand) (e : Effect) (content : List Record) (me : TreeSeat)
    (may : MayLookAround nodes lim earlier rest errand e content me) where
  pub arrived_has : HasNode lim earlier rest (walking errand e (errand.place ∷ []) []) errand.place content me
  arrived_has = arrived lim earlier rest errand e content me may.has

  pub around_walks : MayWalkBelow nodes lim earlier rest errand e errand.place [] [] content me
  around_walks = record {
    has = arrived_has;
    unfinished = λ m over among. absurd among;
    unheld = λ m over. may.has.others m (λ same. over.other (sym same)) ∙ may.outside.none m;
    none = may.outside.none errand.place;
  }

  pub walked_ready : (then : List Record) (final : TreeSeat) → HasWalkedBelow nodes lim earlier rest errand e errand.place [] [] then final → then ≡ content
      → (done : List ℕ) × MayPut nodes lim earlier rest errand e done then final
  walked_ready then final walk same = (
    walk.after,
    record {
      has = walk.has;
      knows = may.knows;
      may = put_for nodes final.0 errand.task e may.knows.turn errand.place walk.after then errand.kind may.child walk.pass (λ is. inr walk.finished.all);
      none = may.outside.none errand.place;
      own = subst (λ (l : List Record). HasOwn earlier errand.place l) (sym same) may.own;
    },
  )

  pub looked_ready : (final : TreeSeat) → HasOnlyFollowed me final → AllPass final.0.waits (purpose_for errand.kind errand.task e) content → (errand.kind ≡ Admission → IsSolid e.path)
      → (done : List ℕ) × MayPut nodes lim earlier rest errand e done content final
  looked_ready final only pass solid = (
    [],
    record {
      has = followed_has lim earlier rest (walking errand e (errand.place ∷ []) []) errand.place content me arrived_has final only;
      knows = may.knows;
      may = put_for nodes final.0 errand.task e may.knows.turn errand.place [] content errand.kind may.child pass (λ is. inl (solid is));
      none = may.outside.none errand.place;
      own = may.own;
    },
  )
