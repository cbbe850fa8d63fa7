-- What a stand has to have for each part of its way, and what it has then.
use Rattle.std.specs.Prelude.{◌≡◌, ◌≢◌, ◌⊎◌, ℕ, Bool, true, false, List, [], ◌∷◌, None, is_some}
use Rattle.region_paths.specs.declared.elements.Elem.{Elem}
use Rattle.effect_sets.specs.declared.effects.Effect.{Effect}
use Rattle.effect_tree.specs.Place.{IsSolid}
use Rattle.prefix_tree.specs.Nodes.{IsParent}
use Rattle.twe_base.specs.Limits.{Bounds}
use Rattle.twe_program.specs.Program.{Program}
use Rattle.machine_state.specs.declared.state.TaskStatus.TheVariants as status
use Rattle.floor_laws.specs.declared.rule.view.HeldTurn.{HeldTurn}
use Rattle.floor_laws.specs.admission.admission_core.States.{Activity, Descends, IsAbove, IsAmong, ActivityIsOver, Record, Walks}
use Rattle.floor_laws.specs.admission.admission_core.Events.{AllFinishedOrApart}
use Rattle.floor_laws.specs.declared.table.nodes.slot.Errand.{Errand}
use Rattle.floor_laws.specs.declared.table.nodes.slot.ErrandKind.{ErrandKind}
use Rattle.floor_laws.specs.declared.table.nodes.slot.ErrandKind.TheVariants.{Admission, Placing, Removal}
use Rattle.floor_laws.specs.declared.table.nodes.slot.TreeSlot.{TreeSlot}
use Rattle.floor_laws.specs.declared.table.nodes.view.TreeView.{TreeView}
use Rattle.floor_laws.specs.table.nodes.Seats.{HasOwn, TreeSeat, purpose_for}
use Rattle.floor_laws.specs.table.nodes.TreeOf.{content_in}
use Rattle.tree_admit.specs.declared.bars.Attempt.{Attempt}
use Rattle.tree_admit.specs.declared.bars.Attempt.TheVariants.{Placed, Stood, Barred}
use Rattle.tree_admit.specs.Bars.{WasBarred}
use Rattle.tree_admit.specs.Going.{HasLeft, HasNode, IsOutside}
use Rattle.tree_admit.specs.Errands.{AllPass, KnowsErrand, errand_at, record_of, with_clear, with_placed, with_removed}

-- The seat holds node n alone on its way, each record there passes, and c is the next node on the way. The earlier view had no
-- content of node n.
pub record MayStepDown (nodes : List (List Elem)) (lim : Bounds) (earlier : TreeView) (rest : List (ℕ × TreeSlot)) (a : Activity)
    (n : ℕ) (content : List Record) (c : ℕ) (me : TreeSeat) : Type 0 where
  pub has : HasNode lim earlier rest a n content me
  pub stage : a.stage ≡ Descends n
  pub child : IsParent nodes n c
  pub way : IsAbove nodes c a.place
  pub pass : AllPass me.0.waits a.purpose content
  pub none : content_in earlier.kept n ≡ None
  pub differs : n ≢ c

-- what a worker does on this errand for this effect that holds these nodes at its place and below it, and has finished those
abbrev pub walking : Errand → Effect → List ℕ → List ℕ → Activity
walking errand e stack done = record {
  purpose = purpose_for errand.kind errand.task e;
  place = errand.place;
  stage = Walks stack done;
}

-- no node below this one is finished
abbrev pub NoneBelow : List (List Elem) → ℕ → List ℕ → Type 0
NoneBelow nodes n done = (m : ℕ) → ActivityIsOver nodes n m → ¬ IsAmong m done

-- what was finished is so still, each child of the node is finished or apart from the effect, and all else that is finished
-- lies below the node
pub record HasFinishedBelow (nodes : List (List Elem)) (e : Effect) (n : ℕ) (before after : List ℕ) : Type 0 where
  pub all : AllFinishedOrApart nodes e n after
  pub kept : (m : ℕ) → IsAmong m before → IsAmong m after
  pub below : (m : ℕ) → IsAmong m after → IsAmong m before ⊎ ActivityIsOver nodes n m

-- The seat may walk below node n, the last that it holds: of the nodes below it none is finished and none is held.
pub record MayWalkBelow (nodes : List (List Elem)) (lim : Bounds) (earlier : TreeView) (rest : List (ℕ × TreeSlot))
    (errand : Errand) (e : Effect) (n : ℕ) (stack done : List ℕ) (content : List Record) (me : TreeSeat) : Type 0 where
  pub has : HasNode lim earlier rest (walking errand e (n ∷ stack) done) n content me
  pub unfinished : NoneBelow nodes n done
  pub unheld : (m : ℕ) → ActivityIsOver nodes n m → content_in me.0.kept m ≡ None
  pub none : content_in earlier.kept n ≡ None

-- The seat has walked below node n, and holds it as before: each record there passes, and each child is finished or apart
-- from the effect.
pub record HasWalkedBelow (nodes : List (List Elem)) (lim : Bounds) (earlier : TreeView) (rest : List (ℕ × TreeSlot))
    (errand : Errand) (e : Effect) (n : ℕ) (stack done : List ℕ) (content : List Record) (me : TreeSeat) : Type 0 where
  pub after : List ℕ
  pub has : HasNode lim earlier rest (walking errand e (n ∷ stack) after) n content me
  pub pass : AllPass me.0.waits (purpose_for errand.kind errand.task e) content
  pub finished : HasFinishedBelow nodes e n done after

-- what the worker needs at the place to place the record: for an admission, that each record there passes and nothing stands
-- below that could be in the way; for a spawned child, its first turn
abbrev pub MayPutFor : List (List Elem) → ErrandKind → TreeView → ℕ → Effect → HeldTurn → ℕ → List ℕ → List Record → Type 0
MayPutFor nodes Admission v t e turn place done content =
    AllPass v.waits (purpose_for Admission t e) content × (IsSolid e.path ⊎ AllFinishedOrApart nodes e place done)
MayPutFor nodes Placing v t e turn place done content = (turn.first ≡ true) × (is_some turn.row.parent ≡ true)
MayPutFor nodes Removal v t e turn place done content = ⊥

-- The seat is at its place on this errand, which knows its effect, and may place the record there.
pub record MayPut (nodes : List (List Elem)) (lim : Bounds) (earlier : TreeView) (rest : List (ℕ × TreeSlot)) (errand : Errand)
    (e : Effect) (done : List ℕ) (content : List Record) (me : TreeSeat) : Type 0 where
  pub has : HasNode lim earlier rest (walking errand e (errand.place ∷ []) done) errand.place content me
  pub knows : KnowsErrand nodes earlier errand e
  pub may : MayPutFor nodes errand.kind me.0 errand.task e knows.turn errand.place done content
  pub none : content_in earlier.kept errand.place ≡ None
  pub own : HasOwn earlier errand.place content

-- the turn of the errand's task is first, and the task was spawned, if the errand is to place a child's record
abbrev pub IsOfChild : ErrandKind → HeldTurn → Type 0
IsOfChild Admission turn = Unit {0}
IsOfChild Placing turn = (turn.first ≡ true) × (is_some turn.row.parent ≡ true)
IsOfChild Removal turn = ⊥

-- the turn of the errand's task was taken, and the task is not enabled
abbrev pub MayTakeOutOf : HeldTurn → Type 0
MayTakeOutOf turn = (turn.first ≡ false) × (turn.row.status ≢ status.Enabled)

-- how a try to place the record of an errand ended: a record that stood already had been placed by the seat before
abbrev pub HasTried : Program → Bounds → TreeView → List (ℕ × TreeSlot) → Errand → Effect → Attempt → TreeSeat → Type 0
HasTried p lim earlier rest errand e Placed me = HasLeft (with_placed (record_of errand e) earlier) rest None me
HasTried p lim earlier rest errand e Stood me = HasLeft earlier rest None me × IsAmong (record_of errand e) earlier.fresh
HasTried p lim earlier rest errand e (Barred bar) me =
    HasLeft earlier rest None me × (errand.kind ≡ Admission) × WasBarred p lim earlier me.0 errand.task e bar

-- how taking out the record of an errand ended: whether it was there; if it was not, the seat had not placed it
abbrev pub HasTakenOut : TreeView → List (ℕ × TreeSlot) → Errand → Effect → Bool → TreeSeat → Type 0
HasTakenOut earlier rest errand e true me = HasLeft (with_removed (record_of errand e) earlier) rest None me
HasTakenOut earlier rest errand e false me =
    HasLeft (with_clear (record_of errand e) earlier) rest None me × (¬ IsAmong (record_of errand e) earlier.fresh)

-- The seat has come to its place, and does nothing else in the tree. It knows its errand.
pub record MayLookAround (nodes : List (List Elem)) (lim : Bounds) (earlier : TreeView) (rest : List (ℕ × TreeSlot))
    (errand : Errand) (e : Effect) (content : List Record) (me : TreeSeat) : Type 0 where
  pub has : HasNode lim earlier rest (errand_at errand e errand.place) errand.place content me
  pub knows : KnowsErrand nodes earlier errand e
  pub child : IsOfChild errand.kind knows.turn
  pub outside : IsOutside earlier
  pub own : HasOwn earlier errand.place content
