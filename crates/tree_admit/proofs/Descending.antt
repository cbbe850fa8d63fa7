-- What a worker may do that holds a node on its way, above the place.
use Rattle.std.proofs.Common.{◌≢◌, ℕ, List, [], None, ap}
use Rattle.region_paths.specs.declared.elements.Elem.{Elem}
use Rattle.effect_sets.specs.declared.effects.Effect.{Effect}
use Rattle.prefix_tree.specs.Nodes.{IsParent, IsTreeOfPaths}
use Rattle.twe_base.specs.Limits.{Bounds}
use Rattle.floor_laws.specs.admission.admission_core.States.{Activity, IsAbove, Record, held}
use Rattle.floor_laws.proofs.admission.admission_core.TreeLemmas.{parent_other}
use Rattle.floor_laws.specs.declared.table.nodes.slot.Errand.{Errand}
use Rattle.floor_laws.specs.table.nodes.Seats.{GaveNode, MayStop, TreeSeat, purpose_for}
use Rattle.tree_admit.specs.Going.{HasLeft, HasNode, IsOutside}
use Rattle.tree_admit.specs.Errands.{AllPass, errand_at}
use Rattle.tree_admit.specs.Descents.{MayStepDown}
use Rattle.tree_admit.proofs.Entering.{come_above}
use Rattle.tree_admit.proofs.Steps.{gave_left, may_stop}

module _ (lim : Bounds) (start : TreeSeat) (outside : IsOutside start.0) (errand : Errand) (e : Effect) (n : ℕ) (content : List Record) (me : TreeSeat)
    (has : HasNode lim start.0 start.1 (errand_at errand e n) n content me) (other : n ≢ errand.place) where
  abbrev pub here : Activity
  here = errand_at errand e n

  pub descent_stops : MayStop me.0 n None
  descent_stops = may_stop lim start.0 start.1 here n content me has [] (ap held (come_above errand.place n other))

  pub descent_left : (final : TreeSeat) → GaveNode me n None start.1 final → HasLeft start.0 start.1 None final
  descent_left final gave = gave_left lim start.0 start.1 here n content me has None final (outside.none n) gave

  pub descent_goes : (nodes : List (List Elem)) → IsTreeOfPaths nodes → (c : ℕ) → IsParent nodes n c → IsAbove nodes c errand.place
      → AllPass me.0.waits (purpose_for errand.kind errand.task e) content → MayStepDown nodes lim start.0 start.1 here n content c me
  descent_goes nodes tree c child way pass = record {
    has = has;
    stage = come_above errand.place n other;
    child = child;
    way = way;
    pass = pass;
    none = outside.none n;
    differs = parent_other nodes tree n c child;
  }
