-- Loading the lock word of a node keeps the rule of the table: the seat may have passed by the node.
use Rattle.std.proofs.Common.{◌≡◌, ◌≢◌, ◌<◌, ℕ, List, ◌∷◌, length, Option, None, Some, refl, sym, ap, subst, ◌∙◌, inl, inr, ⊎_elim, arith}
use Rattle.std.specs.Prelude.{slice_index, slice_set}
use Rattle.std.proofs.lemmas.Bool.{cases_eq}
use mathlib.Core.Option as core
use lib.ListN.{get_elem?}
use Rattle.atomic_table.specs.Table.{Act, Allows, Valid, carried_after, keeps, step, stepped}
use Rattle.region_paths.specs.declared.elements.Elem.{Elem}
use Rattle.twe_base.specs.Limits.{Bounds}
use Rattle.twe_program.specs.Program.{Program}
use Rattle.floor_laws.specs.rule.Floors.{Floor}
use Rattle.floor_laws.proofs.rule.Puts.{some_one}
use Rattle.floor_laws.proofs.table.Elements.{set_same, word_at}
use Rattle.floor_laws.specs.admission.admission_core.States.{Activity, Descends, Leaves, Stage, Steps, Walks}
use Rattle.floor_laws.specs.rule.nodes.LockSteps.{after_turning}
use Rattle.floor_laws.specs.rule.nodes.Rule.{IsOneEvent}
use Rattle.floor_laws.specs.rule.nodes.Trees.{Tree}
use Rattle.floor_laws.proofs.rule.nodes.LockEvents.{passing_by}
use Rattle.floor_laws.specs.declared.table.nodes.slot.TreeSlot.{TreeSlot}
use Rattle.floor_laws.specs.declared.table.nodes.view.TreeView.{TreeView}
use Rattle.floor_laws.specs.table.nodes.Holds.{TreeKeeps}
use Rattle.floor_laws.specs.table.nodes.Layout.{bare_lock, lock_place, tree_slot_count}
use Rattle.floor_laws.specs.table.nodes.Plays.{PassesNode}
use Rattle.floor_laws.specs.table.nodes.Seats.{MayPass, PassedNode, passed_view}
use Rattle.floor_laws.specs.table.nodes.TreeOf.{TreeTable, activity_at, clear_at, floor_part, floor_shown, floor_view, fresh_at, kept_at, placed_at, removed_at, tree_of, waits_at}
use Rattle.floor_laws.proofs.table.nodes.Calls.{told}
use Rattle.floor_laws.proofs.table.nodes.Elements.{elements_kept, elements_put, map_set}
use Rattle.floor_laws.proofs.table.nodes.Locks.{lock_within, nothing_changes}
use Rattle.floor_laws.proofs.table.nodes.Seen.{activity_id}
use Rattle.floor_laws.proofs.table.nodes.Ties.{keeps_after, tree_is}

module _ (nodes : List (List Elem)) (p : Program) (lim : Bounds) (s : TreeTable) (kept : TreeKeeps nodes p lim s) (id : ℕ) (v : TreeView) (at : get_elem? s.views id ≡ core.some v)
    (c : ℕ) (next : Activity) (may : MayPass nodes v c next) where
  abbrev f : Floor
  f = floor_shown p lim s

  abbrev tree : Tree
  tree = tree_of p lim s

  abbrev found : ℕ
  found = slice_index s.words (lock_place p lim c)

  below : c < length nodes
  below = may.may.child.1

  found_there : get_elem? s.words (lock_place p lim c) ≡ core.some found
  found_there = word_at s.words (lock_place p lim c) (lock_within nodes p lim s kept id v at c below)

  -- the table after the seat has passed by
  abbrev w : TreeView
  w = passed_view v next

  abbrev with_view : TreeTable
  with_view = record { words = s.words; homes = s.homes; views = slice_set s.views id w }

  loaded : (mine : List (ℕ × TreeSlot)) → stepped s (lock_place p lim c) found id mine w keeps ≡ with_view
  loaded mine = let words = set_same s.words (lock_place p lim c) found found_there in λ k. record { words = words k; homes = s.homes; views = slice_set s.views id w }

  passes_by : found ≡ bare_lock → IsOneEvent nodes p lim kept.floor.log f kept.core (after_turning tree id (Some next))
  passes_by is =
      subst (λ (a : Activity). IsOneEvent nodes p lim kept.floor.log f kept.core (after_turning tree id (Some a))) (sym may.goes)
      (passing_by nodes p lim kept.floor.log f tree kept.core kept.both id may.activity may.node c may.stack may.done
      (record { active = activity_id nodes p lim s id v at ∙ may.may.active; stage = may.may.stage; child = may.may.child; lowest = may.may.lowest })
      (kept.bare c (found_there ∙ ap core.some is)))

  passed_tie : tree_of p lim with_view ≡ after_turning tree id (Some next)
  passed_tie =
      tree_is _ (after_turning tree id (Some next)) refl refl (elements_put activity_at s.views id v w at (Some next) refl) (elements_kept kept_at s.views id v w at refl)
      (elements_kept placed_at s.views id v w at refl)
      (elements_kept removed_at s.views id v w at refl)
      (elements_kept fresh_at s.views id v w at refl)
      (elements_kept clear_at s.views id v w at refl)
      (elements_kept waits_at s.views id v w at refl)

  passed_keeps : IsOneEvent nodes p lim kept.floor.log f kept.core (after_turning tree id (Some next)) → TreeKeeps nodes p lim with_view
  passed_keeps (core_after, event, nodes_keep) =
      let views = map_set floor_view s.views id v w at refl in
      let floor : floor_part p lim with_view ≡ floor_part p lim s = λ k. record { words = (floor_part p lim s).words; homes = (floor_part p lim s).homes; views = views k } in
      keeps_after nodes p lim s kept with_view (after_turning tree id (Some next)) core_after refl refl floor passed_tie nodes_keep kept.bare kept.deciders

  pub pass_step : (mine : List (ℕ × TreeSlot))
      → (u : TreeView) × (a : Act TreeSlot) × Valid s.homes mine a × TreeKeeps nodes p lim (stepped s (lock_place p lim c) found id mine u a) × PassedNode (v, mine) next found (u, carried_after mine a)
  pass_step mine =
      ⊎_elim
      (λ (is : found ≡ bare_lock). (w, keeps, tt, subst (TreeKeeps nodes p lim) (sym (loaded mine)) (passed_keeps (passes_by is)), inl (is, refl)))
      (λ (other : found ≢ bare_lock). (v, keeps, tt, subst (TreeKeeps nodes p lim) (sym (nothing_changes nodes p lim s kept id v at c below)) kept, inr (other, refl)))
      (cases_eq found bare_lock)

-- what the seat does next is determined by what it does, and by the node
abbrev next_past : Activity → Stage → ℕ → Option Activity
next_past a (Descends n) c = None
next_past a (Steps n m) c = None
next_past a (Walks stack done) c = Some (record a { stage = Walks stack (c ∷ done) })
next_past a (Leaves nodes) c = None

abbrev next_passed : Option Activity → ℕ → Option Activity
next_passed None c = None
next_passed (Some a) c = next_past a a.stage c

pass_next : (nodes : List (List Elem)) (v : TreeView) (c : ℕ) (next : Activity) → MayPass nodes v c next → next_passed v.activity c ≡ Some next
pass_next nodes v c next may =
    ap (λ (o : Option Activity). next_passed o c) may.may.active ∙ (ap (λ (stage : Stage). next_past may.activity stage c) may.may.stage ∙ ap Some (sym may.goes))

pub pass_by : (nodes : List (List Elem)) (p : Program) (lim : Bounds) (id c : ℕ) (v : TreeView) (mine : List (ℕ × TreeSlot)) (next : Activity) → MayPass nodes v c next
    → Allows (TreeKeeps nodes p lim) (tree_slot_count nodes lim) id (v, mine) (lock_place p lim c) (λ x. x)
    (PassesNode nodes p lim (step (tree_slot_count nodes lim) (lock_place p lim c) 0 0 core.none) (v, mine))
pass_by nodes p lim id c v mine next may =
    told (TreeKeeps nodes p lim) (tree_slot_count nodes lim) id (v, mine) (lock_place p lim c) (λ x. x) (PassedNode (v, mine) next)
    (PassesNode nodes p lim (step (tree_slot_count nodes lim) (lock_place p lim c) 0 0 core.none) (v, mine))
    (λ found after passed d other place may_too.
    let same : c ≡ d = omega (arith, place) in
    let may_c : MayPass nodes v c other = subst (λ (k : ℕ). MayPass nodes v k other) (sym same) may_too in
    let one : next ≡ other = some_one (sym (pass_next nodes v c next may) ∙ pass_next nodes v c other may_c) in
    subst (λ (a : Activity). PassedNode (v, mine) a found after) one passed)
    (λ s kept count at small. pass_step nodes p lim s kept id v at c next may mine)
