-- Loading a decider word: whoever has the content of the node at which the task decides knows who waits for that task.
use Rattle.std.proofs.Common.{◌≡◌, ◌⊎◌, ◌++◌, ◌<◌, ℕ, zero, suc, List, [], ◌∷◌, Option, None, Some, refl, sym, ap, subst, ◌∙◌, inl, inr, ⊎_elim, arith}
use Rattle.std.specs.Prelude.{slice_index, slice_set}
use mathlib.Core.Option as core
use lib.ListN.{get_elem?}
use Rattle.atomic_table.specs.Table.{Act, Allows, Valid, carried_after, keeps, step, stepped}
use Rattle.region_paths.specs.declared.elements.Elem.{Elem}
use Rattle.twe_base.specs.Limits.{Bounds}
use Rattle.twe_program.specs.Program.{Program}
use Rattle.wait_graph.specs.Waiting.{WaitsOnUnlessDone}
use Rattle.machine_state.specs.Runs.{state_after}
use Rattle.seg_journal.specs.Merging.{journal_of}
use Rattle.floor_laws.specs.admission.admission_core.States.{IsAmong, Record}
use Rattle.floor_laws.specs.rule.Floors.{Floor, put}
use Rattle.floor_laws.specs.rule.nodes.Rule.{KeepsNodes}
use Rattle.floor_laws.specs.rule.nodes.Trees.{Tree, WaitFact}
use Rattle.floor_laws.proofs.rule.Puts.{put_all}
use Rattle.floor_laws.proofs.table.Elements.{set_same, word_at}
use Rattle.floor_laws.specs.declared.table.nodes.slot.TreeSlot.{TreeSlot}
use Rattle.floor_laws.specs.declared.table.nodes.view.TreeView.{TreeView}
use Rattle.floor_laws.specs.table.nodes.Deciders.{LooksUpDecider, decided_view, learned_of, led_there}
use Rattle.floor_laws.specs.table.nodes.Holds.{TreeKeeps}
use Rattle.floor_laws.specs.table.nodes.Layout.{decider_at, decider_place, tree_slot_count}
use Rattle.floor_laws.specs.table.nodes.Seats.{TreeSeat}
use Rattle.floor_laws.specs.table.nodes.TreeOf.{TreeTable, activity_at, clear_at, content_in, floor_part, floor_shown, floor_view, fresh_at, kept_at, placed_at, removed_at, tree_of, waits_at}
use Rattle.floor_laws.proofs.table.nodes.Calls.{told}
use Rattle.floor_laws.proofs.table.nodes.Elements.{elements_kept, elements_put, map_set}
use Rattle.floor_laws.proofs.table.nodes.Seen.{kept_node, waits_id}
use Rattle.floor_laws.proofs.table.nodes.Ties.{keeps_after, tree_is}

-- what is in two lists together is in one of them
in_either : (fact : WaitFact) (xs ys : List WaitFact) → IsAmong fact (xs ++ ys) → IsAmong fact xs ⊎ IsAmong fact ys
in_either fact [] ys among = inr among
in_either fact (x ∷ xs) ys (inl first) = inl (inl first)
in_either fact (x ∷ xs) ys (inr later) = ⊎_elim (λ one. inl (inr one)) (λ two. inr two) (in_either fact xs ys later)

module _ (nodes : List (List Elem)) (p : Program) (lim : Bounds) (s : TreeTable) (kept : TreeKeeps nodes p lim s) (id : ℕ) (v : TreeView) (at : get_elem? s.views id ≡ core.some v) (w : ℕ) (few : w < lim.tasks) where
  abbrev f : Floor
  f = floor_shown p lim s

  abbrev tree : Tree
  tree = tree_of p lim s

  abbrev found : ℕ
  found = slice_index s.words (decider_place p lim w)

  found_there : get_elem? s.words (decider_place p lim w) ≡ core.some found
  found_there = let size = kept.words in word_at s.words (decider_place p lim w) (omega (arith, size, few))

  -- the table after the seat has another view
  abbrev with_view : TreeView → TreeTable
  with_view u = record { words = s.words; homes = s.homes; views = slice_set s.views id u }

  loaded : (mine : List (ℕ × TreeSlot)) (u : TreeView) → stepped s (decider_place p lim w) found id mine u keeps ≡ with_view u
  loaded mine u = let words = set_same s.words (decider_place p lim w) found found_there in λ k. record { words = words k; homes = s.homes; views = slice_set s.views id u }

  -- nothing is learned
  stays : with_view v ≡ s
  stays = let views = set_same s.views id v at in λ k. record { words = s.words; homes = s.homes; views = views k }

  abbrev IsTrueWait : WaitFact → Type 0
  IsTrueWait fact = WaitsOnUnlessDone (state_after p lim (journal_of kept.floor.log)).links fact.waiter fact.awaited

  -- The task decides at a node.
  module _ (n : ℕ) (is : found ≡ decider_at n) where
    abbrev learned : List WaitFact
    learned = led_there w (content_in v.kept n) ++ v.waits

    there_true : (content : Option (List Record)) → content_in v.kept n ≡ content → (fact : WaitFact) → IsAmong fact (led_there w content) → IsTrueWait fact
    there_true None has fact among = absurd among
    there_true (Some records) has fact among =
        kept.deciders w n records fact few (found_there ∙ ap core.some is) (inr (id, kept_node nodes p lim s id v at n ∙ has)) among

    all_true : (fact : WaitFact) → IsAmong fact learned → IsTrueWait fact
    all_true fact among =
        ⊎_elim (λ (new : IsAmong fact (led_there w (content_in v.kept n))). there_true (content_in v.kept n) refl fact new)
        (λ (old : IsAmong fact v.waits). kept.both.nodes_keep.known.waits_hold id fact (subst (IsAmong fact) (sym (waits_id nodes p lim s id v at)) old))
        (in_either fact (led_there w (content_in v.kept n)) v.waits among)

    abbrev after : Tree
    after = record tree { waits = put tree.waits id learned }

    nodes_keep : KeepsNodes nodes p lim kept.floor.log f after kept.core
    nodes_keep =
        let keep = kept.both.nodes_keep in
        record {
          reached = keep.reached;
          tasks = keep.tasks;
          activities = keep.activities;
          locks = keep.locks;
          contents = keep.contents;
          records = keep.records;
          known = record {
            owned = keep.known.owned;
            first_fresh = keep.known.first_fresh;
            fresh_stand = keep.known.fresh_stand;
            clear_are = keep.known.clear_are;
            waits_hold = put_all (λ (j : ℕ) (waits : List WaitFact). (fact : WaitFact) → IsAmong fact waits → IsTrueWait fact) tree.waits id learned all_true (λ j other. keep.known.waits_hold j);
          };
        }

    tie : tree_of p lim (with_view (decided_view v w n)) ≡ after
    tie =
        let u = decided_view v w n in
        tree_is _ after refl refl (elements_kept activity_at s.views id v u at refl) (elements_kept kept_at s.views id v u at refl) (elements_kept placed_at s.views id v u at refl)
        (elements_kept removed_at s.views id v u at refl)
        (elements_kept fresh_at s.views id v u at refl)
        (elements_kept clear_at s.views id v u at refl)
        (elements_put waits_at s.views id v u at learned refl)

    decided_keeps : TreeKeeps nodes p lim (with_view (decided_view v w n))
    decided_keeps =
        let views = map_set floor_view s.views id v (decided_view v w n) at refl in
        let floor : floor_part p lim (with_view (decided_view v w n)) ≡ floor_part p lim s = λ k. record { words = (floor_part p lim s).words; homes = (floor_part p lim s).homes; views = views k } in
        keeps_after nodes p lim s kept (with_view (decided_view v w n)) after kept.core refl refl floor tie nodes_keep kept.bare kept.deciders

  learns : (k : ℕ) → found ≡ k → TreeKeeps nodes p lim (with_view (learned_of v w k))
  learns zero is = subst (TreeKeeps nodes p lim) (sym stays) kept
  learns (suc n) is = decided_keeps n is

  pub look_step : (mine : List (ℕ × TreeSlot))
      → (u : TreeView) × (a : Act TreeSlot) × Valid s.homes mine a × TreeKeeps nodes p lim (stepped s (decider_place p lim w) found id mine u a)
      × ◌≡◌ {A = TreeSeat} (u, carried_after mine a) (learned_of v w found, mine)
  look_step mine = (learned_of v w found, keeps, tt, subst (TreeKeeps nodes p lim) (sym (loaded mine (learned_of v w found))) (learns found refl), refl)

pub look_up : (nodes : List (List Elem)) (p : Program) (lim : Bounds) (id w : ℕ) (v : TreeView) (mine : List (ℕ × TreeSlot)) → w < lim.tasks
    → Allows (TreeKeeps nodes p lim) (tree_slot_count nodes lim) id (v, mine) (decider_place p lim w) (λ n. n)
    (LooksUpDecider p lim (step (tree_slot_count nodes lim) (decider_place p lim w) 0 0 core.none) (v, mine))
look_up nodes p lim id w v mine few =
    told (TreeKeeps nodes p lim) (tree_slot_count nodes lim) id (v, mine) (decider_place p lim w) (λ n. n) (λ n after. after ≡ (learned_of v w n, mine))
    (LooksUpDecider p lim (step (tree_slot_count nodes lim) (decider_place p lim w) 0 0 core.none) (v, mine))
    (λ n after is u below place. let same : w ≡ u = omega (arith, place) in is ∙ ap (λ (k : ℕ). (learned_of v k n, mine)) same)
    (λ s kept count at small. look_step nodes p lim s kept id v at w few mine)
