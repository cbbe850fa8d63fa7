-- Locking a node and unlocking it keep the rule of the table.
use Rattle.std.proofs.Common.{◌≡◌, ◌≢◌, ◌+◌, ◌<◌, ℕ, List, [], length, map, Option, None, Some, refl, sym, ap, subst, ◌∙◌, inl, inr, arith, length-set}
use Rattle.std.specs.Prelude.{◌==◌, slice_index, slice_set}
use mathlib.Core.Option as core
use lib.ListN.{get_elem?}
use prog.Atomic.{either}
use Rattle.atomic_table.specs.Table.{Act, Allows, Valid, carried_after, keeps, stepped, takes}
use Rattle.atomic_table.proofs.Lists.{exchanged}
use Rattle.region_paths.specs.declared.elements.Elem.{Elem}
use Rattle.twe_base.specs.Limits.{Bounds}
use Rattle.twe_program.specs.Program.{Program}
use Rattle.wait_graph.specs.declared.tasks.Link.{Link}
use Rattle.machine_state.specs.Runs.{state_after}
use Rattle.seg_journal.specs.Merging.{journal_of}
use Rattle.floor_laws.specs.rule.Floors.{Floor, put}
use Rattle.floor_laws.proofs.rule.Puts.{none_some, some_one}
use Rattle.floor_laws.specs.table.Layout.{word_count}
use Rattle.floor_laws.proofs.table.Elements.{at_else, set_same, word_at}
use Rattle.floor_laws.specs.admission.admission_core.States.{Activity, IsAmong, Record, State}
use Rattle.floor_laws.specs.rule.nodes.LockSteps.{LocksNode, after_locking}
use Rattle.floor_laws.specs.rule.nodes.Rule.{KeepsNodes}
use Rattle.floor_laws.specs.rule.nodes.Trees.{Locked, Tree, Unlocked}
use Rattle.floor_laws.proofs.rule.nodes.LockEvents.{entering, going_down, walking_down}
use Rattle.floor_laws.proofs.rule.nodes.OwnRecords.{fresh_there, own_fresh}
use Rattle.floor_laws.specs.declared.table.nodes.slot.TreeSlot.{TreeSlot}
use Rattle.floor_laws.specs.declared.table.nodes.slot.TreeSlot.TheVariants as kinds
use Rattle.floor_laws.specs.declared.table.nodes.view.TreeView.{TreeView}
use Rattle.floor_laws.specs.table.nodes.Holds.{TreeKeeps}
use Rattle.floor_laws.specs.table.nodes.Layout.{bare_lock, content_place, decider_place, lock_at, lock_of_word, lock_place, taken_lock}
use Rattle.floor_laws.specs.table.nodes.Seats.{HasOwn, MayLock, TriedNode, enters, goes_down, locked_view, walks_down}
use Rattle.floor_laws.specs.table.nodes.TreeOf.{TreeTable, activity_at, clear_at, content_at, floor_part, floor_shown, floor_view, fresh_at, kept_at, placed_at, removed_at, task_home, tree_of, waits_at}
use Rattle.floor_laws.proofs.table.nodes.Elements.{at_some, elements_kept, elements_put, map_set, places_put, take_set}
use Rattle.floor_laws.proofs.table.nodes.Seen.{down_seen, enter_seen, fresh_id, held_id, kept_id, walk_seen, worker_id}
use Rattle.floor_laws.proofs.table.nodes.Deciders.{AllCome, all_come, comes_same, contents_come, deciders_stay, kept_come}
use Rattle.floor_laws.proofs.table.nodes.Ties.{bare_node, keeps_after, tree_is}

-- a slot that shows a content holds it
node_home : (home : core.Option TreeSlot) (records : List Record) → content_at (core.some home) ≡ Some records → home ≡ core.some (kinds.Node records)
node_home core.none records is = absurd (none_some is)
node_home (core.some (kinds.Task slot)) records is = absurd (none_some is)
node_home (core.some (kinds.Node others)) records is = ap (λ (r : List Record). core.some (kinds.Node r)) (some_one is)
node_home (core.some (kinds.Errand errand)) records is = absurd (none_some is)

module _ (nodes : List (List Elem)) (p : Program) (lim : Bounds) (s : TreeTable) (kept : TreeKeeps nodes p lim s) (id : ℕ) (v : TreeView) (at : get_elem? s.views id ≡ core.some v) where
  abbrev tree : Tree
  tree = tree_of p lim s

  abbrev f : Floor
  f = floor_shown p lim s

  abbrev links : List Link
  links = (state_after p lim (journal_of kept.floor.log)).links

  -- places within the table
  pub lock_within : (n : ℕ) → n < length nodes → lock_place p lim n < length s.words
  lock_within n below = let size = kept.words in omega (arith, size, below)

  pub content_within : (n : ℕ) → n < length nodes → content_place lim n < length s.homes
  content_within n below = let size = kept.slots in omega (arith, size, below)

  -- the table after a lock word, the slot of the node and the view of the seat were set
  abbrev pub with_node : ℕ → ℕ → core.Option TreeSlot → TreeView → TreeTable
  with_node n x y w = record { words = slice_set s.words (lock_place p lim n) x; homes = slice_set s.homes (content_place lim n) y; views = slice_set s.views id w }

  floor_stays : (n x : ℕ) (y : core.Option TreeSlot) (w : TreeView) → w.floor ≡ v.floor → floor_part p lim (with_node n x y w) ≡ floor_part p lim s
  floor_stays n x y w same =
      let words = take_set s.words (word_count p lim) (lock_place p lim n) x (omega arith) in
      let homes = take_set s.homes lim.tasks (content_place lim n) y (omega arith) in
      let views = map_set floor_view s.views id v w at same in
      λ k. record { words = words k; homes = map task_home (homes k); views = views k }

  pub keeps_with : (n x : ℕ) (y : core.Option TreeSlot) (w : TreeView) → w.floor ≡ v.floor → (after : Tree) (last : State) → tree_of p lim (with_node n x y w) ≡ after
      → KeepsNodes nodes p lim kept.floor.log f after last → n < length nodes → (x ≡ bare_lock → content_at (core.some y) ≡ Some []) → AllCome tree after → TreeKeeps nodes p lim (with_node n x y w)
  keeps_with n x y w same after last shows nodes_keep below empty come =
      keeps_after nodes p lim s kept (with_node n x y w) after last (length-set s.words (lock_place p lim n) x) (length-set s.homes (content_place lim n) y) (floor_stays n x y w same) shows nodes_keep
      (bare_node p lim s.words s.homes n x y (lock_within n below) (content_within n below) kept.bare empty)
      (deciders_stay p lim s.words (slice_set s.words (lock_place p lim n) x) tree after links links (λ t few. at_else s.words (lock_place p lim n) (decider_place p lim t) x (λ same. omega (arith, same, few))) come
      (λ a b waits. waits) kept.deciders)

  -- Locking.

  lock_below : (said : core.Option TreeSlot) (c : ℕ) (next : Activity) → MayLock nodes v said c next → c < length nodes
  lock_below said c next (enters root known may) = subst (λ (n : ℕ). n < length nodes) (sym root) kept.both.paths.some
  lock_below said c next (goes_down a n may goes) = may.child.1
  lock_below said c next (walks_down a t e n stack done may goes) = may.child.1

  locks_node : (said : core.Option TreeSlot) (c : ℕ) (next : Activity) → MayLock nodes v said c next → tree.locks c ≡ Unlocked
      → LocksNode nodes p lim kept.floor.log f tree kept.core id c next
  locks_node said c next (enters root known may) free =
      let at_root : tree.locks 0 ≡ Unlocked = subst (λ (n : ℕ). tree.locks n ≡ Unlocked) root free in
      subst (λ (n : ℕ). LocksNode nodes p lim kept.floor.log f tree kept.core id n next) (sym root)
      (entering nodes p lim kept.floor.log f tree kept.core kept.both id next (enter_seen nodes p lim s id v at next may) at_root)
  locks_node said c next (goes_down a n may goes) free =
      subst (LocksNode nodes p lim kept.floor.log f tree kept.core id c) (sym goes)
      (going_down nodes p lim kept.floor.log f tree kept.core kept.both id a n c (down_seen nodes p lim s id v at a n c may) free)
  locks_node said c next (walks_down a t e n stack done may goes) free =
      subst (LocksNode nodes p lim kept.floor.log f tree kept.core id c) (sym goes)
      (walking_down nodes p lim kept.floor.log f tree kept.core kept.both id a t e n c stack done (walk_seen nodes p lim s id v at a t e n c stack done may) free)

  module _ (n : ℕ) (below : n < length nodes) where
    lock_tie : (records : List Record) (next : Activity) → tree_of p lim (with_node n (taken_lock v.floor.worker) core.none (locked_view v n records next)) ≡ after_locking f tree id n records next
    lock_tie records next =
        let w = locked_view v n records next in
        tree_is _ (after_locking f tree id n records next)
        (places_put lock_at s.words (word_count p lim + lim.tasks) n (taken_lock v.floor.worker) (lock_within n below)
        ∙ ap (λ (worker : ℕ). put tree.locks n (Locked worker)) (sym (worker_id nodes p lim s id v at)))
        (places_put content_at s.homes lim.tasks n core.none (content_within n below))
        (elements_put activity_at s.views id v w at (Some next) refl)
        (elements_put kept_at s.views id v w at (put (tree.kept id) n (Some records)) (ap (λ (g : ℕ → Option (List Record)). put g n (Some records)) (sym (kept_id nodes p lim s id v at))))
        (elements_kept placed_at s.views id v w at refl)
        (elements_kept removed_at s.views id v w at refl)
        (elements_kept fresh_at s.views id v w at refl)
        (elements_kept clear_at s.views id v w at refl)
        (elements_kept waits_at s.views id v w at refl)

    home_there : (records : List Record) → tree.contents n ≡ Some records → get_elem? s.homes (content_place lim n) ≡ core.some (core.some (kinds.Node records))
    home_there records is =
        let home = at_some s.homes (content_place lim n) (content_within n below) in
        home.1 ∙ ap core.some (node_home home.0 records (sym (ap content_at home.1) ∙ is))

    -- what the node has of the seat's own records
    owns : (records : List Record) → tree.contents n ≡ Some records → HasOwn v n records
    owns records is = record {
      there = λ r among node.
          fresh_there nodes p lim kept.floor.log f tree kept.core kept.both id n records is r (subst (IsAmong r) (sym (fresh_id nodes p lim s id v at)) among) node;
      fresh = λ r turn among held to_place.
          subst (IsAmong r) (fresh_id nodes p lim s id v at)
          (own_fresh nodes p lim kept.floor.log f tree kept.core kept.both id n records is r turn among (held_id nodes p lim s id v at r.task ∙ held) to_place);
    }

    free_shown : (free : ℕ) → lock_of_word free ≡ Unlocked → slice_index s.words (lock_place p lim n) ≡ free → tree.locks n ≡ Unlocked
    free_shown free is found = ap lock_at (word_at s.words (lock_place p lim n) (lock_within n below)) ∙ (ap lock_of_word found ∙ is)

    -- the content went from the node to the seat
    lock_comes : (records : List Record) (next : Activity) → tree.contents n ≡ Some records → AllCome tree (after_locking f tree id n records next)
    lock_comes records next there =
        all_come tree (after_locking f tree id n records next) (contents_come tree n None (λ content is. absurd (none_some is)))
        (kept_come tree id n (Some records) (λ content is. comes_same tree n content (inl (there ∙ is))))

    lock_done : (mine : List (ℕ × TreeSlot)) (next : Activity) (free : ℕ) → slice_index s.words (lock_place p lim n) ≡ free → LocksNode nodes p lim kept.floor.log f tree kept.core id n next
        → (w : TreeView) × (a : Act TreeSlot) × Valid s.homes mine a × TreeKeeps nodes p lim (stepped s (lock_place p lim n) (taken_lock v.floor.worker) id mine w a)
        × TriedNode lim (v, mine) n next free (slice_index s.words (lock_place p lim n)) (w, carried_after mine a)
    lock_done mine next free found (records, there, (core_after, event, nodes_keep)) = (
      locked_view v n records next,
      takes (content_place lim n) (kinds.Node records),
      home_there records there,
      keeps_with n (taken_lock v.floor.worker) core.none (locked_view v n records next) refl (after_locking f tree id n records next) core_after (lock_tie records next) nodes_keep below (λ same. absurd (omega (arith, same)))
          (lock_comes records next there),
      inl (found, record { records = records; own = owns records there; seat = refl }),
    )

    -- a step that changes nothing
    pub nothing_changes : stepped s (lock_place p lim n) (slice_index s.words (lock_place p lim n)) id [] v keeps ≡ s
    nothing_changes =
        let words = set_same s.words (lock_place p lim n) (slice_index s.words (lock_place p lim n)) (word_at s.words (lock_place p lim n) (lock_within n below)) in
        let views = set_same s.views id v at in
        λ k. record { words = words k; homes = s.homes; views = views k }

    lock_missed : (mine : List (ℕ × TreeSlot)) (next : Activity) (free : ℕ) → slice_index s.words (lock_place p lim n) ≢ free
        → (w : TreeView) × (a : Act TreeSlot) × Valid s.homes mine a × TreeKeeps nodes p lim (stepped s (lock_place p lim n) (slice_index s.words (lock_place p lim n)) id mine w a)
        × TriedNode lim (v, mine) n next free (slice_index s.words (lock_place p lim n)) (w, carried_after mine a)
    lock_missed mine next free other = (v, keeps, tt, subst (TreeKeeps nodes p lim) (sym nothing_changes) kept, inr (other, refl))

pub lock_allowed : (nodes : List (List Elem)) (p : Program) (lim : Bounds) (slots id n : ℕ) (v : TreeView) (mine : List (ℕ × TreeSlot)) (said : core.Option TreeSlot) (next : Activity)
    (free : ℕ) → lock_of_word free ≡ Unlocked → MayLock nodes v said n next
    → Allows (TreeKeeps nodes p lim) slots id (v, mine) (lock_place p lim n) (λ x. either (x == free) (taken_lock v.floor.worker) x) (TriedNode lim (v, mine) n next free)
lock_allowed nodes p lim slots id n v mine said next free is_free may s kept count at small =
    let found = slice_index s.words (lock_place p lim n) in
    let below = lock_below nodes p lim s kept id v at said n next may in
    let F : ℕ → Type 0 = λ x. (w : TreeView) × (a : Act TreeSlot) × Valid s.homes mine a × TreeKeeps nodes p lim (stepped s (lock_place p lim n) x id mine w a)
    × TriedNode lim (v, mine) n next free found (w, carried_after mine a) in
    exchanged found free (taken_lock v.floor.worker) F
    (λ is. lock_done nodes p lim s kept id v at n below mine next free is (locks_node nodes p lim s kept id v at said n next may (free_shown nodes p lim s kept id v at n below free is_free is)))
    (lock_missed nodes p lim s kept id v at n below mine next free)
