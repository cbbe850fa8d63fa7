-- Unlocking a node keeps the rule of the table.
use Rattle.std.proofs.Common.{◌≡◌, ◌≢◌, ◌+◌, ◌<◌, ◌≤◌, ℕ, List, [], ◌∷◌, length, Option, None, Some, refl, sym, ap, subst, ◌∙◌, inr, ⊎_elim, arith}
use Rattle.std.proofs.lemmas.Bool.{cases_eq}
use mathlib.Core.Option as core
use lib.ListN.{get_elem?}
use Rattle.atomic_table.specs.Table.{Act, Allows, Valid, carried_after, gives, stepped}
use Rattle.region_paths.specs.declared.elements.Elem.{Elem}
use Rattle.twe_base.specs.Limits.{Bounds}
use Rattle.twe_program.specs.Program.{Program}
use Rattle.seg_journal.specs.declared.numbered.NumberedEntry.{NumberedEntry}
use Rattle.floor_laws.specs.rule.Floors.{Floor, put}
use Rattle.floor_laws.proofs.rule.Puts.{none_some, put_else, put_here, some_one}
use Rattle.floor_laws.specs.table.Layout.{word_count}
use Rattle.floor_laws.specs.admission.admission_core.States.{Activity, HoldsNode, Leaves, Record, State, held}
use Rattle.floor_laws.specs.rule.nodes.LockSteps.{UnlocksNode, after_turning, after_unlocking, stopped}
use Rattle.floor_laws.specs.rule.nodes.Rule.{IsOneEvent, KeepsBoth, KeepsNodes}
use Rattle.floor_laws.specs.rule.nodes.Fitting.{IsUnlocked, KeptFits, LockFits}
use Rattle.floor_laws.specs.rule.nodes.Trees.{LockWord, Tree, Unlocked, put_kept}
use Rattle.floor_laws.proofs.rule.nodes.LockEvents.{ending, giving_back, giving_parent, stopping, walking_up}
use Rattle.floor_laws.specs.declared.table.nodes.slot.TreeSlot.{TreeSlot}
use Rattle.floor_laws.specs.declared.table.nodes.slot.TreeSlot.TheVariants as kinds
use Rattle.floor_laws.specs.declared.table.nodes.view.TreeView.{TreeView}
use Rattle.floor_laws.specs.table.nodes.Holds.{TreeKeeps}
use Rattle.floor_laws.specs.table.nodes.Layout.{bare_lock, content_place, left_lock, lock_at, lock_of_word, lock_place}
use Rattle.floor_laws.specs.table.nodes.Seats.{GaveNode, HasContent, MayGoOn, MayStop, gives_parent, left_to_give, unlocked_view, walks_up}
use Rattle.floor_laws.specs.table.nodes.TreeOf.{TreeTable, activity_at, clear_at, content_at, content_in, floor_shown, fresh_at, kept_at, placed_at, removed_at, tree_of, waits_at}
use Rattle.floor_laws.proofs.table.nodes.Elements.{below_or, beyond, elements_kept, elements_put, places_put}
use Rattle.floor_laws.proofs.table.nodes.Locks.{content_within, keeps_with, lock_within, with_node}
use Rattle.floor_laws.proofs.table.nodes.Seen.{activity_id, kept_id, kept_node, parent_seen, up_seen}
use Rattle.floor_laws.proofs.table.nodes.Deciders.{AllCome, all_come, comes_same, contents_come, kept_come}
use Rattle.floor_laws.proofs.table.nodes.Ties.{tree_is}

-- setting a value twice
put_again : {X : Type 0} (g : ℕ → X) (k : ℕ) (x y : X) (j : ℕ) → put (put g k x) k y j ≡ put g k y j
put_again {X} g k x y j =
    ⊎_elim
    (λ (same : j ≡ k). ap (put (put g k x) k y) same ∙ (put_here (put g k x) k y ∙ (sym (put_here g k y) ∙ ap (put g k y) (sym same))))
    (λ (other : j ≢ k). put_else (put g k x) k j y other ∙ (put_else g k j x other ∙ sym (put_else g k j y other)))
    (cases_eq j k)

-- seat i has unlocked node n, at which these records lie, and does this from now on, or nothing
abbrev after_giving : Tree → ℕ → ℕ → List Record → Option Activity → Tree
after_giving tree i n records next = record tree {
  locks = put tree.locks n Unlocked;
  contents = put tree.contents n (Some records);
  activities = put tree.activities i next;
  kept = put_kept tree.kept i n None;
}

-- the same tree, if only the activities were set more than once
same_giving : (tree : Tree) (i n : ℕ) (records : List Record) (next : Option Activity) (activities : ℕ → Option Activity)
    → ((j : ℕ) → activities j ≡ put tree.activities i next j) → record (after_giving tree i n records next) { activities = activities } ≡ after_giving tree i n records next
same_giving tree i n records next activities same = λ k. record (after_giving tree i n records next) { activities = λ j. same j k }

module _ (nodes : List (List Elem)) (p : Program) (lim : Bounds) (s : TreeTable) (kept : TreeKeeps nodes p lim s) (id : ℕ) (v : TreeView) (at : get_elem? s.views id ≡ core.some v) where
  abbrev tree : Tree
  tree = tree_of p lim s

  abbrev f : Floor
  f = floor_shown p lim s

  abbrev log : List NumberedEntry
  log = kept.floor.log

  module _ (n : ℕ) (content : List Record) (has : content_in v.kept n ≡ Some content) where
    -- a seat holds a node that it has a content of
    pub holds_kept : HoldsNode tree.activities id n
    holds_kept =
        let fits = subst (KeptFits kept.core.records tree.activities id n) (kept_node nodes p lim s id v at n ∙ has) (kept.both.nodes_keep.contents.out id n) in
        fits.0

    unlocked : length nodes ≤ n → IsUnlocked tree.activities n
    unlocked past =
        let size = kept.words in
        let free : tree.locks n ≡ Unlocked = ap lock_at (beyond s.words (lock_place p lim n) (omega (arith, size, past))) in
        subst (LockFits f.workers tree.activities n) free (kept.both.nodes_keep.locks.words n)

    -- and it is one
    pub held_below : n < length nodes
    held_below = ⊎_elim (λ (below : n < length nodes). below) (λ (past : length nodes ≤ n). absurd (unlocked past id holds_kept)) (below_or n (length nodes))

  -- the events

  both_of : (after : Tree) (core_after : State) → KeepsNodes nodes p lim log f after core_after → KeepsBoth nodes p lim log f after core_after
  both_of after core_after nodes_keep =
      record { well = kept.both.well; effects = kept.both.effects; paths = kept.both.paths; floor = kept.both.floor; nodes_keep = nodes_keep }

  goes_on : (n : ℕ) (next : Activity) → MayGoOn nodes v n next → UnlocksNode nodes p lim log f tree kept.core id n next
  goes_on n next (gives_parent a c stage may goes) =
      subst (UnlocksNode nodes p lim log f tree kept.core id n) (sym goes)
      (giving_parent nodes p lim log f tree kept.core kept.both id a n c stage (parent_seen nodes p lim s id v at a n c stage may))
  goes_on n next (walks_up a m stack done may goes) =
      subst (UnlocksNode nodes p lim log f tree kept.core id n) (sym goes)
      (walking_up nodes p lim log f tree kept.core kept.both id a n m stack done (up_seen nodes p lim s id v at a n m stack done may))

  -- the nodes after the seat gave node n, with this content
  abbrev GivesSo : ℕ → List Record → Option Activity → Type 0
  GivesSo n content next = (core_after : State) × KeepsNodes nodes p lim log f (after_giving tree id n content next) core_after

  gives_on : (n : ℕ) (content : List Record) (next : Activity) → tree.kept id n ≡ Some content → UnlocksNode nodes p lim log f tree kept.core id n next → GivesSo n content (Some next)
  gives_on n content next is (records, there, (core_after, event, nodes_keep)) =
      subst (λ (l : List Record). GivesSo n l (Some next)) (some_one (sym there ∙ is)) (core_after, nodes_keep)

  -- a seat that stops has stopped first, and has ended afterwards if it has nothing left
  module _ (n : ℕ) (content : List Record) (is : tree.kept id n ≡ Some content) (a : Activity) (active : tree.activities id ≡ Some a) where
    abbrev tree_stopped : Tree
    tree_stopped = after_turning tree id (Some (stopped a))

    abbrev leaves : List ℕ → Activity
    leaves others = record a { stage = Leaves others }

    abbrev tree_given : List ℕ → Tree
    tree_given others = after_unlocking tree_stopped id n content (leaves others)

    given : (others : List ℕ) → held a.stage ≡ n ∷ others → IsOneEvent nodes p lim log f kept.core tree_stopped → (core_after : State) × KeepsNodes nodes p lim log f (tree_given others) core_after
    given others holds (core_stopped, event, nodes_keep) =
        by (giving_back nodes p lim log f tree_stopped core_stopped (both_of tree_stopped core_stopped nodes_keep) id (stopped a) n others
        (record { active = put_here tree.activities id (Some (stopped a)); stage = ap Leaves holds }))
      where
        by : UnlocksNode nodes p lim log f tree_stopped core_stopped id n (leaves others) → (core_after : State) × KeepsNodes nodes p lim log f (tree_given others) core_after
        by (records, there, (core_after, event_after, nodes_after)) =
            subst (λ (l : List Record). (c : State) × KeepsNodes nodes p lim log f (after_unlocking tree_stopped id n l (leaves others)) c) (some_one (sym there ∙ is)) (core_after, nodes_after)

    ended : (others : List ℕ) → (core_after : State) × KeepsNodes nodes p lim log f (tree_given others) core_after → GivesSo n content (left_to_give a others)
    ended [] (core_after, nodes_keep) =
        by (ending nodes p lim log f (tree_given []) core_after (both_of (tree_given []) core_after nodes_keep) id (leaves []) (put_here tree_stopped.activities id (Some (leaves []))) refl)
      where
        again : (j : ℕ) → put (put (put tree.activities id (Some (stopped a))) id (Some (leaves []))) id None j ≡ put tree.activities id None j
        again j = put_again (put tree.activities id (Some (stopped a))) id (Some (leaves [])) None j ∙ put_again tree.activities id (Some (stopped a)) None j

        by : IsOneEvent nodes p lim log f core_after (after_turning (tree_given []) id None) → GivesSo n content None
        by (core_end, event, nodes_end) = (
          core_end,
          subst (λ (t : Tree). KeepsNodes nodes p lim log f t core_end)
              (same_giving tree id n content None (put (put (put tree.activities id (Some (stopped a))) id (Some (leaves []))) id None) again) nodes_end,
        )
    ended (m ∷ others) (core_after, nodes_keep) =
        let next = leaves (m ∷ others) in (
          core_after,
          subst (λ (t : Tree). KeepsNodes nodes p lim log f t core_after)
              (same_giving tree id n content (Some next) (put (put tree.activities id (Some (stopped a))) id (Some next)) (put_again tree.activities id (Some (stopped a)) (Some next))) nodes_keep,
        )

  gives_last : (n : ℕ) (content : List Record) (next : Option Activity) → tree.kept id n ≡ Some content → MayStop v n next → GivesSo n content next
  gives_last n content next is may =
      let a = may.activity in
      let active : tree.activities id ≡ Some a = activity_id nodes p lim s id v at ∙ may.active in
      subst (GivesSo n content) (sym may.goes)
      (ended n content is a active may.others (given n content is a active may.others may.holds (stopping nodes p lim log f tree kept.core kept.both id a active)))

  -- a word that says whether records lie at a node names nobody, and says the truth
  left_free : (content : List Record) → lock_of_word (left_lock content) ≡ Unlocked
  left_free [] = refl
  left_free (r ∷ records) = refl

  left_bare : (content : List Record) → left_lock content ≡ bare_lock → content_at (core.some (core.some (kinds.Node content))) ≡ Some []
  left_bare [] is = refl
  left_bare (r ∷ records) is = absurd (omega (arith, is))

  -- the step
  module _ (n : ℕ) (below : n < length nodes) where
    unlock_tie : (content : List Record) (next : Option Activity)
        → tree_of p lim (with_node nodes p lim s kept id v at n (left_lock content) (core.some (kinds.Node content)) (unlocked_view v n next)) ≡ after_giving tree id n content next
    unlock_tie content next =
        let w = unlocked_view v n next in
        tree_is _ (after_giving tree id n content next)
        (places_put lock_at s.words (word_count p lim + lim.tasks) n (left_lock content) (lock_within nodes p lim s kept id v at n below)
        ∙ ap (λ (word : LockWord). put tree.locks n word) (left_free content))
        (places_put content_at s.homes lim.tasks n (core.some (kinds.Node content)) (content_within nodes p lim s kept id v at n below))
        (elements_put activity_at s.views id v w at next refl)
        (elements_put kept_at s.views id v w at (put (tree.kept id) n None) (ap (λ (g : ℕ → Option (List Record)). put g n None) (sym (kept_id nodes p lim s id v at))))
        (elements_kept placed_at s.views id v w at refl)
        (elements_kept removed_at s.views id v w at refl)
        (elements_kept fresh_at s.views id v w at refl)
        (elements_kept clear_at s.views id v w at refl)
        (elements_kept waits_at s.views id v w at refl)

    -- the content went from the seat to the node
    unlock_comes : (content : List Record) (next : Option Activity) → tree.kept id n ≡ Some content → AllCome tree (after_giving tree id n content next)
    unlock_comes content next had =
        all_come tree (after_giving tree id n content next) (contents_come tree n (Some content) (λ records is. comes_same tree n records (inr (id, had ∙ is))))
        (kept_come tree id n None (λ records is. absurd (none_some is)))

    unlock_done : (rest : List (ℕ × TreeSlot)) (content : List Record) (next : Option Activity) → tree.kept id n ≡ Some content → GivesSo n content next
        → (w : TreeView) × (a : Act TreeSlot) × Valid s.homes ((content_place lim n, kinds.Node content) ∷ rest) a
        × TreeKeeps nodes p lim (stepped s (lock_place p lim n) (left_lock content) id ((content_place lim n, kinds.Node content) ∷ rest) w a)
        × GaveNode (v, (content_place lim n, kinds.Node content) ∷ rest) n next rest (w, carried_after ((content_place lim n, kinds.Node content) ∷ rest) a)
    unlock_done rest content next had (core_after, nodes_keep) = (
      unlocked_view v n next,
      gives,
      tt,
      keeps_with nodes p lim s kept id v at n (left_lock content) (core.some (kinds.Node content)) (unlocked_view v n next) refl (after_giving tree id n content next) core_after (unlock_tie content next) nodes_keep
          below (left_bare content) (unlock_comes content next had),
      refl,
    )

  unlocks : (n : ℕ) (mine rest : List (ℕ × TreeSlot)) (next : Option Activity) (has : HasContent lim (v, mine) n rest) → GivesSo n has.content next
      → (w : TreeView) × (a : Act TreeSlot) × Valid s.homes mine a × TreeKeeps nodes p lim (stepped s (lock_place p lim n) (left_lock has.content) id mine w a) × GaveNode (v, mine) n next rest (w, carried_after mine a)
  unlocks n mine rest next has so =
      subst
      (λ (l : List (ℕ × TreeSlot)). (w : TreeView) × (a : Act TreeSlot) × Valid s.homes l a × TreeKeeps nodes p lim (stepped s (lock_place p lim n) (left_lock has.content) id l w a)
      × GaveNode (v, l) n next rest (w, carried_after l a))
      (sym has.slot)
      (unlock_done n (held_below n has.content has.has) rest has.content next (kept_node nodes p lim s id v at n ∙ has.has) so)

pub go_on_allowed : (nodes : List (List Elem)) (p : Program) (lim : Bounds) (slots id n : ℕ) (v : TreeView) (mine rest : List (ℕ × TreeSlot)) (next : Activity) → MayGoOn nodes v n next
    → (has : HasContent lim (v, mine) n rest) → Allows (TreeKeeps nodes p lim) slots id (v, mine) (lock_place p lim n) (λ x. left_lock has.content) (λ x. GaveNode (v, mine) n (Some next) rest)
go_on_allowed nodes p lim slots id n v mine rest next may has s kept count at small =
    unlocks nodes p lim s kept id v at n mine rest (Some next) has
    (gives_on nodes p lim s kept id v at n has.content next (kept_node nodes p lim s id v at n ∙ has.has) (goes_on nodes p lim s kept id v at n next may))

pub stop_allowed : (nodes : List (List Elem)) (p : Program) (lim : Bounds) (slots id n : ℕ) (v : TreeView) (mine rest : List (ℕ × TreeSlot)) (next : Option Activity) → MayStop v n next
    → (has : HasContent lim (v, mine) n rest) → Allows (TreeKeeps nodes p lim) slots id (v, mine) (lock_place p lim n) (λ x. left_lock has.content) (λ x. GaveNode (v, mine) n next rest)
stop_allowed nodes p lim slots id n v mine rest next may has s kept count at small =
    unlocks nodes p lim s kept id v at n mine rest next has (gives_last nodes p lim s kept id v at n has.content next (kept_node nodes p lim s id v at n ∙ has.has) may)
