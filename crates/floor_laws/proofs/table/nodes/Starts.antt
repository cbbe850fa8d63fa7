-- A table with nodes that is laid out by a state keeps the rule.
use Rattle.std.proofs.Common.{◌≡◌, ◌≢◌, ◌<◌, ◌≤◌, ℕ, zero, suc, List, [], ◌∷◌, length, map, Option, None, Some, refl, sym, ap, subst, ◌∙◌, ⊎_elim, arith}
use Rattle.std.specs.Prelude.{◌^◌, slice_get, take}
use Rattle.std.proofs.lemmas.Nat.{mod-mul-add}
use mathlib.Core.Option as core
use mathlib.Core.Option.{some-injective}
use lib.ListN.{get_elem?}
use Rattle.atomic_table.specs.Table.{opening}
use Rattle.atomic_table.proofs.Lists.{at_map}
use Rattle.region_paths.specs.declared.elements.Elem.{Elem}
use Rattle.prefix_tree.specs.Nodes.{IsTreeOfPaths}
use Rattle.twe_base.specs.Limits.{Bounds, IsWithin}
use Rattle.twe_program.specs.Program.{Program}
use Rattle.twe_program.specs.WellFormed.{IsWellFormed}
use Rattle.isolation_laws.specs.soundness.KeepsEffects.{KeepsEffects}
use Rattle.machine_state.specs.declared.state.State as machine
use Rattle.machine_state.specs.Runs.{IsRun}
use Rattle.seg_journal.specs.declared.numbered.NumberedEntry.{NumberedEntry}
use Rattle.seg_journal.specs.Merging.{journal_of, prints_of}
use Rattle.floor_laws.specs.declared.rule.view.TaskSlot.{TaskSlot}
use Rattle.floor_laws.specs.rule.Floors.{Floor, put}
use Rattle.floor_laws.specs.rule.Rule.{AreInOrder, KeepsRule}
use Rattle.floor_laws.specs.rule.Steps.{floor_at}
use Rattle.floor_laws.specs.admission.admission_core.States as among
use Rattle.floor_laws.proofs.rule.Puts.{put_else, put_here}
use Rattle.floor_laws.specs.table.FloorOf.{Table, floor_of}
use Rattle.floor_laws.specs.table.Holds.{TableKeeps, first_view}
use Rattle.floor_laws.specs.table.Layout.{entries_of_clock, number_at, word_count}
use Rattle.floor_laws.proofs.table.Clock.{entries_few}
use Rattle.floor_laws.proofs.table.Starts.{starts_keep}
use Rattle.floor_laws.specs.admission.admission_core.States.{Record}
use Rattle.floor_laws.specs.rule.nodes.Fitting.{AreRecordsAt}
use Rattle.floor_laws.specs.rule.nodes.Rule.{KeepsBoth, KeepsNodes}
use Rattle.floor_laws.specs.rule.nodes.Starts.{AreContents, AreOfEnabled, core_at, tree_at}
use Rattle.floor_laws.specs.rule.nodes.Trees.{Tree}
use Rattle.floor_laws.proofs.rule.nodes.Rests.{wakes}
use Rattle.floor_laws.proofs.rule.nodes.TurnEvents.{floor_same}
use Rattle.floor_laws.specs.declared.table.nodes.slot.TreeSlot.{TreeSlot}
use Rattle.floor_laws.specs.declared.table.nodes.slot.TreeSlot.TheVariants as kinds
use Rattle.floor_laws.specs.declared.table.nodes.view.TreeView.{TreeView}
use Rattle.floor_laws.specs.table.nodes.Holds.{HoldsContent, IsTreeLaidOut, TreeKeeps, first_tree_view}
use Rattle.floor_laws.specs.table.nodes.Layout.{bare_lock, content_place, decider_at, decider_place, no_decider, free_lock, lock_at, lock_place}
use Rattle.floor_laws.specs.table.nodes.TreeOf.{TreeTable, activity_at, clear_at, content_at, fresh_at, floor_part, floor_shown, kept_at, placed_at, removed_at, task_home, tree_of, waits_at}
use Rattle.floor_laws.proofs.table.nodes.Elements.{below_or, beyond, map_length, take_map}
use Rattle.floor_laws.proofs.table.nodes.OneLog.{in_order, one_log}
use Rattle.floor_laws.proofs.table.nodes.Ties.{same_floor, tree_is}

-- the slots of tasks at a start show what lies in them
homes_shown : (tasks : List (Option TaskSlot)) → map task_home (map core.some (map kinds.Task tasks)) ≡ map core.some tasks
homes_shown [] = refl
homes_shown (x ∷ tasks) = ap (λ (t : List (core.Option (Option TaskSlot))). core.some x ∷ t) (homes_shown tasks)

-- the records of a content, if it is there
abbrev records_of : Option (List Record) → List Record
records_of None = []
records_of (Some records) = records

module _ (nodes : List (List Elem)) (p : Program) (lim : Bounds) (log : List NumberedEntry) (st : machine.State) (records : List Record) (well : IsWellFormed p) (keeps : KeepsEffects p)
    (paths : IsTreeOfPaths nodes) (within : IsWithin lim.fuel lim.tasks) (run : IsRun p lim (journal_of log) st) (order : AreInOrder log) (prints : st.prints ≡ prints_of log)
    (enabled : AreOfEnabled nodes st records) (words : List ℕ) (slots : List TreeSlot) (laid : IsTreeLaidOut nodes p lim log st records words slots) where
  abbrev first : TreeView
  first = first_tree_view log records

  abbrev table : TreeTable
  table = opening words slots first

  -- The floor.
  abbrev floor_table : Table
  floor_table = opening (take (word_count p lim) words) laid.tasks (first_view log)

  floor_tie : floor_part p lim table ≡ floor_table
  floor_tie =
      let homes : map task_home (take lim.tasks (map core.some slots)) ≡ map core.some laid.tasks =
      ap (map task_home) (take_map core.some lim.tasks slots) ∙ (ap (λ (l : List TreeSlot). map task_home (map core.some l)) laid.task_slots ∙ homes_shown laid.tasks) in
      λ k. record { words = take (word_count p lim) words; homes = homes k; views = first_view log ∷ [] }

  starts : TableKeeps p lim floor_table
  starts = starts_keep p lim log st well keeps within run order prints (take (word_count p lim) words) laid.tasks laid.floor

  -- it has the log of the start
  abbrev f : Floor
  f = floor_of p floor_table

  parts_stand : (i : ℕ) (e : NumberedEntry) → among.IsAmong e (f.parts i) → slice_get log e.number ≡ Some e
  parts_stand zero e has = in_order log order e has
  parts_stand (suc i) e has = absurd has

  same_size : length starts.log ≡ length log
  same_size =
      let few = entries_few p lim log well within run.legal in
      sym starts.rule.entries ∙ (ap (λ (o : core.Option ℕ). entries_of_clock (number_at o)) laid.floor.clock ∙ mod-mul-add st.asked (2 ^ 45) (length log) few)

  same_log : starts.log ≡ log
  same_log = one_log starts.log f.parts starts.rule.parts log same_size parts_stand

  -- The nodes.
  abbrev contents : ℕ → List Record
  contents n = records_of (content_at (get_elem? table.homes (content_place lim n)))

  module _ (n : ℕ) (below : n < length nodes) where
    abbrev holds : HoldsContent records slots (content_place lim n) n
    holds = laid.contents n below

    content_is : content_at (get_elem? table.homes (content_place lim n)) ≡ Some holds.content
    content_is = ap content_at (at_map core.some slots (content_place lim n) (kinds.Node holds.content) holds.there)

    content_below : content_at (get_elem? table.homes (content_place lim n)) ≡ Some (contents n)
    content_below = content_is ∙ sym (ap (λ (o : Option (List Record)). Some (records_of o)) content_is)

    all_below : AreRecordsAt records n (contents n)
    all_below = subst (AreRecordsAt records n) (sym (ap records_of content_is)) holds.all

  module _ (n : ℕ) (past : length nodes ≤ n) where
    no_slot : get_elem? table.homes (content_place lim n) ≡ core.none
    no_slot =
        let size = laid.all_slots in
        let same = map_length core.some slots in
        beyond table.homes (content_place lim n) (omega (arith, size, same, past))

    content_past : content_at (get_elem? table.homes (content_place lim n)) ≡ Some (contents n)
    content_past = ap content_at no_slot ∙ sym (ap (λ (o : core.Option (core.Option TreeSlot)). Some (records_of (content_at o))) no_slot)

    none_past : AreRecordsAt records n (contents n)
    none_past =
        subst (AreRecordsAt records n) (sym (ap (λ (o : core.Option (core.Option TreeSlot)). records_of (content_at o)) no_slot))
        (λ r. (
          λ among. absurd among,
          λ pair.
              let there = (enabled.only r pair.0).placed.place.there in
              let same = pair.1 in
              absurd (omega (arith, there, same, past)),
        ))

  are_contents : AreContents records contents
  are_contents n = ⊎_elim (λ (below : n < length nodes). all_below n below) (λ (past : length nodes ≤ n). none_past n past) (below_or n (length nodes))

  content_shown : (n : ℕ) → content_at (get_elem? table.homes (content_place lim n)) ≡ Some (contents n)
  content_shown n = ⊎_elim (λ (below : n < length nodes). content_below n below) (λ (past : length nodes ≤ n). content_past n past) (below_or n (length nodes))

  abbrev at_start : Tree
  at_start = tree_at records contents

  lock_shown : (n : ℕ) → lock_at (get_elem? words (lock_place p lim n)) ≡ at_start.locks n
  lock_shown n =
      ⊎_elim
      (λ (below : n < length nodes). ap lock_at (laid.locks n below))
      (λ (past : length nodes ≤ n).
      let size = laid.all_words in
      ap lock_at (beyond words (lock_place p lim n) (omega (arith, size, past))))
      (below_or n (length nodes))

  placed_shown : (i : ℕ) → placed_at (get_elem? (first ∷ []) i) ≡ put (λ (j : ℕ). []) 0 records i
  placed_shown zero = sym (put_here (λ (j : ℕ). []) 0 records)
  placed_shown (suc i) = sym (put_else (λ (j : ℕ). []) 0 (suc i) records (λ same. omega (arith, same)))

  -- what the one seat has not, none has
  same_all : {X : Type 0} (part : core.Option TreeView → X) → part (core.some first) ≡ part core.none → (i : ℕ) → part (get_elem? (first ∷ []) i) ≡ part core.none
  same_all part same zero = same
  same_all part same (suc i) = refl

  tree_tie : tree_of p lim table ≡ at_start
  tree_tie =
      tree_is (tree_of p lim table) at_start
      (λ k n. lock_shown n k)
      (λ k n. content_shown n k)
      (λ k i. same_all activity_at refl i k)
      (λ k i n. same_all (λ (o : core.Option TreeView). kept_at o n) refl i k)
      (λ k i. placed_shown i k)
      (λ k i. same_all removed_at refl i k)
      (λ k i. same_all fresh_at refl i k)
      (λ k i. same_all clear_at refl i k)
      (λ k i. same_all waits_at refl i k)

  -- no lock word is bare
  none_bare : (n : ℕ) → get_elem? words (lock_place p lim n) ≢ core.some bare_lock
  none_bare n is =
      ⊎_elim
      (λ (below : n < length nodes). let same = some-injective free_lock bare_lock (sym (laid.locks n below) ∙ is) in omega (arith, same))
      (λ (past : length nodes ≤ n).
      let size = laid.all_words in
      let none = sym (beyond words (lock_place p lim n) (omega (arith, size, past))) ∙ is in cc)
      (below_or n (length nodes))

  -- no task decides
  none_decides : (w n : ℕ) → w < lim.tasks → get_elem? words (decider_place p lim w) ≢ core.some (decider_at n)
  none_decides w n below is = let same = some-injective no_decider (decider_at n) (sym (laid.deciders w below) ∙ is) in omega (arith, same)

  -- Both.
  held_same : (i t : ℕ) → f.held i t ≡ None
  held_same zero t = refl
  held_same (suc i) t = refl

  workers_same : (i : ℕ) → f.workers i ≡ 0
  workers_same zero = refl
  workers_same (suc i) = refl

  nodes_start : KeepsNodes nodes p lim log f (tree_of p lim table) (core_at (journal_of log) st records)
  nodes_start =
      let woken = wakes nodes p lim log st records contents well keeps paths run enabled are_contents in
      subst (λ (t : Tree). KeepsNodes nodes p lim log f t (core_at (journal_of log) st records)) (sym tree_tie)
      (floor_same nodes p lim log (floor_at log st) at_start (core_at (journal_of log) st records) woken f (λ k i t. held_same i t k) (λ k i. workers_same i k))

  pub opens : TreeKeeps nodes p lim (opening words slots (first_tree_view log records))
  opens =
      let again = same_floor p lim floor_table (floor_part p lim table) floor_tie starts in
      record {
        words = laid.all_words;
        slots = map_length core.some slots ∙ laid.all_slots;
        floor = again.0;
        core = core_at (journal_of log) st records;
        both = subst (λ (l : List NumberedEntry). KeepsBoth nodes p lim l (floor_shown p lim table) (tree_of p lim table) (core_at (journal_of log) st records)) (sym (again.1 ∙ same_log))
            (subst (λ (g : Table). KeepsBoth nodes p lim log (floor_of p g) (tree_of p lim table) (core_at (journal_of log) st records)) (sym floor_tie)
            (record { well = well; effects = keeps; paths = paths; floor = subst (λ (l : List NumberedEntry). KeepsRule p lim l f) same_log starts.rule; nodes_keep = nodes_start }));
        bare = λ n is. absurd (none_bare n is);
        deciders = λ w n content fact below is there among. absurd (none_decides w n below is);
      }
