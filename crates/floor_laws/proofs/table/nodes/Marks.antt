-- The steps on records. Placing one is a store to the decider word of its task. Removing one, and not finding one, is a store to the lock
-- word of a node that the seat has locked, which leaves the word as it was.
use Rattle.std.proofs.Common.{◌≡◌, ◌≢◌, ◌⊎◌, ◌+◌, ◌<◌, ℕ, List, ◌∷◌, length, Option, Some, refl, sym, ap, subst, ◌∙◌, inl, inr, ⊎_elim, length-set, arith}
use Rattle.std.specs.Prelude.{slice_set}
use Rattle.std.proofs.lemmas.Bool.{cases_eq}
use mathlib.Core.Option as core
use mathlib.Core.Option.{some-injective}
use lib.ListN.{get_elem?}
use Rattle.atomic_table.specs.Table.{Allows, keeps}
use Rattle.region_paths.specs.declared.elements.Elem.{Elem}
use Rattle.effect_sets.specs.declared.effects.Effect.{Effect}
use Rattle.twe_base.specs.Limits.{Bounds}
use Rattle.twe_program.specs.Program.{Program}
use Rattle.wait_graph.specs.Chain.{none}
use Rattle.wait_graph.specs.declared.tasks.Link.{Link}
use Rattle.wait_graph.specs.Waiting.{WaitsOnUnlessDone}
use Rattle.machine_state.specs.Runs.{state_after}
use Rattle.seg_journal.specs.declared.numbered.NumberedEntry.{NumberedEntry}
use Rattle.seg_journal.specs.Merging.{journal_of}
use Rattle.floor_laws.specs.rule.Floors.{Floor, put}
use Rattle.floor_laws.proofs.rule.Puts.{put_all, put_else, put_here, some_one}
use Rattle.floor_laws.specs.table.Layout.{word_count}
use Rattle.floor_laws.proofs.table.Elements.{at_else, at_within}
use Rattle.floor_laws.specs.admission.admission_core.States.{Activity, HoldsNode, IsAmong, Record, State, record_effect}
use Rattle.floor_laws.specs.rule.nodes.FactSteps.{FindsClear, after_finding_clear}
use Rattle.floor_laws.specs.rule.nodes.Fitting.{ContentFits, KeptFits, LockFits}
use Rattle.floor_laws.specs.rule.nodes.LockSteps.{stopped}
use Rattle.floor_laws.specs.rule.nodes.RecordSteps.{IsWithout, MayPlace, MayPlaceChild, MayTakeOut, after_placing, after_removing, not_clear, record_here}
use Rattle.floor_laws.specs.rule.nodes.Rule.{IsOneEvent, KeepsNodes}
use Rattle.floor_laws.specs.rule.nodes.Trees.{LockWord, Locked, Tree, Unlocked, WaitFact}
use Rattle.floor_laws.proofs.rule.nodes.Facts.{finding_clear}
use Rattle.floor_laws.proofs.rule.nodes.LockEvents.{alone}
use Rattle.floor_laws.proofs.rule.nodes.RecordEvents.{placing, placing_child, taking_out}
use Rattle.floor_laws.specs.declared.table.nodes.slot.TreeSlot.{TreeSlot}
use Rattle.floor_laws.specs.declared.table.nodes.view.TreeView.{TreeView}
use Rattle.floor_laws.specs.table.nodes.Holds.{TreeKeeps}
use Rattle.floor_laws.specs.table.nodes.Deciders.{AllWaitFor, AreAt, DecidersAreSo, MayDecide, each_waits, led_to}
use Rattle.floor_laws.specs.table.nodes.Layout.{content_place, decider_at, decider_place, lock_at, lock_place, no_decider, taken_lock}
use Rattle.floor_laws.specs.table.nodes.RecordSeats.{MayMark, MayUnmark, clear_view, marked_view, marks, marks_child, record_about, record_task, unmarked_view}
use Rattle.floor_laws.specs.table.nodes.Seats.{tree_seen, turns_seen}
use Rattle.floor_laws.specs.table.nodes.TreeOf.{TreeTable, activity_at, clear_at, content_at, content_in, floor_part, floor_shown, floor_view, fresh_at, kept_at, placed_at, removed_at, tree_of, waits_at}
use Rattle.floor_laws.specs.table.nodes.Without.{without_record}
use Rattle.floor_laws.proofs.table.nodes.Elements.{elements_kept, elements_put, map_set, places_put, take_set}
use Rattle.floor_laws.proofs.table.nodes.Locks.{lock_within}
use Rattle.floor_laws.proofs.table.nodes.Deciders.{AllCome, all_come, comes_same, deciders_stay, kept_come, led_other, led_own, led_without, same_come, wait_of}
use Rattle.floor_laws.proofs.table.nodes.Seen.{activity_id, fresh_id, held_id, kept_id, kept_node, passes, waits_id, worker_id}
use Rattle.floor_laws.proofs.table.nodes.Ties.{bare_word, keeps_after, tree_is}
use Rattle.floor_laws.proofs.table.nodes.Unlocks.{held_below, holds_kept}

-- setting what is there changes nothing
put_same : {X : Type 0} (g : ℕ → X) (k : ℕ) (x : X) → g k ≡ x → put g k x ≡ g
put_same {X} g k x is = λ i j. at j i
  where
    at : (j : ℕ) → put g k x j ≡ g j
    at j =
        ⊎_elim
        (λ (same : j ≡ k). ap (put g k x) same ∙ (put_here g k x ∙ (sym is ∙ ap g (sym same))))
        (λ (other : j ≢ k). put_else g k j x other)
        (cases_eq j k)

module _ (nodes : List (List Elem)) (p : Program) (lim : Bounds) (s : TreeTable) (kept : TreeKeeps nodes p lim s) (id : ℕ) (v : TreeView) (at : get_elem? s.views id ≡ core.some v) where
  abbrev tree : Tree
  tree = tree_of p lim s

  abbrev f : Floor
  f = floor_shown p lim s

  abbrev log : List NumberedEntry
  log = kept.floor.log

  abbrev links : List Link
  links = (state_after p lim (journal_of log)).links

  -- the lock word of a node that the seat holds has its worker
  named : (n : ℕ) → HoldsNode tree.activities id n → (word : LockWord) → LockFits f.workers tree.activities n word → word ≡ Locked v.floor.worker
  named n holds Unlocked nobody = absurd (nobody id holds)
  named n holds (Locked worker) by =
      let one = alone nodes p lim log f tree kept.core kept.both id n holds by.0 by.1 in
      ap Locked (sym by.2 ∙ (ap f.workers one ∙ worker_id nodes p lim s id v at))

  module _ (n : ℕ) (content : List Record) (has : content_in v.kept n ≡ Some content) where
    below : n < length nodes
    below = held_below nodes p lim s kept id v at n content has

    locked : tree.locks n ≡ Locked v.floor.worker
    locked = named n (holds_kept nodes p lim s kept id v at n content has) (tree.locks n) (kept.both.nodes_keep.locks.words n)

    -- the table after the store
    abbrev with_view : TreeView → TreeTable
    with_view w = record { words = slice_set s.words (lock_place p lim n) (taken_lock v.floor.worker); homes = s.homes; views = slice_set s.views id w }

    locks_stay : (w : TreeView) → (tree_of p lim (with_view w)).locks ≡ tree.locks
    locks_stay w =
        places_put lock_at s.words (word_count p lim + lim.tasks) n (taken_lock v.floor.worker) (lock_within nodes p lim s kept id v at n below)
        ∙ put_same tree.locks n (Locked v.floor.worker) locked

    keeps_view : (w : TreeView) → w.floor ≡ v.floor → (after : Tree) (core : State) → tree_of p lim (with_view w) ≡ after → KeepsNodes nodes p lim log f after core
        → DecidersAreSo p lim (slice_set s.words (lock_place p lim n) (taken_lock v.floor.worker)) after links → TreeKeeps nodes p lim (with_view w)
    keeps_view w same after core shows nodes_keep deciders =
        let words = take_set s.words (word_count p lim) (lock_place p lim n) (taken_lock v.floor.worker) (omega arith) in
        let views = map_set floor_view s.views id v w at same in
        let floor : floor_part p lim (with_view w) ≡ floor_part p lim s = λ k. record { words = words k; homes = (floor_part p lim s).homes; views = views k } in
        keeps_after nodes p lim s kept (with_view w) after core (length-set s.words (lock_place p lim n) (taken_lock v.floor.worker)) refl floor shows nodes_keep
        (bare_word p lim s.words s.homes n (taken_lock v.floor.worker) (lock_within nodes p lim s kept id v at n below) kept.bare (λ same. omega (arith, same)))
        deciders

    -- no decider word was set
    deciders_apart : (t : ℕ) → t < lim.tasks → get_elem? (slice_set s.words (lock_place p lim n) (taken_lock v.floor.worker)) (decider_place p lim t) ≡ get_elem? s.words (decider_place p lim t)
    deciders_apart t few = at_else s.words (lock_place p lim n) (decider_place p lim t) (taken_lock v.floor.worker) (λ same. omega (arith, same, few))

    deciders_come : (after : Tree) → AllCome tree after → DecidersAreSo p lim (slice_set s.words (lock_place p lim n) (taken_lock v.floor.worker)) after links
    deciders_come after come =
        deciders_stay p lim s.words (slice_set s.words (lock_place p lim n) (taken_lock v.floor.worker)) tree after links links deciders_apart come (λ a b waits. waits) kept.deciders

  -- Placing.
  module _ (a : Activity) (content : List Record) where
    abbrev r : Record
    r = record_about a

    about : (t : ℕ) (e : Effect) → record_task a.purpose ≡ t → record_effect a.purpose ≡ e → record_here t e a ≡ r
    about t e task effect = λ k. record { task = sym task k; effect = sym effect k; node = a.place }

    place_event : MayMark nodes v a content → IsOneEvent nodes p lim log f kept.core (after_placing tree id a r content)
    place_event (marks t e done may) =
        let here : MayPlace nodes tree id a t e done content = record {
          active = activity_id nodes p lim s id v at ∙ may.active;
          purpose = may.purpose;
          stage = may.stage;
          has = kept_node nodes p lim s id v at a.place ∙ may.has;
          missing = may.missing;
          pass = λ x among. passes nodes p lim s id v at a.purpose x (may.pass x among);
          below = may.below;
        } in
        subst (λ (x : Record). IsOneEvent nodes p lim log f kept.core (after_placing tree id a x content)) (about t e (ap record_task may.purpose) (ap record_effect may.purpose))
        (placing nodes p lim log f tree kept.core kept.both id a t e done content here)
    place_event (marks_child c e done may) =
        let here : MayPlaceChild f.held tree id a c e done content = record {
          active = activity_id nodes p lim s id v at ∙ may.active;
          purpose = may.purpose;
          stage = may.stage;
          has = kept_node nodes p lim s id v at a.place ∙ may.has;
          missing = may.missing;
          turn = may.turn;
          holds = held_id nodes p lim s id v at c ∙ may.holds;
          first = may.first;
          spawned = may.spawned;
          effect = may.effect;
        } in
        subst (λ (x : Record). IsOneEvent nodes p lim log f kept.core (after_placing tree id a x content)) (about c e (ap record_task may.purpose) (ap record_effect may.purpose))
        (placing_child nodes p lim log f tree kept.core kept.both id a c e done content here)

    mark_has : MayMark nodes v a content → content_in v.kept a.place ≡ Some content
    mark_has (marks t e done may) = may.has
    mark_has (marks_child c e done may) = may.has

    -- Who decides once the record is placed.
    module _ (has : content_in v.kept a.place ≡ Some content) where
      abbrev t : ℕ
      t = record_task a.purpose

      abbrev placed : Tree
      placed = after_placing tree id a r content

      had : tree.kept id a.place ≡ Some content
      had = kept_node nodes p lim s id v at a.place ∙ has

      -- the contents after the step: the new one, and those that were
      abbrev IsNow : ℕ → List Record → Type 0
      IsNow n records = ((n ≡ a.place) × (records ≡ r ∷ content)) ⊎ ((n ≢ a.place) × AreAt tree n records)

      is_now : (n : ℕ) (records : List Record) → AreAt tree n records → (n ≡ a.place → records ≡ r ∷ content) → IsNow n records
      is_now n records there new = ⊎_elim (λ (same : n ≡ a.place). inl (same, new same)) (λ (other : n ≢ a.place). inr (other, there)) (cases_eq n a.place)

      now : (n : ℕ) (records : List Record) → AreAt placed n records → IsNow n records
      now n records (inl lies) =
          is_now n records (inl lies)
          (λ same.
          let fits = subst (ContentFits kept.core.records tree.activities n) lies (kept.both.nodes_keep.contents.homes n) in
          absurd (fits.0 id (subst (HoldsNode tree.activities id) (sym same) (holds_kept nodes p lim s kept id v at a.place content has))))
      now n records (inr (j, is)) =
          put_all (λ (i : ℕ) (g : ℕ → Option (List Record)). (m : ℕ) (l : List Record) → g m ≡ Some l → IsNow m l) tree.kept id (put (tree.kept id) a.place (Some (r ∷ content)))
          (put_all (λ (m : ℕ) (o : Option (List Record)). (l : List Record) → o ≡ Some l → IsNow m l) (tree.kept id) a.place (Some (r ∷ content)) (λ l own. inl (refl, sym (some_one own)))
          (λ m other l mine. inr (other, inr (id, mine))))
          (λ i other m l mine.
          is_now m l (inr (i, mine))
          (λ same.
          let fits = subst (KeptFits kept.core.records tree.activities i m) mine (kept.both.nodes_keep.contents.out i m) in
          let holds = subst (HoldsNode tree.activities id) (sym same) (holds_kept nodes p lim s kept id v at a.place content has) in
          absurd (other (alone nodes p lim log f tree kept.core kept.both id m holds i fits.0))))
          j n records is

      others_decide : (w n : ℕ) (records : List Record) (fact : WaitFact) → w ≢ t → w < lim.tasks → get_elem? s.words (decider_place p lim w) ≡ core.some (decider_at n) → IsNow n records
          → IsAmong fact (led_to w records) → WaitsOnUnlessDone links fact.waiter fact.awaited
      others_decide w n records fact other below is (inl (same, new)) among =
          kept.deciders w a.place content fact below (is ∙ ap (λ (m : ℕ). core.some (decider_at m)) same) (inr (id, had))
          (subst (IsAmong fact) (led_other w r content (λ own. other (sym own))) (subst (λ (l : List Record). IsAmong fact (led_to w l)) new among))
      others_decide w n records fact other below is (inr (apart, there)) among = kept.deciders w n records fact below is there among

      -- what the nodes show, if the locks are as they were
      placed_tie : (table : TreeTable) → table.homes ≡ s.homes → table.views ≡ slice_set s.views id (marked_view v a content) → (tree_of p lim table).locks ≡ tree.locks → tree_of p lim table ≡ placed
      placed_tie table homes views locks =
          let w = marked_view v a content in
          tree_is _ placed locks
          (λ k n. content_at (get_elem? (homes k) (content_place lim n)))
          ((λ k i. activity_at (get_elem? (views k) i)) ∙ elements_put activity_at s.views id v w at (Some (stopped a)) refl)
          ((λ k i. kept_at (get_elem? (views k) i))
          ∙ elements_put kept_at s.views id v w at (put (tree.kept id) a.place (Some (r ∷ content))) (ap (λ (g : ℕ → Option (List Record)). put g a.place (Some (r ∷ content))) (sym (kept_id nodes p lim s id v at))))
          ((λ k i. placed_at (get_elem? (views k) i)) ∙ elements_put placed_at s.views id v w at (r ∷ tree.placed id) (ap (λ (o : core.Option TreeView). r ∷ placed_at o) (sym at)))
          ((λ k i. removed_at (get_elem? (views k) i)) ∙ elements_kept removed_at s.views id v w at refl)
          ((λ k i. fresh_at (get_elem? (views k) i)) ∙ elements_put fresh_at s.views id v w at (r ∷ tree.fresh id) (ap (λ (o : core.Option TreeView). r ∷ fresh_at o) (sym at)))
          ((λ k i. clear_at (get_elem? (views k) i))
          ∙ elements_put clear_at s.views id v w at (not_clear (record_task a.purpose) a.place (tree.clear id)) (ap (λ (o : core.Option TreeView). not_clear (record_task a.purpose) a.place (clear_at o)) (sym at)))
          ((λ k i. waits_at (get_elem? (views k) i)) ∙ elements_kept waits_at s.views id v w at refl)

      -- The task is one that may be made: its word says whether it decides.
      module _ (said : ℕ) (few : record_task a.purpose < lim.tasks) (says : MayDecide v (record_task a.purpose) a.place content said) where
        -- it decides for those that the seat knows to wait
        own_waits : AllWaitFor v.waits t content → (fact : WaitFact) → IsAmong fact (each_waits t content) → WaitsOnUnlessDone links fact.waiter fact.awaited
        own_waits all fact among =
            let one = wait_of t content fact among in
            subst (λ (x : WaitFact). WaitsOnUnlessDone links x.waiter x.awaited) (sym one.2)
            (⊎_elim (λ (own : one.0.task ≡ t). subst (λ (u : ℕ). WaitsOnUnlessDone links u t) (sym own) (inl none))
            (λ (known : IsAmong (record { waiter = one.0.task; awaited = t }) v.waits).
            kept.both.nodes_keep.known.waits_hold id (record { waiter = one.0.task; awaited = t })
            (subst (IsAmong (record { waiter = one.0.task; awaited = t })) (sym (waits_id nodes p lim s id v at)) known))
            (all one.0 one.1))

        own_decides : (n : ℕ) (records : List Record) (fact : WaitFact) → said ≡ decider_at n → IsNow n records → IsAmong fact (led_to t records) → WaitsOnUnlessDone links fact.waiter fact.awaited
        own_decides n records fact is where_now among =
            ⊎_elim (λ (nowhere : said ≡ no_decider). let never = sym nowhere ∙ is in absurd (omega (arith, never)))
            (λ (here : (said ≡ decider_at a.place) × AllWaitFor v.waits t content).
            let same_place = sym is ∙ here.0 in
            let at_place : n ≡ a.place = omega (arith, same_place) in
            let new : records ≡ r ∷ content =
            ⊎_elim (λ (new : (n ≡ a.place) × (records ≡ r ∷ content)). new.1) (λ (old : (n ≢ a.place) × AreAt tree n records). absurd (old.0 at_place)) where_now in
            own_waits here.1 fact
            (subst (IsAmong fact) (led_own t r content refl) (subst (λ (l : List Record). IsAmong fact (led_to t l)) new among)))
            says

        deciders_placed : DecidersAreSo p lim (slice_set s.words (decider_place p lim t) said) placed links
        deciders_placed w n records fact below is there among =
            ⊎_elim
            (λ (own : w ≡ t).
            let size = kept.words in
            let at_own = subst (λ (u : ℕ). get_elem? (slice_set s.words (decider_place p lim t) said) (decider_place p lim u) ≡ core.some (decider_at n)) own is in
            let said_is : said ≡ decider_at n = some-injective said (decider_at n) (sym (at_within s.words (decider_place p lim t) said (omega (arith, size, few))) ∙ at_own) in
            own_decides n records fact said_is (now n records there) (subst (λ (u : ℕ). IsAmong fact (led_to u records)) own among))
            (λ (other : w ≢ t).
            others_decide w n records fact other below (sym (at_else s.words (decider_place p lim t) (decider_place p lim w) said (λ same. other (omega (arith, same)))) ∙ is) (now n records there) among)
            (cases_eq w t)

        -- the table after the store
        abbrev said_view : TreeView → TreeTable
        said_view w = record { words = slice_set s.words (decider_place p lim t) said; homes = s.homes; views = slice_set s.views id w }

        said_apart : (n : ℕ) → get_elem? (slice_set s.words (decider_place p lim t) said) (lock_place p lim n) ≡ get_elem? s.words (lock_place p lim n)
        said_apart n = at_else s.words (decider_place p lim t) (lock_place p lim n) said (λ same. omega (arith, same, few))

        keeps_said : (w : TreeView) → w.floor ≡ v.floor → (core : State) → tree_of p lim (said_view w) ≡ placed → KeepsNodes nodes p lim log f placed core → TreeKeeps nodes p lim (said_view w)
        keeps_said w same core shows nodes_keep =
            let words = take_set s.words (word_count p lim) (decider_place p lim t) said (omega arith) in
            let views = map_set floor_view s.views id v w at same in
            let floor : floor_part p lim (said_view w) ≡ floor_part p lim s = λ k. record { words = words k; homes = (floor_part p lim s).homes; views = views k } in
            keeps_after nodes p lim s kept (said_view w) placed core (length-set s.words (decider_place p lim t) said) refl floor shows nodes_keep (λ n is. kept.bare n (sym (said_apart n) ∙ is))
            deciders_placed

        place_done : IsOneEvent nodes p lim log f kept.core placed → TreeKeeps nodes p lim (said_view (marked_view v a content))
        place_done (core_after, event, nodes_keep) =
            keeps_said (marked_view v a content) refl core_after (placed_tie (said_view (marked_view v a content)) refl refl (λ k n. lock_at (said_apart n k))) nodes_keep

      -- It is none: no word tells of it.
      module _ (past : record_task a.purpose < lim.tasks → ⊥) where
        others_placed : DecidersAreSo p lim (slice_set s.words (lock_place p lim a.place) (taken_lock v.floor.worker)) placed links
        others_placed w n records fact below is there among =
            others_decide w n records fact (λ own. past (subst (λ (u : ℕ). u < lim.tasks) own below)) below (sym (deciders_apart a.place content has w below) ∙ is) (now n records there) among

        past_done : IsOneEvent nodes p lim log f kept.core placed → TreeKeeps nodes p lim (with_view a.place content has (marked_view v a content))
        past_done (core_after, event, nodes_keep) =
            keeps_view a.place content has (marked_view v a content) refl placed core_after
            (placed_tie (with_view a.place content has (marked_view v a content)) refl refl (locks_stay a.place content has (marked_view v a content))) nodes_keep others_placed

    -- Removing.
    remove_event : MayUnmark v a content → IsOneEvent nodes p lim log f kept.core (after_removing tree id a r (without_record r content) (without_record r v.fresh))
    remove_event unmark =
        let t = unmark.task in
        let e = unmark.effect in
        let may = unmark.may in
        let is : record_here t e a ≡ r = about t e (ap record_task may.purpose) (ap record_effect may.purpose) in
        let here : MayTakeOut f.held tree id a t e unmark.done content (without_record r content) (without_record r v.fresh) = record {
          active = activity_id nodes p lim s id v at ∙ may.active;
          purpose = may.purpose;
          stage = may.stage;
          has = kept_node nodes p lim s id v at a.place ∙ may.has;
          there = may.there;
          others = may.others;
          fresh_others = subst (λ (l : List Record). IsWithout (record_here t e a) l (without_record r v.fresh)) (sym (fresh_id nodes p lim s id v at)) may.fresh_others;
          turn = may.turn;
          holds = held_id nodes p lim s id v at t ∙ may.holds;
          taken = may.taken;
          inactive = may.inactive;
        } in
        subst (λ (x : Record). IsOneEvent nodes p lim log f kept.core (after_removing tree id a x (without_record r content) (without_record r v.fresh))) is
        (taking_out nodes p lim log f tree kept.core kept.both id a t e unmark.done content (without_record r content) (without_record r v.fresh) here)

    remove_tie : (has : content_in v.kept a.place ≡ Some content)
        → tree_of p lim (with_view a.place content has (unmarked_view v a content)) ≡ after_removing tree id a r (without_record r content) (without_record r v.fresh)
    remove_tie has =
        let w = unmarked_view v a content in
        let left = without_record r content in
        tree_is _ (after_removing tree id a r left (without_record r v.fresh))
        (locks_stay a.place content has w)
        refl
        (elements_put activity_at s.views id v w at (Some (stopped a)) refl)
        (elements_put kept_at s.views id v w at (put (tree.kept id) a.place (Some left)) (ap (λ (g : ℕ → Option (List Record)). put g a.place (Some left)) (sym (kept_id nodes p lim s id v at))))
        (elements_kept placed_at s.views id v w at refl)
        (elements_put removed_at s.views id v w at (r ∷ tree.removed id) (ap (λ (o : core.Option TreeView). r ∷ removed_at o) (sym at)))
        (elements_put fresh_at s.views id v w at (without_record r v.fresh) refl)
        (elements_put clear_at s.views id v w at (r ∷ tree.clear id) (ap (λ (o : core.Option TreeView). r ∷ clear_at o) (sym at)))
        (elements_kept waits_at s.views id v w at refl)

    remove_done : (has : content_in v.kept a.place ≡ Some content) → IsOneEvent nodes p lim log f kept.core (after_removing tree id a r (without_record r content) (without_record r v.fresh))
        → TreeKeeps nodes p lim (with_view a.place content has (unmarked_view v a content))
    remove_done has (core_after, event, nodes_keep) =
        keeps_view a.place content has (unmarked_view v a content) refl (after_removing tree id a r (without_record r content) (without_record r v.fresh)) core_after (remove_tie has) nodes_keep
        (deciders_come a.place content has (after_removing tree id a r (without_record r content) (without_record r v.fresh))
        (all_come tree (after_removing tree id a r (without_record r content) (without_record r v.fresh)) (λ m records is. comes_same tree m records (inl is))
        (kept_come tree id a.place (Some (without_record r content))
        (λ records is. (content, inr (id, kept_node nodes p lim s id v at a.place ∙ has), λ w fact among. led_without w r content fact (subst (λ (l : List Record). IsAmong fact (led_to w l)) (sym (some_one is)) among))))))

  -- Not finding a record.
  module _ (r : Record) (finds : FindsClear (turns_seen v) (tree_seen v) 0 r) where
    clear_tie : tree_of p lim (with_view r.node finds.content finds.has (clear_view v r)) ≡ after_finding_clear tree id r
    clear_tie =
        let w = clear_view v r in
        tree_is _ (after_finding_clear tree id r)
        (locks_stay r.node finds.content finds.has w)
        refl
        (elements_kept activity_at s.views id v w at refl)
        (elements_kept kept_at s.views id v w at refl)
        (elements_kept placed_at s.views id v w at refl)
        (elements_kept removed_at s.views id v w at refl)
        (elements_kept fresh_at s.views id v w at refl)
        (elements_put clear_at s.views id v w at (r ∷ tree.clear id) (ap (λ (o : core.Option TreeView). r ∷ clear_at o) (sym at)))
        (elements_kept waits_at s.views id v w at refl)

    clear_done : TreeKeeps nodes p lim (with_view r.node finds.content finds.has (clear_view v r))
    clear_done =
        let here : FindsClear f.held tree id r =
        record { turn = (finds.turn.0, held_id nodes p lim s id v at r.task ∙ finds.turn.1); content = finds.content; has = kept_node nodes p lim s id v at r.node ∙ finds.has; none = finds.none } in
        keeps_view r.node finds.content finds.has (clear_view v r) refl (after_finding_clear tree id r) kept.core clear_tie
        (finding_clear nodes p lim log f tree kept.core kept.both id r here) (deciders_come r.node finds.content finds.has (after_finding_clear tree id r) (same_come tree (after_finding_clear tree id r) refl refl))

pub mark_allowed : (nodes : List (List Elem)) (p : Program) (lim : Bounds) (slots id : ℕ) (v : TreeView) (mine : List (ℕ × TreeSlot)) (a : Activity) (content : List Record) (said : ℕ)
    → record_task a.purpose < lim.tasks → MayDecide v (record_task a.purpose) a.place content said → MayMark nodes v a content
    → Allows (TreeKeeps nodes p lim) slots id (v, mine) (decider_place p lim (record_task a.purpose)) (λ x. said) (λ x after. after ≡ (marked_view v a content, mine))
mark_allowed nodes p lim slots id v mine a content said few says may s kept count at small = (
  marked_view v a content,
  keeps,
  tt,
  place_done nodes p lim s kept id v at a content (mark_has nodes p lim s kept id v at a content may) said few says (place_event nodes p lim s kept id v at a content may),
  refl,
)

pub mark_past_allowed : (nodes : List (List Elem)) (p : Program) (lim : Bounds) (slots id : ℕ) (v : TreeView) (mine : List (ℕ × TreeSlot)) (a : Activity) (content : List Record)
    → (record_task a.purpose < lim.tasks → ⊥) → MayMark nodes v a content
    → Allows (TreeKeeps nodes p lim) slots id (v, mine) (lock_place p lim a.place) (λ x. taken_lock v.floor.worker) (λ x after. after ≡ (marked_view v a content, mine))
mark_past_allowed nodes p lim slots id v mine a content past may s kept count at small = (
  marked_view v a content,
  keeps,
  tt,
  past_done nodes p lim s kept id v at a content (mark_has nodes p lim s kept id v at a content may) past (place_event nodes p lim s kept id v at a content may),
  refl,
)

pub unmark_allowed : (nodes : List (List Elem)) (p : Program) (lim : Bounds) (slots id : ℕ) (v : TreeView) (mine : List (ℕ × TreeSlot)) (a : Activity) (content : List Record) → MayUnmark v a content
    → Allows (TreeKeeps nodes p lim) slots id (v, mine) (lock_place p lim a.place) (λ x. taken_lock v.floor.worker) (λ x after. after ≡ (unmarked_view v a content, mine))
unmark_allowed nodes p lim slots id v mine a content may s kept count at small = (
  unmarked_view v a content,
  keeps,
  tt,
  remove_done nodes p lim s kept id v at a content may.may.has (remove_event nodes p lim s kept id v at a content may),
  refl,
)

pub clear_allowed : (nodes : List (List Elem)) (p : Program) (lim : Bounds) (slots id : ℕ) (r : Record) (v : TreeView) (mine : List (ℕ × TreeSlot)) → FindsClear (turns_seen v) (tree_seen v) 0 r
    → Allows (TreeKeeps nodes p lim) slots id (v, mine) (lock_place p lim r.node) (λ x. taken_lock v.floor.worker) (λ x after. after ≡ (clear_view v r, mine))
clear_allowed nodes p lim slots id r v mine finds s kept count at small = (clear_view v r, keeps, tt, clear_done nodes p lim s kept id v at r finds, refl)
