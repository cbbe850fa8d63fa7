-- A step of the floor keeps the rule of the table with nodes, if the nodes keep theirs beside the floor after it. The step may draw
-- entries, and the seat may know more or less of the nodes after it.
use Rattle.std.proofs.Common.{◌≡◌, ◌≢◌, ◌+◌, ◌++◌, ◌<◌, ℕ, List, [], ◌∷◌, length, map, Option, Some, refl, sym, ap, subst, ◌∙◌, inl, inr, arith, length-set}
use Rattle.std.specs.Prelude.{slice_get, slice_index, slice_set}
use Rattle.std.proofs.lemmas.List.{length-append}
use mathlib.Core.Option as core
use mathlib.Core.Option.{some-injective}
use lib.ListN.{get_elem?}
use Rattle.atomic_table.specs.Table.{Act, Valid, carried_after, stepped}
use Rattle.atomic_table.proofs.Lists.{at_map}
use Rattle.region_paths.specs.declared.elements.Elem.{Elem}
use Rattle.twe_base.specs.Limits.{Bounds}
use Rattle.twe_program.specs.Program.{Program}
use Rattle.wait_graph.specs.Waiting.{WaitsOnUnlessDone}
use Rattle.machine_state.specs.Runs.{state_after}
use Rattle.machine_state.proofs.lists.Places.{put_before, put_last}
use Rattle.seg_journal.specs.declared.numbered.NumberedEntry.{NumberedEntry}
use Rattle.seg_journal.specs.Merging.{journal_of}
use Rattle.floor_laws.specs.declared.rule.view.TaskSlot.{TaskSlot}
use Rattle.floor_laws.specs.rule.Floors.{Floor}
use Rattle.floor_laws.specs.rule.Rule.{KeepsRule}
use Rattle.floor_laws.specs.admission.admission_core.States as among
use Rattle.floor_laws.proofs.rule.Puts.{put_all}
use Rattle.floor_laws.specs.declared.table.view.View.{View}
use Rattle.floor_laws.specs.table.FloorOf.{Table, floor_of, part_at}
use Rattle.floor_laws.specs.table.Holds.{TableKeeps}
use Rattle.floor_laws.specs.table.Layout.{clock_place, entries_of_clock, number_at, word_count}
use Rattle.floor_laws.proofs.table.Elements.{at_else, at_within, word_at}
use Rattle.floor_laws.proofs.table.Views.{seats_kept, seats_put}
use Rattle.floor_laws.specs.admission.admission_core.States.{State}
use Rattle.floor_laws.specs.rule.nodes.Rule.{KeepsBoth, KeepsNodes}
use Rattle.floor_laws.specs.rule.nodes.Trees.{Tree}
use Rattle.floor_laws.proofs.rule.nodes.TurnEvents.{floor_same}
use Rattle.floor_laws.specs.declared.table.nodes.view.Look.{Look}
use Rattle.floor_laws.specs.declared.table.nodes.view.TreeView.{TreeView}
use Rattle.floor_laws.specs.table.nodes.Deciders.{DecidersAreSo}
use Rattle.floor_laws.specs.table.nodes.FloorSeats.{as_slot}
use Rattle.floor_laws.specs.table.nodes.Holds.{TreeKeeps}
use Rattle.floor_laws.specs.table.nodes.Layout.{content_place, decider_place, lock_at, lock_place}
use Rattle.floor_laws.specs.table.nodes.Looks.{looked_view}
use Rattle.floor_laws.specs.table.nodes.TreeOf.{TreeTable, activity_at, clear_at, content_at, content_in, floor_part, floor_shown, floor_view, fresh_at, kept_at, placed_at, removed_at, tree_of, waits_at}
use Rattle.floor_laws.proofs.table.nodes.Deciders.{deciders_stay, same_come}
use Rattle.floor_laws.proofs.table.nodes.Elements.{elements_kept, map_put, take_there}
use Rattle.floor_laws.proofs.table.nodes.Lifts.{AreBelow, IsLifted, lift, lifted, take_put}
use Rattle.floor_laws.proofs.table.nodes.OneLog.{one_log}
use Rattle.floor_laws.proofs.table.nodes.Ties.{same_floor, tree_is}

module _ (nodes : List (List Elem)) (p : Program) (lim : Bounds) (s : TreeTable) (kept : TreeKeeps nodes p lim s) (id : ℕ) (v : TreeView) (at : get_elem? s.views id ≡ core.some v) where
  abbrev pub fs : Table
  fs = floor_part p lim s

  abbrev pub tree : Tree
  tree = tree_of p lim s

  abbrev pub log : List NumberedEntry
  log = kept.floor.log

  pub at_floor : get_elem? fs.views id ≡ core.some v.floor
  at_floor = at_map floor_view s.views id v at

  -- the floor if this seat had another view
  abbrev pub viewed : View → Floor
  viewed w = floor_of p (record { words = fs.words; homes = fs.homes; views = slice_set fs.views id w })

  -- the nodes keep their rule beside it
  abbrev pub KeepsBeside : View → Type 0
  KeepsBeside w = (core_after : State) × KeepsNodes nodes p lim log (viewed w) tree core_after

  -- the nodes that the table would show if this seat had another view
  abbrev pub seated : TreeView → Tree
  seated u = tree_of p lim (record { words = s.words; homes = s.homes; views = slice_set s.views id u })

  -- these are the entries that the seats have drawn, and the clock has counted, if word i is x and this seat has this view
  abbrev pub IsNextLog : ℕ → ℕ → View → List NumberedEntry → Type 0
  IsNextLog i x w after =
      (entries_of_clock (number_at (get_elem? (slice_set fs.words i x) clock_place)) ≡ length after)
      × ((j : ℕ) (e : NumberedEntry) → among.IsAmong e (part_at (get_elem? (slice_set fs.views id w) j)) → slice_get after e.number ≡ Some e)

  -- whoever waits goes on waiting up to this log
  abbrev pub GoesOn : List NumberedEntry → Type 0
  GoesOn after = (a b : ℕ) → WaitsOnUnlessDone (state_after p lim (journal_of log)).links a b → WaitsOnUnlessDone (state_after p lim (journal_of after)).links a b

  -- With this log, the nodes keep their rule beside the floor if word i is x and this seat has this view, and whoever waits goes on
  -- waiting. The seat has the contents that it had.
  abbrev pub StepsBeside : ℕ → ℕ → TreeView → Type 0
  StepsBeside i x u =
      (after : List NumberedEntry) × IsNextLog i x u.floor after × (core_after : State) × KeepsNodes nodes p lim after (viewed u.floor) (seated u) core_after × GoesOn after
      × (content_in u.kept ≡ content_in v.kept)

  -- no entry was drawn
  pub nothing_drawn : (i x : ℕ) (w : View) → i ≢ clock_place → w.part ≡ v.floor.part → IsNextLog i x w log
  nothing_drawn i x w no_clock part = (
    ap (λ (o : core.Option ℕ). entries_of_clock (number_at o)) (at_else fs.words i clock_place x (λ same. no_clock (sym same))) ∙ kept.floor.rule.entries,
    λ j e has. kept.floor.rule.parts.entries j e (subst (λ (g : ℕ → List NumberedEntry). among.IsAmong e (g j)) (seats_kept part_at fs.views id v.floor w at_floor part) has),
  )

  -- one entry was drawn, which has the next number
  module _ (x : ℕ) (w : View) (new : NumberedEntry) (part : w.part ≡ v.floor.part ++ new ∷ []) (number : new.number ≡ length log) (size : entries_of_clock x ≡ length log + 1) where
    own_entry : (old : List NumberedEntry) → ((e : NumberedEntry) → among.IsAmong e old → slice_get log e.number ≡ Some e) → (e : NumberedEntry) → among.IsAmong e (old ++ new ∷ [])
        → slice_get (log ++ new ∷ []) e.number ≡ Some e
    own_entry [] has e (inl same) = put_last log new e.number (ap (λ (y : NumberedEntry). y.number) same ∙ number) ∙ ap Some (sym same)
    own_entry [] has e (inr more) = absurd more
    own_entry (y ∷ old) has e (inl same) = put_before log new e.number e (has e (inl same))
    own_entry (y ∷ old) has e (inr more) = own_entry old (λ z among. has z (inr among)) e more

    pub one_drawn : IsNextLog clock_place x w (log ++ new ∷ [])
    one_drawn =
        let words = kept.floor.words in (
          ap (λ (o : core.Option ℕ). entries_of_clock (number_at o)) (at_within fs.words clock_place x (omega (arith, words))) ∙ (size ∙ sym (length-append log (new ∷ []))),
          λ j e has.
              put_all (λ (k : ℕ) (es : List NumberedEntry). (y : NumberedEntry) → among.IsAmong y es → slice_get (log ++ new ∷ []) y.number ≡ Some y)
              (λ (k : ℕ). part_at (get_elem? fs.views k)) id (v.floor.part ++ new ∷ [])
              (own_entry v.floor.part (λ y in_part. kept.floor.rule.parts.entries id y (subst (among.IsAmong y) (sym (ap part_at at_floor)) in_part)))
              (λ k other y in_part. put_before log new y.number y (kept.floor.rule.parts.entries k y in_part)) j e
              (subst (λ (g : ℕ → List NumberedEntry). among.IsAmong e (g j)) (seats_put part_at fs.views id v.floor w at_floor (v.floor.part ++ new ∷ []) part) has),
        )

  -- such entries are the log
  pub next_log : (i x : ℕ) (mine : List (ℕ × Option TaskSlot)) (w : View) (a : Act (Option TaskSlot)) (keep : TableKeeps p lim (stepped fs i x id mine w a)) (after : List NumberedEntry) → IsNextLog i x w after
      → keep.log ≡ after
  next_log i x mine w a keep after is = one_log keep.log (floor_of p (stepped fs i x id mine w a)).parts keep.rule.parts after (sym keep.rule.entries ∙ is.0) is.1

  -- the nodes stay as they were if only the floor's view of the seat changes
  pub unseated : (w : View) → seated (record v { floor = w }) ≡ tree
  unseated w =
      let u : TreeView = record v { floor = w } in
      tree_is _ tree refl refl (elements_kept activity_at s.views id v u at refl) (elements_kept kept_at s.views id v u at refl) (elements_kept placed_at s.views id v u at refl)
      (elements_kept removed_at s.views id v u at refl) (elements_kept fresh_at s.views id v u at refl) (elements_kept clear_at s.views id v u at refl)
      (elements_kept waits_at s.views id v u at refl)

  -- the same of a seat that has looked
  looking : (w : View) (look : Look) → seated (record (looked_view v look) { floor = w }) ≡ tree
  looking w look =
      let u : TreeView = record (looked_view v look) { floor = w } in
      tree_is _ tree refl refl (elements_kept activity_at s.views id v u at refl) (elements_kept kept_at s.views id v u at refl) (elements_kept placed_at s.views id v u at refl)
      (elements_kept removed_at s.views id v u at refl) (elements_kept fresh_at s.views id v u at refl) (elements_kept clear_at s.views id v u at refl)
      (elements_kept waits_at s.views id v u at refl)

  pub looks_beside : (i x : ℕ) (w : View) (look : Look) → i ≢ clock_place → w.part ≡ v.floor.part → KeepsBeside w → StepsBeside i x (record (looked_view v look) { floor = w })
  looks_beside i x w look no_clock part (core_after, nodes_keep) =
      (log, nothing_drawn i x w no_clock part, core_after, subst (λ (t : Tree). KeepsNodes nodes p lim log (viewed w) t core_after) (sym (looking w look)) nodes_keep, λ a b waits. waits, refl)

  pub steps_beside : (i x : ℕ) (w : View) → i ≢ clock_place → w.part ≡ v.floor.part → KeepsBeside w → StepsBeside i x (record v { floor = w })
  steps_beside i x w no_clock part (core_after, nodes_keep) =
      (log, nothing_drawn i x w no_clock part, core_after, subst (λ (t : Tree). KeepsNodes nodes p lim log (viewed w) t core_after) (sym (unseated w)) nodes_keep, λ a b waits. waits, refl)

  module _ (i x : ℕ) (low : i < word_count p lim) (mine : List (ℕ × Option TaskSlot)) (below : AreBelow lim.tasks mine) (u : TreeView) (a : Act (Option TaskSlot))
      (valid : Valid fs.homes mine a) (keep : TableKeeps p lim (stepped fs i x id mine u.floor a)) where
    is_lifted : IsLifted lim.tasks a s.homes mine
    is_lifted = lifted lim.tasks a s.homes mine below valid

    abbrev next : TreeTable
    next = stepped s i x id (map as_slot mine) u (lift a)

    abbrev floor_next : Table
    floor_next = stepped fs i x id mine u.floor a

    part_tie : floor_part p lim next ≡ floor_next
    part_tie =
        let words = take_put s.words (word_count p lim) i x in
        let views = map_put floor_view s.views id u in
        λ k. record { words = words k; homes = is_lifted.homes k; views = views k }

    -- of the nodes only what the seat's view says changes
    tree_next : tree_of p lim next ≡ seated u
    tree_next =
        tree_is _ (seated u)
        (λ k n. lock_at (at_else s.words i (lock_place p lim n) x (λ same. omega (arith, same, low)) k))
        (λ k n. content_at (is_lifted.stay (content_place lim n) (omega arith) k))
        refl refl refl refl refl refl refl

    deciders_next : (after : List NumberedEntry) → GoesOn after → content_in u.kept ≡ content_in v.kept
        → DecidersAreSo p lim (slice_set s.words i x) (seated u) (state_after p lim (journal_of after)).links
    deciders_next after on same_kept =
        deciders_stay p lim s.words (slice_set s.words i x) tree (seated u) (state_after p lim (journal_of log)).links (state_after p lim (journal_of after)).links
        (λ t few. at_else s.words i (decider_place p lim t) x (λ same. omega (arith, same, low)))
        (same_come tree (seated u) refl (elements_kept kept_at s.views id v u at same_kept)) on kept.deciders

    next_keeps : StepsBeside i x u → TreeKeeps nodes p lim next
    next_keeps (after, is_log, core_after, nodes_keep, on, same_kept) =
        let again = same_floor p lim floor_next (floor_part p lim next) part_tie keep in
        let same : keep.log ≡ after = next_log i x mine u.floor a keep after is_log in
        record {
          words = length-set s.words i x ∙ kept.words;
          slots = is_lifted.size ∙ kept.slots;
          floor = again.0;
          core = core_after;
          both = subst (λ (l : List NumberedEntry). KeepsBoth nodes p lim l (floor_shown p lim next) (tree_of p lim next) core_after) (sym (again.1 ∙ same))
              (subst (λ (g : Table). KeepsBoth nodes p lim after (floor_of p g) (tree_of p lim next) core_after) (sym part_tie)
              (record {
                well = kept.both.well;
                effects = kept.both.effects;
                paths = kept.both.paths;
                floor = subst (λ (l : List NumberedEntry). KeepsRule p lim l (floor_of p floor_next)) same keep.rule;
                nodes_keep = subst (λ (t : Tree). KeepsNodes nodes p lim after (floor_of p floor_next) t core_after) (sym tree_next)
                    (floor_same nodes p lim after (viewed u.floor) (seated u) core_after nodes_keep (floor_of p floor_next) refl refl);
              }));
          bare = λ n is.
              ap content_at (is_lifted.stay (content_place lim n) (omega arith))
              ∙ kept.bare n (sym (at_else s.words i (lock_place p lim n) x (λ same. omega (arith, same, low))) ∙ is);
          deciders = subst (λ (l : List NumberedEntry). DecidersAreSo p lim next.words (tree_of p lim next) (state_after p lim (journal_of l)).links) (sym (again.1 ∙ same))
              (subst (λ (t : Tree). DecidersAreSo p lim next.words t (state_after p lim (journal_of after)).links) (sym tree_next) (deciders_next after on same_kept));
        }

    pub next_step : StepsBeside i x u
        → Valid s.homes (map as_slot mine) (lift a) × TreeKeeps nodes p lim (stepped s i x id (map as_slot mine) u (lift a))
        × (carried_after (map as_slot mine) (lift a) ≡ map as_slot (carried_after mine a))
    next_step beside = (is_lifted.valid, next_keeps beside, is_lifted.carried)

  -- the word that is found is that of the floor
  pub floor_finds : (i : ℕ) → i < word_count p lim → slice_index fs.words i ≡ slice_index s.words i
  floor_finds i low =
      let size = kept.words in
      let part_size = kept.floor.words in
      let within : i < length s.words = omega (arith, size, low) in
      let within_part : i < length fs.words = omega (arith, part_size, low) in
      some-injective (slice_index fs.words i) (slice_index s.words i) (sym (word_at fs.words i within_part) ∙ (take_there s.words (word_count p lim) i low ∙ word_at s.words i within))
