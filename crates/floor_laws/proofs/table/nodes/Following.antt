-- Loading a phase word keeps the rule of the table: the seat learns that a task is done, or for whom it waits.
use Rattle.std.proofs.Common.{◌≡◌, ◌≢◌, ◌<◌, ℕ, ℤ, Bool, true, false, List, [], ◌∷◌, length, if◌then◌else◌, refl, sym, ap, subst, ◌∙◌, inl, inr, arith}
use Rattle.std.specs.Prelude.{◌==◌, ◌^◌, slice_index, slice_set}
use Rattle.std.proofs.lemmas.Bool.Decides.{Decides-eqb}
use mathlib.Core.Option as core
use mathlib.Core.Option.{some-injective}
use lib.ListN.{get_elem?}
use Rattle.atomic_table.specs.Table.{Act, Allows, Valid, carried_after, keeps, stepped, step}
use Rattle.atomic_table.proofs.Lists.{at_map}
use Rattle.region_paths.specs.declared.elements.Elem.{Elem}
use Rattle.twe_base.specs.Limits.{Bounds}
use Rattle.twe_program.specs.Program.{Program}
use Rattle.wait_graph.specs.Waiting.{WaitsOnUnlessDone}
use Rattle.machine_state.specs.Runs.{state_after}
use Rattle.seg_journal.specs.declared.numbered.NumberedEntry.{NumberedEntry}
use Rattle.seg_journal.specs.Merging.{journal_of}
use Rattle.floor_laws.specs.declared.rule.view.Phase.{Phase}
use Rattle.floor_laws.specs.declared.rule.view.Phase.TheVariants.{Absent, Made, Running, Waits, Done, Faulted}
use Rattle.floor_laws.specs.rule.Floors.{Floor, put}
use Rattle.floor_laws.specs.rule.Rule.{KeepsRule}
use Rattle.floor_laws.specs.rule.Steps.{after_finding_done}
use Rattle.floor_laws.proofs.rule.Puts.{put_all, put_here}
use Rattle.floor_laws.proofs.rule.RuleSteps.{find_done}
use Rattle.floor_laws.specs.declared.table.view.SeatKind.TheVariants.{Spent}
use Rattle.floor_laws.specs.declared.table.view.View.{View}
use Rattle.floor_laws.specs.table.FloorOf.{Table, seat_facts_at, floor_of, part_at, segment_at, turns_at, worker_at}
use Rattle.floor_laws.specs.table.Layout.{phase_of_word, phase_place, phase_word_at, word_count}
use Rattle.floor_laws.specs.table.Tells.{IsOwnPhase, WaitsAbove}
use Rattle.floor_laws.proofs.table.Elements.{set_same, word_at}
use Rattle.floor_laws.proofs.table.SeatKinds.{seats_after}
use Rattle.floor_laws.proofs.table.Steps.{floor_is, load_phase_allowed}
use Rattle.floor_laws.proofs.table.Views.{seats_kept, seats_put}
use Rattle.floor_laws.specs.admission.admission_core.States.{IsAmong}
use Rattle.floor_laws.specs.rule.nodes.FactSteps.{IsKnownToWait}
use Rattle.floor_laws.specs.rule.nodes.Rule.{KeepsBoth, KeepsNodes}
use Rattle.floor_laws.specs.rule.nodes.Trees.{Tree, WaitFact}
use Rattle.floor_laws.proofs.rule.nodes.Facts.{following}
use Rattle.floor_laws.proofs.rule.nodes.TurnEvents.{floor_same}
use Rattle.floor_laws.specs.declared.table.nodes.slot.TreeSlot.{TreeSlot}
use Rattle.floor_laws.specs.declared.table.nodes.view.Look.TheVariants.{AtPhase}
use Rattle.floor_laws.specs.declared.table.nodes.view.TreeView.{TreeView}
use Rattle.floor_laws.specs.table.nodes.Alone.{LearnsAlone}
use Rattle.floor_laws.specs.table.nodes.Deciders.{DecidersAreSo}
use Rattle.floor_laws.specs.table.nodes.Follows.{FollowedPhase, FollowsWait, Learns, done_view, followed, led_on, waits_view}
use Rattle.floor_laws.specs.table.nodes.Holds.{TreeKeeps}
use Rattle.floor_laws.specs.table.nodes.Layout.{tree_slot_count}
use Rattle.floor_laws.specs.table.nodes.Looks.{looked_view}
use Rattle.floor_laws.specs.table.nodes.TreeOf.{TreeTable, activity_at, clear_at, floor_part, floor_shown, floor_view, fresh_at, kept_at, placed_at, removed_at, tree_of, waits_at}
use Rattle.floor_laws.proofs.table.nodes.Alone.{learns_alone}
use Rattle.floor_laws.proofs.table.nodes.Calls.{told}
use Rattle.floor_laws.proofs.table.nodes.Elements.{elements_kept, elements_put, map_put, map_set, take_there}
use Rattle.floor_laws.proofs.table.nodes.Seen.{waits_id}
use Rattle.floor_laws.proofs.table.nodes.Ties.{keeps_after, same_floor, tree_is}

module _ (nodes : List (List Elem)) (p : Program) (lim : Bounds) (s : TreeTable) (kept : TreeKeeps nodes p lim s) (id : ℕ) (v : TreeView) (at : get_elem? s.views id ≡ core.some v)
    (live : v.floor.kind ≢ Spent) (u : ℕ) (below : u < lim.tasks) where
  abbrev fs : Table
  fs = floor_part p lim s

  abbrev f : Floor
  f = floor_shown p lim s

  abbrev tree : Tree
  tree = tree_of p lim s

  abbrev log : List NumberedEntry
  log = kept.floor.log

  abbrev found : ℕ
  found = slice_index s.words (phase_place p u)

  at_floor : get_elem? fs.views id ≡ core.some v.floor
  at_floor = at_map floor_view s.views id v at

  -- the word that is found is that of the floor
  within : phase_place p u < length s.words
  within = let size = kept.words in omega (arith, size, below)

  within_floor : phase_place p u < length fs.words
  within_floor = let size = kept.floor.words in omega (arith, size, below)

  found_there : get_elem? s.words (phase_place p u) ≡ core.some found
  found_there = word_at s.words (phase_place p u) within

  found_floor : get_elem? fs.words (phase_place p u) ≡ core.some found
  found_floor = take_there s.words (word_count p lim) (phase_place p u) (omega (arith, below)) ∙ found_there

  found_same : slice_index fs.words (phase_place p u) ≡ found
  found_same = some-injective (slice_index fs.words (phase_place p u)) found (sym (word_at fs.words (phase_place p u) within_floor) ∙ found_floor)

  phase_shown : f.phases u ≡ phase_of_word found
  phase_shown = ap phase_word_at found_floor

  -- what the floor tells
  abbrev Told : ℕ → Type 0
  Told n = IsOwnPhase (v.floor, []) u n × (n < 2 ^ 32) × WaitsAbove lim u n

  told_floor : found < 18446744073709551616 → Told found
  told_floor small =
      let result = load_phase_allowed p lim id u v.floor [] live below fs kept.floor kept.floor.slots at_floor (subst (λ (n : ℕ). n < 18446744073709551616) (sym found_same) small) in
      subst Told found_same (result.4.0, result.4.1, result.4.2)

  -- the table after the seat has another view
  abbrev with_view : TreeView → TreeTable
  with_view w = record { words = s.words; homes = s.homes; views = slice_set s.views id w }

  loaded : (mine : List (ℕ × TreeSlot)) (w : TreeView) → stepped s (phase_place p u) found id mine w keeps ≡ with_view w
  loaded mine w = let words = set_same s.words (phase_place p u) found found_there in λ k. record { words = words k; homes = s.homes; views = slice_set s.views id w }

  -- the seat once it has looked
  abbrev after_look : TreeView
  after_look = looked_view v (AtPhase u found)

  looked_tie : tree_of p lim (with_view after_look) ≡ tree
  looked_tie =
      let w = after_look in
      tree_is _ tree refl refl (elements_kept activity_at s.views id v w at refl) (elements_kept kept_at s.views id v w at refl) (elements_kept placed_at s.views id v w at refl)
      (elements_kept removed_at s.views id v w at refl)
      (elements_kept fresh_at s.views id v w at refl)
      (elements_kept clear_at s.views id v w at refl)
      (elements_kept waits_at s.views id v w at refl)

  nothing_learned : TreeKeeps nodes p lim (with_view after_look)
  nothing_learned =
      let views = map_set floor_view s.views id v after_look at refl in
      let floor : floor_part p lim (with_view after_look) ≡ fs = λ k. record { words = fs.words; homes = fs.homes; views = views k } in
      keeps_after nodes p lim s kept (with_view after_look) tree kept.core refl refl floor looked_tie kept.both.nodes_keep kept.bare kept.deciders

  -- Task u waits.
  module _ (t : ℕ) (is : phase_of_word found ≡ Waits t) where
    abbrev IsTrueWait : WaitFact → Type 0
    IsTrueWait fact = WaitsOnUnlessDone (state_after p lim (journal_of log)).links fact.waiter fact.awaited

    true_of : (w : ℕ) → IsKnownToWait (tree.waits id) w u → IsTrueWait (record { waiter = w; awaited = t })
    true_of w known =
        let fact : WaitFact = record { waiter = w; awaited = t } in
        let keep = following nodes p lim log f tree kept.core kept.both id w u t known (phase_shown ∙ is) in
        keep.known.waits_hold id fact (subst (IsAmong fact) (sym (put_here tree.waits id (fact ∷ tree.waits id))) (inl refl))

    led_true : (facts : List WaitFact) → ((x : WaitFact) → IsAmong x facts → IsAmong x (tree.waits id)) → (x : WaitFact) → IsAmong x (led_on u t facts) → IsTrueWait x
    led_true [] sub x among = absurd among
    led_true (fact ∷ facts) sub x among = by (led_true facts (λ y later. sub y (inr later)) x) (fact.awaited == u) refl among
      where
        by : (IsAmong x (led_on u t facts) → IsTrueWait x) → (b : Bool) → (fact.awaited == u) ≡ b
            → IsAmong x (if b then record { waiter = fact.waiter; awaited = t } ∷ fact ∷ led_on u t facts else fact ∷ led_on u t facts) → IsTrueWait x
        by rest true same (inl first) =
            let one : fact.awaited ≡ u = (Decides-eqb fact.awaited u).0 same in
            let known : IsAmong (record { waiter = fact.waiter; awaited = u }) (tree.waits id) = sub (record { waiter = fact.waiter; awaited = u }) (inl (λ k. record { waiter = fact.waiter; awaited = sym one k })) in
            subst IsTrueWait (sym first) (true_of fact.waiter (inr known))
        by rest true same (inr (inl old)) = kept.both.nodes_keep.known.waits_hold id x (sub x (inl old))
        by rest true same (inr (inr later)) = rest later
        by rest false same (inl old) = kept.both.nodes_keep.known.waits_hold id x (sub x (inl old))
        by rest false same (inr later) = rest later

    all_true : (x : WaitFact) → IsAmong x (followed u t v.waits) → IsTrueWait x
    all_true x (inl first) = subst IsTrueWait (sym first) (true_of u (inl refl))
    all_true x (inr later) = led_true v.waits (λ y among. subst (IsAmong y) (sym (waits_id nodes p lim s id v at)) among) x later

    abbrev after_waits : Tree
    after_waits = record tree { waits = put tree.waits id (followed u t v.waits) }

    waits_keep : KeepsNodes nodes p lim log f after_waits kept.core
    waits_keep =
        let keep = kept.both.nodes_keep in
        record {
          reached = keep.reached;
          tasks = keep.tasks;
          activities = keep.activities;
          locks = keep.locks;
          contents = keep.contents;
          records = keep.records;
          known = record {
            owned = keep.known.owned;
            first_fresh = keep.known.first_fresh;
            fresh_stand = keep.known.fresh_stand;
            clear_are = keep.known.clear_are;
            waits_hold = put_all (λ j waits. (fact : WaitFact) → IsAmong fact waits → IsTrueWait fact) tree.waits id (followed u t v.waits) all_true (λ j other. keep.known.waits_hold j);
          };
        }

    waits_tie : tree_of p lim (with_view (waits_view after_look u t)) ≡ after_waits
    waits_tie =
        let w = waits_view after_look u t in
        tree_is _ after_waits refl refl (elements_kept activity_at s.views id v w at refl) (elements_kept kept_at s.views id v w at refl) (elements_kept placed_at s.views id v w at refl)
        (elements_kept removed_at s.views id v w at refl)
        (elements_kept fresh_at s.views id v w at refl)
        (elements_kept clear_at s.views id v w at refl)
        (elements_put waits_at s.views id v w at (followed u t v.waits) refl)

    waits_learned : TreeKeeps nodes p lim (with_view (waits_view after_look u t))
    waits_learned =
        let views = map_set floor_view s.views id v (waits_view after_look u t) at refl in
        let floor : floor_part p lim (with_view (waits_view after_look u t)) ≡ fs = λ k. record { words = fs.words; homes = fs.homes; views = views k } in
        keeps_after nodes p lim s kept (with_view (waits_view after_look u t)) after_waits kept.core refl refl floor waits_tie waits_keep kept.bare kept.deciders

  -- Task u is done.
  module _ (value : ℤ) (rule : KeepsRule p lim log (after_finding_done f id u value)) where
    abbrev w : TreeView
    w = done_view after_look u value

    abbrev floor_then : Table
    floor_then = record { words = fs.words; homes = fs.homes; views = slice_set fs.views id w.floor }

    part_tie : floor_part p lim (with_view w) ≡ floor_then
    part_tie = let views = map_put floor_view s.views id w in λ k. record { words = fs.words; homes = fs.homes; views = views k }

    done_tie : floor_of p floor_then ≡ after_finding_done f id u value
    done_tie =
        floor_is _ (after_finding_done f id u value) refl refl refl refl refl refl (seats_kept worker_at fs.views id v.floor w.floor at_floor refl) (seats_kept part_at fs.views id v.floor w.floor at_floor refl)
        (seats_kept turns_at fs.views id v.floor w.floor at_floor refl)
        (seats_kept segment_at fs.views id v.floor w.floor at_floor refl)
        (seats_put seat_facts_at fs.views id v.floor w.floor at_floor (record { task = u; value = value } ∷ f.facts id) (ap (λ (o : core.Option View). record { task = u; value = value } ∷ seat_facts_at o) (sym at_floor)))

    tree_stays : tree_of p lim (with_view w) ≡ tree
    tree_stays =
        tree_is _ tree refl refl (elements_kept activity_at s.views id v w at refl) (elements_kept kept_at s.views id v w at refl) (elements_kept placed_at s.views id v w at refl)
        (elements_kept removed_at s.views id v w at refl)
        (elements_kept fresh_at s.views id v w at refl)
        (elements_kept clear_at s.views id v w at refl)
        (elements_kept waits_at s.views id v w at refl)

    both_then : KeepsBoth nodes p lim log (floor_of p floor_then) (tree_of p lim (with_view w)) kept.core
    both_then = record {
      well = kept.both.well;
      effects = kept.both.effects;
      paths = kept.both.paths;
      floor = subst (KeepsRule p lim log) (sym done_tie) rule;
      nodes_keep = subst (λ (t : Tree). KeepsNodes nodes p lim log (floor_of p floor_then) t kept.core) (sym tree_stays)
          (floor_same nodes p lim log f tree kept.core kept.both.nodes_keep (floor_of p floor_then) (seats_kept turns_at fs.views id v.floor w.floor at_floor refl)
          (seats_kept worker_at fs.views id v.floor w.floor at_floor refl));
    }

    done_learned : TreeKeeps nodes p lim (with_view w)
    done_learned =
        let again = same_floor p lim floor_then (floor_part p lim (with_view w)) part_tie
        (record {
          well = kept.floor.well;
          keeps = kept.floor.keeps;
          within = kept.floor.within;
          words = kept.floor.words;
          slots = kept.floor.slots;
          cells = kept.floor.cells;
          seats = seats_after fs.views kept.floor.seats id v.floor w.floor at_floor live refl refl;
          log = log;
          rule = subst (KeepsRule p lim log) (sym done_tie) rule;
        }) in
        record {
          words = kept.words;
          slots = kept.slots;
          floor = again.0;
          core = kept.core;
          both = subst (λ (l : List NumberedEntry). KeepsBoth nodes p lim l (floor_shown p lim (with_view w)) (tree_of p lim (with_view w)) kept.core) (sym again.1)
              (subst (λ (g : Table). KeepsBoth nodes p lim log (floor_of p g) (tree_of p lim (with_view w)) kept.core) (sym part_tie) both_then);
          bare = kept.bare;
          deciders = subst (λ (l : List NumberedEntry). DecidersAreSo p lim s.words (tree_of p lim (with_view w)) (state_after p lim (journal_of l)).links) (sym again.1)
              (subst (λ (t : Tree). DecidersAreSo p lim s.words t (state_after p lim (journal_of log)).links) (sym tree_stays) kept.deciders);
        }

  -- The step.
  learned : (mine : List (ℕ × TreeSlot)) (phase : Phase) → phase_of_word found ≡ phase → (w : TreeView) × TreeKeeps nodes p lim (with_view w) × Learns phase (after_look, mine) u (w, mine)
  learned mine Absent is = (after_look, nothing_learned, refl)
  learned mine Made is = (after_look, nothing_learned, refl)
  learned mine Running is = (after_look, nothing_learned, refl)
  learned mine (Waits t) is = (waits_view after_look u t, waits_learned t is, refl)
  learned mine Done is =
      let done = find_done p kept.floor.well kept.floor.keeps lim log f kept.floor.rule id u (phase_shown ∙ is) in
      (done_view after_look u done.0, done_learned done.0 done.2, (done.0, refl))
  learned mine Faulted is = (after_look, nothing_learned, refl)

  pub follow_step : (mine : List (ℕ × TreeSlot)) → found < 18446744073709551616
      → (w : TreeView) × (a : Act TreeSlot) × Valid s.homes mine a × TreeKeeps nodes p lim (stepped s (phase_place p u) found id mine w a) × (FollowedPhase lim (v, mine) u found (w, carried_after mine a) × LearnsAlone p lim v u found)
  follow_step mine small =
      let learns = learned mine (phase_of_word found) refl in
      let tells = told_floor small in
      (learns.0, keeps, tt, subst (TreeKeeps nodes p lim) (sym (loaded mine learns.0)) learns.1, ((tells.0, tells.1, tells.2, learns.2), learns_alone nodes p lim s kept id v at u below))

pub follow : (nodes : List (List Elem)) (p : Program) (lim : Bounds) (id u : ℕ) (v : TreeView) (mine : List (ℕ × TreeSlot)) → v.floor.kind ≢ Spent → u < lim.tasks
    → Allows (TreeKeeps nodes p lim) (tree_slot_count nodes lim) id (v, mine) (phase_place p u) (λ n. n)
    (FollowsWait p lim (step (tree_slot_count nodes lim) (phase_place p u) 0 0 core.none) (v, mine))
follow nodes p lim id u v mine live below =
    told (TreeKeeps nodes p lim) (tree_slot_count nodes lim) id (v, mine) (phase_place p u) (λ n. n) (λ n after. FollowedPhase lim (v, mine) u n after × LearnsAlone p lim v u n)
    (FollowsWait p lim (step (tree_slot_count nodes lim) (phase_place p u) 0 0 core.none) (v, mine))
    (λ n after learned t place. let same : u ≡ t = omega (arith, place) in subst (λ (k : ℕ). FollowedPhase lim (v, mine) k n after × LearnsAlone p lim v k n) same learned)
    (λ s kept count at small. follow_step nodes p lim s kept id v at live u below mine small)
