-- Taking a turn on a table with nodes. If the task is not enabled, no record of it stands, and the seat knows that.
use Rattle.std.proofs.Common.{◌≡◌, ◌≢◌, ◌<◌, ℕ, Bool, true, false, List, ◌∷◌, map, Option, Some, None, if◌then◌else◌, refl, sym, ap, subst, ◌∙◌, inl, inr, ⊎_elim, arith, eq-eqb, ne_eqb}
use Rattle.std.specs.Prelude.{◌==◌, slice_index}
use Rattle.std.proofs.lemmas.Bool.{cases_eq}
use mathlib.Core.Option as core
use lib.ListN.{get_elem?}
use prog.Atomic.{either}
use Rattle.atomic_table.specs.Table.{Act, Allows, step, stepped}
use Rattle.region_paths.specs.declared.elements.Elem.{Elem}
use Rattle.twe_base.specs.Limits.{Bounds}
use Rattle.twe_program.specs.Program.{Program}
use Rattle.machine_state.specs.Runs.{state_after}
use Rattle.seg_journal.specs.declared.numbered.NumberedEntry.{NumberedEntry}
use Rattle.seg_journal.specs.Merging.{journal_of}
use Rattle.floor_laws.specs.declared.rule.view.HeldTurn.{HeldTurn}
use Rattle.floor_laws.specs.declared.rule.view.TaskSlot.{TaskSlot}
use Rattle.floor_laws.specs.rule.Fitting.{RowIs}
use Rattle.floor_laws.specs.rule.Floors.{Floor, Free}
use Rattle.floor_laws.specs.rule.Steps.{after_taking}
use Rattle.floor_laws.proofs.rule.Puts.{none_some, some_one}
use Rattle.floor_laws.specs.declared.table.view.SeatKind.TheVariants.{Spent}
use Rattle.floor_laws.specs.declared.table.view.View.{View}
use Rattle.floor_laws.specs.table.Alone.{IsFreeIfAlone}
use Rattle.floor_laws.specs.table.FloorOf.{turn_in, turns_at}
use Rattle.floor_laws.specs.table.Holds.{TableKeeps}
use Rattle.floor_laws.specs.table.Layout.{clock_place, free_word, taken_word, turn_of_word, turn_place, turn_word_at, word_count}
use Rattle.floor_laws.specs.table.Plays.{TriesTurn}
use Rattle.floor_laws.specs.table.Tells.{Seat, TookTurn, TriedTurn, with_turn}
use Rattle.floor_laws.proofs.table.Calls.{try_turn}
use Rattle.floor_laws.proofs.table.Elements.{at_here, word_at}
use Rattle.floor_laws.specs.admission.admission_core.States.{IsAmong}
use Rattle.floor_laws.specs.rule.nodes.Rule.{KeepsNodes}
use Rattle.floor_laws.specs.rule.nodes.Taking.{after_taking_up, clear_after_taking}
use Rattle.floor_laws.specs.rule.nodes.Trees.{Tree}
use Rattle.floor_laws.specs.rule.nodes.TurnSteps.{HasPlacedChildren, IsTaskEvent}
use Rattle.floor_laws.proofs.rule.nodes.Takings.{children_placed_free, given_as_taken, none_fresh, takes_clear}
use Rattle.floor_laws.proofs.rule.nodes.TurnEvents.{floor_same}
use Rattle.floor_laws.specs.declared.table.nodes.slot.TreeSlot.{TreeSlot}
use Rattle.floor_laws.specs.declared.table.nodes.view.Look.TheVariants.{AtTurn}
use Rattle.floor_laws.specs.declared.table.nodes.view.TreeView.{TreeView}
use Rattle.floor_laws.specs.table.nodes.FloorSeats.{HasTaskSlots, as_slot, floor_seat, tasks_out}
use Rattle.floor_laws.specs.table.nodes.Holds.{TreeKeeps}
use Rattle.floor_laws.specs.table.nodes.Layout.{tree_slot_count}
use Rattle.floor_laws.specs.table.nodes.Looks.{looked_view}
use Rattle.floor_laws.specs.table.nodes.Seats.{TreeSeat, tree_seen, turns_seen}
use Rattle.floor_laws.specs.table.nodes.TreeOf.{TreeTable, activity_at, clear_at, floor_shown, fresh_at, kept_at, placed_at, removed_at, waits_at}
use Rattle.floor_laws.specs.table.nodes.TurnSeats.{MayGiveTreeTurn, TookTreeTurn, TriedTreeTurn, TriesTreeTurn, gives_taken, taken_tree_view}
use Rattle.floor_laws.proofs.table.nodes.Alone.{free_if_alone}
use Rattle.floor_laws.proofs.table.nodes.Elements.{elements_kept, elements_put, take_there}
use Rattle.floor_laws.proofs.table.nodes.FloorCalls.{lift_step, quiet}
use Rattle.floor_laws.proofs.table.nodes.FloorSteps.{StepsBeside, at_floor, fs, log, next_log, nothing_drawn, seated, looks_beside, tree, viewed}
use Rattle.floor_laws.proofs.table.nodes.Lifts.{out_again}
use Rattle.floor_laws.proofs.table.nodes.PhaseCalls.{held_put, worker_kept}
use Rattle.floor_laws.proofs.table.nodes.Seen.{clear_id, fresh_id, held_id}
use Rattle.floor_laws.proofs.table.nodes.Ties.{tree_is}

module _ (nodes : List (List Elem)) (p : Program) (lim : Bounds) (id : ℕ) (v : TreeView) (mine : List (ℕ × TreeSlot)) (has : HasTaskSlots lim.tasks mine) (t : ℕ) (below : t < lim.tasks) where
  -- the slots of the seat again
  taken_out : (x : ℕ × Option TaskSlot) (me : Seat) → me.1 ≡ x ∷ tasks_out mine → map as_slot me.1 ≡ as_slot x ∷ mine
  taken_out x me is = ap (map as_slot) is ∙ ap (λ (l : List (ℕ × TreeSlot)). as_slot x ∷ l) (sym (out_again lim.tasks mine has))

  module _ (s : TreeTable) (kept : TreeKeeps nodes p lim s) (at : get_elem? s.views id ≡ core.some v) (found : slice_index s.words (turn_place p t) ≡ free_word) where
    abbrev f : Floor
    f = floor_shown p lim s

    free : f.turns t ≡ Free
    free =
        let size = kept.words in
        ap turn_word_at (take_there s.words (word_count p lim) (turn_place p t) (omega (arith, below)) ∙ word_at s.words (turn_place p t) (omega (arith, size, below))) ∙ ap turn_of_word found

    no_clock : turn_place p t ≢ clock_place
    no_clock same = omega (arith, same)

    module _ (me : Seat) (a : Act (Option TaskSlot)) (keep : TableKeeps p lim (stepped (fs nodes p lim s kept id v at) (turn_place p t) (taken_word v.floor.worker) id (tasks_out mine) me.0 a))
        (took : TookTurn (floor_seat (v, mine)) me t) where
      abbrev turn : HeldTurn
      turn = took.turn

      abbrev taken : TreeView
      taken = taken_tree_view nodes v t turn

      view_is : me.0 ≡ with_turn v.floor t (Some turn)
      view_is = ap (λ (x : Seat). x.0) took.seat

      -- the row of the turn is that of the task
      row_is : RowIs (state_after p lim (journal_of (log nodes p lim s kept id v at))) t turn.row
      row_is =
          let drawn = nothing_drawn nodes p lim s kept id v at (turn_place p t) (taken_word v.floor.worker) me.0 no_clock (ap (λ (x : View). x.part) view_is) in
          let same = next_log nodes p lim s kept id v at (turn_place p t) (taken_word v.floor.worker) (tasks_out mine) me.0 a keep (log nodes p lim s kept id v at) drawn in
          let views = (fs nodes p lim s kept id v at).views in
          let held = ap (λ (o : core.Option View). turns_at o t) (at_here views id v.floor me.0 (at_floor nodes p lim s kept id v at))
          ∙ (ap (λ (x : View). turn_in x.turns t) view_is ∙ ap (λ (b : Bool). if b then Some turn else turn_in v.floor.turns t) (eq-eqb t t refl)) in
          subst (λ (l : List NumberedEntry). RowIs (state_after p lim (journal_of l)) t turn.row) same (keep.rule.fits.rows id t turn held)

      -- the nodes once the seat has learned
      learns : seated nodes p lim s kept id v at taken ≡ after_taking_up nodes (tree nodes p lim s kept id v at) id t turn.row
      learns =
          tree_is _ (after_taking_up nodes (tree nodes p lim s kept id v at) id t turn.row) refl refl
          (elements_kept activity_at s.views id v taken at refl)
          (elements_kept kept_at s.views id v taken at refl)
          (elements_kept placed_at s.views id v taken at refl)
          (elements_kept removed_at s.views id v taken at refl)
          (elements_kept fresh_at s.views id v taken at refl)
          (elements_put clear_at s.views id v taken at (clear_after_taking nodes t turn.row.status turn.row.effects.effects (clear_at (get_elem? s.views id)))
          (ap (clear_after_taking nodes t turn.row.status turn.row.effects.effects) (sym (clear_id nodes p lim s id v at))))
          (elements_kept waits_at s.views id v taken at refl)

      takes_beside : StepsBeside nodes p lim s kept id v at (turn_place p t) (taken_word v.floor.worker) taken
      takes_beside = by (takes_clear nodes p lim (log nodes p lim s kept id v at) f (tree nodes p lim s kept id v at) kept.core kept.both id t free turn row_is took.taken)
        where
          by : IsTaskEvent nodes p lim (log nodes p lim s kept id v at) (after_taking f id t turn) (after_taking_up nodes (tree nodes p lim s kept id v at) id t turn.row) kept.core
              → StepsBeside nodes p lim s kept id v at (turn_place p t) (taken_word v.floor.worker) taken
          by (tasks, event, nodes_keep) = (
            log nodes p lim s kept id v at,
            nothing_drawn nodes p lim s kept id v at (turn_place p t) (taken_word v.floor.worker) taken.floor no_clock refl,
            record kept.core { tasks = tasks },
            floor_same nodes p lim (log nodes p lim s kept id v at) (after_taking f id t turn) (seated nodes p lim s kept id v at taken) (record kept.core { tasks = tasks })
                (subst (λ (x : Tree). KeepsNodes nodes p lim (log nodes p lim s kept id v at) (after_taking f id t turn) x (record kept.core { tasks = tasks })) (sym learns) nodes_keep)
                (viewed nodes p lim s kept id v at taken.floor) (held_put nodes p lim id v mine has s kept at t (Some turn) taken.floor refl)
                (worker_kept nodes p lim id v mine has s kept at taken.floor refl),
            λ a b waits. waits,
            refl,
          )

      took_tree : TookTreeTurn nodes (v, mine) t (taken, map as_slot me.1)
      took_tree = record {
        had_none = took.had_none;
        turn = turn;
        taken = took.taken;
        phase = took.phase;
        value = took.value;
        fresh = λ r among.
            none_fresh nodes p lim (log nodes p lim s kept id v at) f (tree nodes p lim s kept id v at) kept.core kept.both id t free r (subst (IsAmong r) (sym (fresh_id nodes p lim s id v at)) among);
        children = λ c child is.
            children_placed_free nodes p lim (log nodes p lim s kept id v at) f (tree nodes p lim s kept id v at) kept.core kept.both id t free c child (held_id nodes p lim s id v at c ∙ is);
        seat = ap (λ (l : List (ℕ × TreeSlot)). (taken, l)) (taken_out _ me (ap (λ (x : Seat). x.1) took.seat));
      }

  abbrev word_after : ℕ → ℕ
  word_after n = either (n == free_word) (taken_word v.floor.worker) n

  tried : (s : TreeTable) (kept : TreeKeeps nodes p lim s) (at : get_elem? s.views id ≡ core.some v) (me : Seat) (a : Act (Option TaskSlot))
      → TableKeeps p lim (stepped (fs nodes p lim s kept id v at) (turn_place p t) (word_after (slice_index s.words (turn_place p t))) id (tasks_out mine) me.0 a)
      → TriedTurn (floor_seat (v, mine)) t (slice_index s.words (turn_place p t)) me
      → (u : TreeView) × (u.floor ≡ me.0) × StepsBeside nodes p lim s kept id v at (turn_place p t) (word_after (slice_index s.words (turn_place p t))) u
      × TriedTreeTurn nodes (v, mine) t (slice_index s.words (turn_place p t)) (u, map as_slot me.1)
  tried s kept at me a keep (inl (found, took)) =
      let word : word_after (slice_index s.words (turn_place p t)) ≡ taken_word v.floor.worker =
      ap (λ (b : Bool). either b (taken_word v.floor.worker) (slice_index s.words (turn_place p t))) (eq-eqb (slice_index s.words (turn_place p t)) free_word found) in
      let keep_taken : TableKeeps p lim (stepped (fs nodes p lim s kept id v at) (turn_place p t) (taken_word v.floor.worker) id (tasks_out mine) me.0 a) =
      subst (λ (n : ℕ). TableKeeps p lim (stepped (fs nodes p lim s kept id v at) (turn_place p t) n id (tasks_out mine) me.0 a)) word keep in (
        taken_tree_view nodes v t took.turn,
        sym (ap (λ (x : Seat). x.0) took.seat),
        subst (λ (n : ℕ). StepsBeside nodes p lim s kept id v at (turn_place p t) n (taken_tree_view nodes v t took.turn)) (sym word) (takes_beside s kept at found me a keep_taken took),
        inl (found, took_tree s kept at found me a keep_taken took),
      )
  tried s kept at me a keep (inr (other, same)) = (
    record (looked_view v (AtTurn t (slice_index s.words (turn_place p t)))) { floor = me.0 },
    refl,
    looks_beside nodes p lim s kept id v at (turn_place p t) (word_after (slice_index s.words (turn_place p t))) me.0 (AtTurn t (slice_index s.words (turn_place p t))) (λ clock. omega (arith, clock)) (ap (λ (x : Seat). x.0.part) same)
        (quiet nodes p lim id v mine has s kept at me.0 (ap (λ (x : Seat). turn_in x.0.turns) same) (ap (λ (x : Seat). x.0.worker) same)),
    inr (
      other,
      (let outs : map as_slot me.1 ≡ mine = ap (λ (x : Seat). map as_slot x.1) same ∙ sym (out_again lim.tasks mine has) in
          λ k. (record (looked_view v (AtTurn t (slice_index s.words (turn_place p t)))) { floor = (same k).0 }, outs k)),
    ),
  )

  pub try_tree_turn : v.floor.kind ≢ Spent
      → Allows (TreeKeeps nodes p lim) (tree_slot_count nodes lim) id (v, mine) (turn_place p t) (λ n. either (n == free_word) (taken_word v.floor.worker) n)
      (TriesTreeTurn nodes p lim (step (tree_slot_count nodes lim) (turn_place p t) free_word (taken_word v.floor.worker) core.none) (v, mine))
  try_tree_turn live =
      lift_step nodes p lim id v mine has (tree_slot_count nodes lim) (turn_place p t) (λ n. either (n == free_word) (taken_word v.floor.worker) n)
      (TriesTurn p (step lim.tasks (turn_place p t) free_word (taken_word v.floor.worker) core.none) (floor_seat (v, mine)))
      (TriesTreeTurn nodes p lim (step (tree_slot_count nodes lim) (turn_place p t) free_word (taken_word v.floor.worker) core.none) (v, mine)) (omega (arith, below))
      (try_turn p lim id t v.floor (tasks_out mine) live below)
      (λ s kept at me a keep tell.
      let goes = tried s kept at me a keep (tell t refl) in (
        goes.0,
        goes.1,
        goes.2,
        λ u place.
            let same : t ≡ u = omega (arith, place) in
            subst (λ (n : ℕ). TriedTreeTurn nodes (v, mine) n (slice_index s.words (turn_place p t)) (goes.0, map as_slot me.1) × IsFreeIfAlone p lim v.floor n (slice_index s.words (turn_place p t))) same
            (goes.3, free_if_alone nodes p lim s kept id v at t below),
      ))

-- A turn that was taken may be given again.
module _ (nodes : List (List Elem)) (before after : TreeSeat) (t : ℕ) (took : TookTreeTurn nodes before t after) where
  after_view : after.0 ≡ taken_tree_view nodes before.0 t took.turn
  after_view = ap (λ (x : TreeSeat). x.0) took.seat

  turn_now : turns_seen after.0 0 t ≡ Some took.turn
  turn_now = ap (λ (x : TreeView). turn_in x.floor.turns t) after_view ∙ ap (λ (b : Bool). if b then Some took.turn else turn_in before.0.floor.turns t) (eq-eqb t t refl)

  turn_other : (c : ℕ) → c ≢ t → turns_seen after.0 0 c ≡ turns_seen before.0 0 c
  turn_other c other =
      ap (λ (x : TreeView). turn_in x.floor.turns c) after_view ∙ ap (λ (b : Bool). if b then Some took.turn else turn_in before.0.floor.turns c) (ne_eqb c t other)

  children_now : HasPlacedChildren (turns_seen after.0) 0 t
  children_now c child has first =
      ⊎_elim
      (λ (same : c ≡ t).
      let one : child ≡ took.turn = some_one (sym has ∙ (ap (turns_seen after.0 0) same ∙ turn_now)) in
      absurd (false_true (sym took.taken ∙ (ap (λ (h : HeldTurn). h.first) (sym one) ∙ first))))
      (λ (other : c ≢ t). took.children c child (sym (turn_other c other) ∙ has) first)
      (cases_eq c t)
    where
      false_true : false ≡ true → ⊥
      false_true h = cc

  pub given_again : before.0.activity ≡ None → before.0.floor.segment ≡ None → MayGiveTreeTurn nodes after t took.turn before.1
  given_again idle closed = record {
    floor = record {
      has = turn_now;
      phase = took.phase;
      closed = λ s is. absurd (none_some (sym closed ∙ (sym (ap (λ (x : TreeView). x.floor.segment) after_view) ∙ is)));
      slot = ap (λ (x : TreeSeat). tasks_out x.1) took.seat;
    };
    slot = ap (λ (x : TreeSeat). x.1) took.seat;
    leaves = gives_taken
        (given_as_taken nodes (turns_seen after.0) (tree_seen after.0) 0 t took.turn before.0.clear turn_now took.taken (ap (λ (x : TreeView). x.activity) after_view ∙ idle) children_now
        (λ r among. took.fresh r (subst (λ (x : TreeView). IsAmong r x.fresh) after_view among)) (ap (λ (x : TreeView). x.clear) after_view));
  }
