-- Giving a turn on a table with nodes. The seat forgets what it knows of records of the task.
use Rattle.std.proofs.Common.{◌≡◌, ◌≢◌, ◌<◌, ℕ, List, map, None, refl, sym, ap, subst, ◌∙◌, arith}
use mathlib.Core.Option as core
use lib.ListN.{get_elem?}
use Rattle.atomic_table.specs.Table.{Allows, step}
use Rattle.region_paths.specs.declared.elements.Elem.{Elem}
use Rattle.effect_sets.specs.declared.effects.Effect.{Effect}
use Rattle.twe_base.specs.Limits.{Bounds}
use Rattle.twe_program.specs.Program.{Program}
use Rattle.machine_state.specs.declared.state.TaskStatus.{TaskStatus}
use Rattle.machine_state.specs.declared.state.TaskStatus.TheVariants as status
use Rattle.floor_laws.specs.declared.rule.view.HeldTurn.{HeldTurn}
use Rattle.floor_laws.specs.rule.Floors.{Floor}
use Rattle.floor_laws.specs.rule.Steps.{after_giving}
use Rattle.floor_laws.proofs.rule.Puts.{some_one}
use Rattle.floor_laws.specs.declared.table.view.SeatKind.TheVariants.{Spent}
use Rattle.floor_laws.specs.table.FloorOf.{turn_in}
use Rattle.floor_laws.specs.table.Layout.{free_word, turn_place}
use Rattle.floor_laws.specs.table.Plays.{GivesTurn}
use Rattle.floor_laws.specs.table.Tells.{GaveTurn, Seat}
use Rattle.floor_laws.proofs.table.Calls.{give_turn}
use Rattle.floor_laws.specs.admission.admission_core.States.{IsAmong}
use Rattle.floor_laws.specs.rule.nodes.Rule.{KeepsNodes}
use Rattle.floor_laws.specs.rule.nodes.Trees.{Tree}
use Rattle.floor_laws.specs.rule.nodes.TurnSteps.{IsTaskEvent, LeavesNone, MayGiveFirst, MayGiveTaken, after_forgetting, of_others}
use Rattle.floor_laws.proofs.rule.nodes.TurnEvents.{floor_same, gives, gives_first}
use Rattle.floor_laws.specs.declared.table.nodes.slot.TreeSlot.{TreeSlot}
use Rattle.floor_laws.specs.declared.table.nodes.view.TreeView.{TreeView}
use Rattle.floor_laws.specs.table.nodes.FloorSeats.{HasTaskSlots, as_slot, floor_seat, tasks_out}
use Rattle.floor_laws.specs.table.nodes.Holds.{TreeKeeps}
use Rattle.floor_laws.specs.table.nodes.Layout.{tree_slot_count}
use Rattle.floor_laws.specs.table.nodes.Seats.{TreeSeat, tree_seen, turns_seen}
use Rattle.floor_laws.specs.table.nodes.TreeOf.{TreeTable, activity_at, clear_at, floor_shown, fresh_at, kept_at, placed_at, removed_at, tree_of, waits_at}
use Rattle.floor_laws.specs.table.nodes.TurnSeats.{GaveTreeTurn, GivesTreeTurn, MayGiveTreeTurn, MayLeaveTask, given_tree_view, gives_taken, gives_first as gives_new}
use Rattle.floor_laws.proofs.table.nodes.Calls.{one_rest}
use Rattle.floor_laws.proofs.table.nodes.Elements.{elements_kept, elements_put}
use Rattle.floor_laws.proofs.table.nodes.FloorCalls.{lift_step}
use Rattle.floor_laws.proofs.table.nodes.FloorSteps.{StepsBeside, log, nothing_drawn, seated, tree, viewed}
use Rattle.floor_laws.proofs.table.nodes.Lifts.{out_again}
use Rattle.floor_laws.proofs.table.nodes.PhaseCalls.{held_put, worker_kept}
use Rattle.floor_laws.proofs.table.nodes.Seen.{activity_id, clear_id, fresh_id, held_id}
use Rattle.floor_laws.proofs.table.nodes.Ties.{tree_is}

-- What the seat knows of the task whose turn it gives holds of the nodes that the table shows.
module _ (nodes : List (List Elem)) (p : Program) (lim : Bounds) (s : TreeTable) (id : ℕ) (v : TreeView) (at : get_elem? s.views id ≡ core.some v) where
  abbrev shown : Tree
  shown = tree_of p lim s

  abbrev floor : Floor
  floor = floor_shown p lim s

  leaves_seen : (t : ℕ) (effects : List Effect) (is : TaskStatus) → LeavesNone nodes (tree_seen v) 0 t effects is → LeavesNone nodes shown id t effects is
  leaves_seen t effects status.Made leaves = λ r among. leaves r (subst (IsAmong r) (fresh_id nodes p lim s id v at) among)
  leaves_seen t effects status.Enabled leaves = tt
  leaves_seen t effects status.Done leaves = λ e n has place. subst (IsAmong (record { task = t; effect = e; node = n })) (sym (clear_id nodes p lim s id v at)) (leaves e n has place)
  leaves_seen t effects status.Faulted leaves = λ e n has place. subst (IsAmong (record { task = t; effect = e; node = n })) (sym (clear_id nodes p lim s id v at)) (leaves e n has place)

  taken_seen : (t : ℕ) (turn : HeldTurn) → MayGiveTaken nodes (turns_seen v) (tree_seen v) 0 t turn → MayGiveTaken nodes floor.held shown id t turn
  taken_seen t turn may = record {
    has = held_id nodes p lim s id v at t ∙ may.has;
    taken = may.taken;
    idle = activity_id nodes p lim s id v at ∙ may.idle;
    children = λ c child is. may.children c child (sym (held_id nodes p lim s id v at c) ∙ is);
    leaves = leaves_seen t turn.row.effects.effects turn.row.status may.leaves;
  }

  first_seen : (t : ℕ) (turn : HeldTurn) → MayGiveFirst nodes (turns_seen v) (tree_seen v) 0 t turn → MayGiveFirst nodes floor.held shown id t turn
  first_seen t turn may = record {
    has = held_id nodes p lim s id v at t ∙ may.has;
    first = may.first;
    placed = λ spawned e has.
        let found = may.placed spawned e has in
        (found.0, found.1, subst (IsAmong (record { task = t; effect = e; node = found.0 })) (sym (fresh_id nodes p lim s id v at)) found.2);
    leaves = leaves_seen t turn.row.effects.effects turn.row.status may.leaves;
  }

module _ (nodes : List (List Elem)) (p : Program) (lim : Bounds) (id : ℕ) (v : TreeView) (mine : List (ℕ × TreeSlot)) (has : HasTaskSlots lim.tasks mine)
    (t : ℕ) (turn : HeldTurn) (rest : List (ℕ × TreeSlot)) (may : MayGiveTreeTurn nodes (v, mine) t turn rest) where
  abbrev given : TreeView
  given = given_tree_view v t turn

  module _ (s : TreeTable) (kept : TreeKeeps nodes p lim s) (at : get_elem? s.views id ≡ core.some v) where
    -- the nodes once the seat has forgotten
    forgets : seated nodes p lim s kept id v at given ≡ after_forgetting (tree nodes p lim s kept id v at) id t
    forgets =
        tree_is _ (after_forgetting (tree nodes p lim s kept id v at) id t) refl refl
        (elements_kept activity_at s.views id v given at refl)
        (elements_kept kept_at s.views id v given at refl)
        (elements_kept placed_at s.views id v given at refl)
        (elements_kept removed_at s.views id v given at refl)
        (elements_put fresh_at s.views id v given at (of_others t (fresh_at (get_elem? s.views id))) (ap (of_others t) (sym (fresh_id nodes p lim s id v at))))
        (elements_put clear_at s.views id v given at (of_others t (clear_at (get_elem? s.views id))) (ap (of_others t) (sym (clear_id nodes p lim s id v at))))
        (elements_kept waits_at s.views id v given at refl)

    event : MayLeaveTask nodes v t turn
        → IsTaskEvent nodes p lim (log nodes p lim s kept id v at) (after_giving (floor_shown p lim s) id t turn) (after_forgetting (tree nodes p lim s kept id v at) id t) kept.core
    event (gives_taken may_take) =
        gives nodes p lim (log nodes p lim s kept id v at) (floor_shown p lim s) (tree nodes p lim s kept id v at) kept.core kept.both id t turn (taken_seen nodes p lim s id v at t turn may_take)
    event (gives_new may_make) =
        gives_first nodes p lim (log nodes p lim s kept id v at) (floor_shown p lim s) (tree nodes p lim s kept id v at) kept.core kept.both id t turn (first_seen nodes p lim s id v at t turn may_make)

    gives_beside : StepsBeside nodes p lim s kept id v at (turn_place p t) free_word given
    gives_beside = by (event may.leaves)
      where
        by : IsTaskEvent nodes p lim (log nodes p lim s kept id v at) (after_giving (floor_shown p lim s) id t turn) (after_forgetting (tree nodes p lim s kept id v at) id t) kept.core
            → StepsBeside nodes p lim s kept id v at (turn_place p t) free_word given
        by (tasks, step, nodes_keep) = (
          log nodes p lim s kept id v at,
          nothing_drawn nodes p lim s kept id v at (turn_place p t) free_word given.floor (λ same. omega (arith, same)) refl,
          record kept.core { tasks = tasks },
          floor_same nodes p lim (log nodes p lim s kept id v at) (after_giving (floor_shown p lim s) id t turn) (seated nodes p lim s kept id v at given) (record kept.core { tasks = tasks })
              (subst (λ (x : Tree). KeepsNodes nodes p lim (log nodes p lim s kept id v at) (after_giving (floor_shown p lim s) id t turn) x (record kept.core { tasks = tasks })) (sym forgets) nodes_keep)
              (viewed nodes p lim s kept id v at given.floor)
              (held_put nodes p lim id v mine has s kept at t None given.floor refl) (worker_kept nodes p lim id v mine has s kept at given.floor refl),
          λ a b waits. waits,
          refl,
        )

  -- There is one turn to give.
  gave_one : (after : TreeSeat) (u : ℕ) (other : HeldTurn) (left : List (ℕ × TreeSlot)) → t ≡ u → MayGiveTreeTurn nodes (v, mine) u other left → GaveTreeTurn (v, mine) t turn rest after
      → GaveTreeTurn (v, mine) u other left after
  gave_one after u other left same may_too gave =
      let turns : turn ≡ other = some_one (sym may.floor.has ∙ (ap (turn_in v.floor.turns) same ∙ may_too.floor.has)) in
      let rests : rest ≡ left = one_rest _ _ rest left (sym may.slot ∙ may_too.slot) in
      subst (λ (k : ℕ). GaveTreeTurn (v, mine) k other left after) same
      (subst (λ (h : HeldTurn). GaveTreeTurn (v, mine) t h left after) turns (subst (λ (l : List (ℕ × TreeSlot)). GaveTreeTurn (v, mine) t turn l after) rests gave))

  pub give_tree_turn : v.floor.kind ≢ Spent → t < lim.tasks
      → Allows (TreeKeeps nodes p lim) (tree_slot_count nodes lim) id (v, mine) (turn_place p t) (λ n. free_word)
      (λ n. GivesTreeTurn nodes p (step (tree_slot_count nodes lim) (turn_place p t) free_word 0 core.none) (v, mine) free_word)
  give_tree_turn live below =
      lift_step nodes p lim id v mine has (tree_slot_count nodes lim) (turn_place p t) (λ n. free_word)
      (λ n. GivesTurn p (step lim.tasks (turn_place p t) free_word 0 core.none) (floor_seat (v, mine)) free_word)
      (λ n. GivesTreeTurn nodes p (step (tree_slot_count nodes lim) (turn_place p t) free_word 0 core.none) (v, mine) free_word) (omega (arith, below))
      (give_turn p lim id t v.floor (tasks_out mine) (tasks_out rest) turn live below may.floor)
      (λ s kept at me a keep tell.
      let gave : GaveTurn (floor_seat (v, mine)) t turn (tasks_out rest) me = tell t turn (tasks_out rest) refl may.floor in
      let out : HasTaskSlots lim.tasks rest = (subst (HasTaskSlots lim.tasks) may.slot has).1 in
      let left : map as_slot me.1 ≡ rest = ap (λ (x : Seat). map as_slot x.1) gave ∙ sym (out_again lim.tasks rest out) in (
        given,
        sym (ap (λ (x : Seat). x.0) gave),
        gives_beside s kept at,
        λ u other more place may_too. gave_one (given, map as_slot me.1) u other more (omega (arith, place)) may_too (ap (λ (l : List (ℕ × TreeSlot)). (given, l)) left),
      ))
