-- A task in hand goes on, or does not: what the stand knows of it, beside the nodes.
use Rattle.std.proofs.Common.{◌≡◌, ◌≢◌, ◌<◌, ◌⊎◌, ℕ, ℤ, List, Some, sym, ap, subst, ◌∙◌, inl, inr, ⊎_elim, arith}
use Rattle.region_paths.specs.declared.elements.Elem.{Elem}
use Rattle.effect_sets.specs.declared.effects.Effect.{Effect}
use Rattle.twe_base.specs.Limits.{Bounds}
use Rattle.seg_meaning.specs.declared.frame.Frame.{Frame}
use Rattle.machine_state.specs.declared.state.TaskRow.{TaskRow}
use Rattle.machine_state.specs.declared.state.TaskStatus.{TaskStatus}
use Rattle.machine_state.specs.declared.state.TaskStatus.TheVariants as status
use Rattle.machine_state.specs.Rows.{row_awaited}
use Rattle.floor_laws.specs.declared.rule.view.HeldTurn.{HeldTurn}
use Rattle.floor_laws.specs.declared.rule.view.Phase.{Phase}
use Rattle.floor_laws.specs.declared.rule.view.Phase.TheVariants as phases
use Rattle.floor_laws.specs.rule.Rows.{phase_of}
use Rattle.floor_laws.proofs.rule.Puts.{some_one}
use Rattle.floor_laws.specs.table.FloorOf.{turn_in}
use Rattle.floor_laws.specs.table.Layout.{word_of_phase}
use Rattle.floor_laws.specs.table.Tells.{StoredPhase, with_turn}
use Rattle.floor_laws.specs.table.Added.{HasGrown}
use Rattle.floor_laws.proofs.table.Added.{grown_then}
use Rattle.floor_laws.proofs.table.Steps.{phase_again}
use Rattle.task_floor.specs.steps.Resuming.{HasInHand, KnowsMore, KnowsValue}
use Rattle.task_floor.proofs.steps.InHand.{found_more, found_phase, in_hand_more, more_moves, moves_more, status_waits, stored_moves}
use Rattle.floor_laws.specs.admission.admission_core.States.{IsAmong}
use Rattle.floor_laws.specs.rule.nodes.TurnSteps.{HasPlacedChildren, LeavesNone, of_others}
use Rattle.floor_laws.specs.declared.table.nodes.view.TreeView.{TreeView}
use Rattle.floor_laws.specs.table.nodes.FloorSeats.{HasTaskSlots, floor_seat}
use Rattle.floor_laws.specs.table.nodes.Follows.{FollowedPhase}
use Rattle.floor_laws.specs.table.nodes.Seats.{TreeSeat, tree_seen, turns_seen}
use Rattle.task_floor.specs.Resuming.{KnowsEnough, KnowsMoreBeside, MovesOnBeside}
use Rattle.task_floor.specs.Stands.{StaysInTree}
use Rattle.task_floor.proofs.LeavingTasks.{children_stored, seat_is, with_phase}
use Rattle.task_floor.proofs.Looking.{clear_same, found_floor, has_looked, view_with_clear}

-- What is asked of nodes depends on few of the things that a stand knows.

leaves_same : (nodes : List (List Elem)) (v w : TreeView) (t : ℕ) (effects : List Effect) (is : TaskStatus) → w.fresh ≡ v.fresh → w.clear ≡ v.clear → LeavesNone nodes (tree_seen v) 0 t effects is
    → LeavesNone nodes (tree_seen w) 0 t effects is
leaves_same nodes v w t effects status.Made fresh clear leaves = λ r among. leaves r (subst (IsAmong r) fresh among)
leaves_same nodes v w t effects status.Enabled fresh clear leaves = tt
leaves_same nodes v w t effects status.Done fresh clear leaves = λ e n has place. subst (IsAmong (record { task = t; effect = e; node = n })) (sym clear) (leaves e n has place)
leaves_same nodes v w t effects status.Faulted fresh clear leaves = λ e n has place. subst (IsAmong (record { task = t; effect = e; node = n })) (sym clear) (leaves e n has place)

children_same : (v w : TreeView) (t : ℕ) → ((u : ℕ) → turn_in w.floor.turns u ≡ turn_in v.floor.turns u) → HasPlacedChildren (turns_seen v) 0 t → HasPlacedChildren (turns_seen w) 0 t
children_same v w t turns placed c child has first = placed c child (sym (turns c) ∙ has) first

pub enabled_leaves : (nodes : List (List Elem)) (v : TreeView) (t : ℕ) (row : TaskRow) → row.status ≡ status.Enabled → LeavesNone nodes (tree_seen v) 0 t row.effects.effects row.status
enabled_leaves nodes v t row enabled = subst (LeavesNone nodes (tree_seen v) 0 t row.effects.effects) (sym enabled) tt

-- The phase was loaded.
module _ (nodes : List (List Elem)) (lim : Bounds) (a b : TreeSeat) (t : ℕ) (phase : Phase) (looks : FollowedPhase lim a t (word_of_phase phase) b) where
  looked_more_floor : KnowsMore (floor_seat a) (floor_seat b)
  looked_more_floor = found_more lim (floor_seat a) (floor_seat b) t (word_of_phase phase) (found_floor lim a b t (word_of_phase phase) looks)

  pub looked_in_hand : (turn : HeldTurn) (frame : Frame) → HasInHand (floor_seat a) t turn frame → HasInHand (floor_seat b) t turn frame
  looked_in_hand turn frame hand = in_hand_more (floor_seat a) (floor_seat b) t turn frame looked_more_floor hand

  -- the turn in hand is the same as before
  pub was_in_hand : (turn other : HeldTurn) (frame : Frame) → HasInHand (floor_seat a) t turn frame → HasInHand (floor_seat b) t other frame → HasInHand (floor_seat a) t other frame
  was_in_hand turn other frame hand later = record {
    has = sym (looked_more_floor.turns t) ∙ later.has;
    taken = later.taken;
    phase = later.phase;
    frame_is = later.frame_is;
    latest = hand.latest;
    closed = hand.closed;
  }

  pub looked_phase : (turn : HeldTurn) (frame : Frame) → HasInHand (floor_seat a) t turn frame → phase_of turn.row ≡ phase
  looked_phase turn frame hand = found_phase lim (floor_seat a) (floor_seat b) t phase turn frame hand (found_floor lim a b t (word_of_phase phase) looks)

  pub looked_enough : (row : TaskRow) → KnowsEnough nodes a.0 t row → KnowsEnough nodes b.0 t row
  looked_enough row enough =
      let seen = has_looked lim a b t (word_of_phase phase) looks in
      record {
        idle = ap (λ (v : TreeView). v.activity) seen.view ∙ enough.idle;
        children = children_same a.0 b.0 t looked_more_floor.turns enough.children;
        leaves = leaves_same nodes a.0 b.0 t row.effects.effects row.status (ap (λ (v : TreeView). v.fresh) seen.view) (clear_same a b seen) enough.leaves;
      }

  pub looked_moves : MovesOnBeside a b t
  looked_moves =
      let seen = has_looked lim a b t (word_of_phase phase) looks in
      record {
        floor = moves_more (floor_seat a) (floor_seat b) t looked_more_floor;
        waits = seen.waits;
        looks = seen.looks;
        clear = inl (clear_same a b seen);
        view = view_with_clear a b seen;
        out = seen.out;
      }

  -- whom the task waits for
  pub looked_above : (on : ℕ) → phase ≡ phases.Waits on → (on < lim.tasks) × (t < on)
  looked_above on is = let above = looks.2 on (phase_again phase ∙ is) in (above.1, above.0)

  pub then_moves : (c : TreeSeat) → MovesOnBeside b c t → MovesOnBeside a c t
  then_moves c moves =
      let seen = has_looked lim a b t (word_of_phase phase) looks in
      let same = clear_same a b seen in
      record {
        floor = more_moves (floor_seat a) (floor_seat b) (floor_seat c) t looked_more_floor moves.floor;
        waits = λ fact among. moves.waits fact (seen.waits fact among);
        looks = grown_then a.0.looks b.0.looks c.0.looks seen.looks moves.looks;
        clear = ⊎_elim (λ (kept : c.0.clear ≡ b.0.clear). inl (kept ∙ same))
            (λ (forgot : (u : ℕ) × (u ≢ t) × (c.0.clear ≡ of_others u b.0.clear)). inr (forgot.0, forgot.1, forgot.2 ∙ ap (of_others forgot.0) same)) moves.clear;
        view = moves.view ∙ ap (λ (v : TreeView). record v { floor = c.0.floor; waits = c.0.waits; clear = c.0.clear; looks = c.0.looks }) seen.view;
        out = moves.out ∙ seen.out;
      }

-- The value of the awaited task was looked for.
module _ (nodes : List (List Elem)) (a b : TreeSeat) (t on : ℕ) (turn : HeldTurn) (frame : Frame) (below : t < on) (hand : HasInHand (floor_seat a) t turn frame) (waits : phase_of turn.row ≡ phases.Waits on)
    (more : KnowsMoreBeside a b on) where
  awaits_other : on ≢ t
  awaits_other same = omega (arith, same, below)

  enabled : turn.row.status ≡ status.Enabled
  enabled = (status_waits turn.row.status (row_awaited turn.row.frame.next) on waits).0

  pub still_in_hand : HasInHand (floor_seat b) t turn frame
  still_in_hand = in_hand_more (floor_seat a) (floor_seat b) t turn frame more.floor hand

  pub enough_still : KnowsEnough nodes a.0 t turn.row → KnowsEnough nodes b.0 t turn.row
  enough_still enough = record {
    idle = ap (λ (v : TreeView). v.activity) more.view ∙ enough.idle;
    children = children_same a.0 b.0 t more.floor.turns enough.children;
    leaves = enabled_leaves nodes b.0 t turn.row enabled;
  }

  clear_kept : (c : TreeSeat) → c.0.clear ≡ b.0.clear → (c.0.clear ≡ a.0.clear) ⊎ ((u : ℕ) × (u ≢ t) × (c.0.clear ≡ of_others u a.0.clear))
  clear_kept c same =
      ⊎_elim (λ (kept : b.0.clear ≡ a.0.clear). inl (same ∙ kept)) (λ (forgot : b.0.clear ≡ of_others on a.0.clear). inr (on, awaits_other, same ∙ forgot)) more.clear

  -- it was found, and the phase word says that the task runs
  module _ (lim : Bounds) (c : TreeSeat) (value : ℤ) (known : KnowsValue (floor_seat b) on value) (has : HasTaskSlots lim.tasks b.1) (stays : StaysInTree lim b c)
      (stored : StoredPhase (floor_seat b) t turn phases.Running (floor_seat c)) where
    seat_now : c ≡ (with_phase b.0 t turn phases.Running, b.1)
    seat_now = seat_is lim b c (with_turn b.0.floor t (Some (record turn { phase = phases.Running }))) has stays stored

    view_now : c.0 ≡ with_phase b.0 t turn phases.Running
    view_now = ap (λ (m : TreeSeat). m.0) seat_now

    pub enough_now : KnowsEnough nodes a.0 t turn.row → KnowsEnough nodes c.0 t turn.row
    enough_now enough =
        let before = enough_still enough in
        record {
          idle = ap (λ (v : TreeView). v.activity) view_now ∙ before.idle;
          children = subst (λ (v : TreeView). HasPlacedChildren (turns_seen v) 0 t) (sym view_now) (children_stored b.0 t turn phases.Running still_in_hand.has before.children);
          leaves = enabled_leaves nodes c.0 t turn.row enabled;
        }

    pub moves_now : MovesOnBeside a c t
    moves_now = record {
      floor = more_moves (floor_seat a) (floor_seat b) (floor_seat c) t more.floor (stored_moves (floor_seat b) (floor_seat c) t on value turn frame still_in_hand waits known stored);
      waits = λ fact among. subst (λ (v : TreeView). IsAmong fact v.waits) (sym view_now) (more.waits fact among);
      looks = subst (λ (v : TreeView). HasGrown a.0.looks v.looks) (sym view_now) more.looks;
      clear = clear_kept c (ap (λ (v : TreeView). v.clear) view_now);
      view = view_c;
      out = ap (λ (m : TreeSeat). m.1) seat_now ∙ more.out;
    }
      where
        view_c : c.0 ≡ record a.0 { floor = c.0.floor; waits = c.0.waits; clear = c.0.clear; looks = c.0.looks }
        view_c =
            let stay : c.0 ≡ record b.0 { floor = c.0.floor; waits = c.0.waits; clear = c.0.clear; looks = c.0.looks } = λ k. record c.0 {
              activity = (view_now k).activity;
              kept = (view_now k).kept;
              placed = (view_now k).placed;
              removed = (view_now k).removed;
              fresh = (view_now k).fresh;
            } in
            stay ∙ ap (λ (v : TreeView). record v { floor = c.0.floor; waits = c.0.waits; clear = c.0.clear; looks = c.0.looks }) more.view

-- there is one turn in hand
pub same_enough : (nodes : List (List Elem)) (a : TreeSeat) (t : ℕ) (turn later : HeldTurn) (frame : Frame) → HasInHand (floor_seat a) t turn frame → HasInHand (floor_seat a) t later frame → KnowsEnough nodes a.0 t turn.row
    → KnowsEnough nodes a.0 t later.row
same_enough nodes a t turn later frame one two enough = subst (λ (h : HeldTurn). KnowsEnough nodes a.0 t h.row) (some_one (sym one.has ∙ two.has)) enough
