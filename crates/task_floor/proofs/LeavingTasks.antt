-- A task is left beside the nodes: its phase is stored, and then its turn is given.
use Rattle.std.proofs.Common.{◌≡◌, ◌≢◌, ℕ, List, map, Some, sym, ap, subst, ◌∙◌, ⊎_elim}
use Rattle.region_paths.specs.declared.elements.Elem.{Elem}
use Rattle.twe_base.specs.Limits.{Bounds}
use Rattle.machine_state.specs.declared.state.TaskRow.{TaskRow}
use Rattle.machine_state.specs.declared.state.TaskStatus.{TaskStatus}
use Rattle.machine_state.specs.Moves.{status_at_start}
use Rattle.machine_state.specs.Rows.{row_awaited}
use Rattle.floor_laws.specs.declared.rule.view.HeldTurn.{HeldTurn}
use Rattle.floor_laws.specs.declared.rule.view.Phase.{Phase}
use Rattle.floor_laws.specs.declared.rule.view.TaskSlot.{TaskSlot}
use Rattle.floor_laws.specs.rule.Rows.{phase_at, phase_of, slot_of}
use Rattle.floor_laws.proofs.rule.Puts.{put_here, put_was, some_one}
use Rattle.floor_laws.specs.declared.table.view.View.{View}
use Rattle.floor_laws.specs.table.FloorOf.{turn_in}
use Rattle.floor_laws.specs.table.Tells.{Seat, StoredPhase, with_turn}
use Rattle.task_floor.proofs.steps.LeavingTurns.{may_give_back}
use Rattle.floor_laws.specs.rule.nodes.TurnSteps.{HasPlacedChildren}
use Rattle.floor_laws.specs.declared.table.nodes.slot.TreeSlot.{TreeSlot}
use Rattle.floor_laws.specs.declared.table.nodes.view.TreeView.{TreeView}
use Rattle.floor_laws.specs.table.nodes.FloorSeats.{HasTaskSlots, as_slot, floor_seat, tasks_out}
use Rattle.floor_laws.specs.table.nodes.Seats.{TreeSeat, turns_seen}
use Rattle.floor_laws.specs.table.nodes.TurnSeats.{GaveTreeTurn, MayLeaveTask, given_tree_view, gives_first, gives_taken}
use Rattle.floor_laws.proofs.table.nodes.Lifts.{out_again}
use Rattle.task_floor.specs.Leaving.{HasLeftTask, MayGoFrom}
use Rattle.task_floor.specs.Stands.{StaysInTree}
use Rattle.task_floor.specs.Turns.{MayGiveTask}

-- The seat, if its floor's seat has this view and the same slots as before.

pub same_out : (n : ℕ) (mine later : List (ℕ × TreeSlot)) → HasTaskSlots n mine → HasTaskSlots n later → tasks_out later ≡ tasks_out mine → later ≡ mine
same_out n mine later has then same = out_again n later then ∙ (ap (map as_slot) same ∙ sym (out_again n mine has))

pub seat_is : (lim : Bounds) (before after : TreeSeat) (w : View) → HasTaskSlots lim.tasks before.1 → StaysInTree lim before after → floor_seat after ≡ (w, tasks_out before.1)
    → after ≡ (record before.0 { floor = w }, before.1)
seat_is lim before after w has stays is =
    let view : after.0 ≡ record before.0 { floor = w } = stays.view ∙ ap (λ (m : Seat). record before.0 { floor = m.0 }) is in
    let out : after.1 ≡ before.1 = same_out lim.tasks before.1 after.1 has stays.slots (ap (λ (m : Seat). m.1) is) in
    λ k. (view k, out k)

-- Another phase of a turn changes nothing of what is asked of nodes.

abbrev pub with_phase : TreeView → ℕ → HeldTurn → Phase → TreeView
with_phase v t turn phase = record v { floor = with_turn v.floor t (Some (record turn { phase = phase })) }

pub children_stored : (v : TreeView) (t : ℕ) (turn : HeldTurn) (phase : Phase) → turn_in v.floor.turns t ≡ Some turn → HasPlacedChildren (turns_seen v) 0 t → HasPlacedChildren (turns_seen (with_phase v t turn phase)) 0 t
children_stored v t turn phase has placed c child is first =
    let now : HeldTurn = record turn { phase = phase } in
    ⊎_elim
    (λ (here : (c ≡ t) × (Some now ≡ Some child)).
    let same : now ≡ child = some_one here.1 in
    subst (λ (h : HeldTurn). h.row.parent ≢ Some t) same (placed t turn has (ap (λ (h : HeldTurn). h.first) same ∙ first)))
    (λ (else : (c ≢ t) × (turn_in v.floor.turns c ≡ Some child)). placed c child else.1 first)
    (put_was (turn_in v.floor.turns) t c (Some now) (Some child) is)

pub leaves_stored : (nodes : List (List Elem)) (v : TreeView) (t : ℕ) (turn : HeldTurn) (phase : Phase) → MayLeaveTask nodes v t turn → MayLeaveTask nodes (with_phase v t turn phase) t (record turn { phase = phase })
leaves_stored nodes v t turn phase (gives_taken may) =
    gives_taken (record {
      has = put_here (turn_in v.floor.turns) t (Some (record turn { phase = phase }));
      taken = may.taken;
      idle = may.idle;
      children = children_stored v t turn phase may.has may.children;
      leaves = may.leaves;
    })
leaves_stored nodes v t turn phase (gives_first may) =
    gives_first (record {
      has = put_here (turn_in v.floor.turns) t (Some (record turn { phase = phase }));
      first = may.first;
      placed = may.placed;
      leaves = may.leaves;
    })

module _ (nodes : List (List Elem)) (lim : Bounds) (me mid : TreeSeat) (t : ℕ) (slot : TaskSlot) (phase : Phase) (turn : HeldTurn) (others : List (ℕ × TreeSlot)) (may : MayGoFrom nodes me t slot turn others)
    (is : phase ≡ phase_of turn.row) (has : HasTaskSlots lim.tasks me.1) (stays : StaysInTree lim me mid) (stored : StoredPhase (floor_seat me) t turn phase (floor_seat mid)) where
  abbrev now : HeldTurn
  now = record turn { phase = phase }

  mid_is : mid ≡ (with_phase me.0 t turn phase, me.1)
  mid_is = seat_is lim me mid (with_turn me.0.floor t (Some now)) has stays stored

  pub may_give_stored : MayGiveTask nodes mid t slot now others
  may_give_stored = record {
    floor = may_give_back (floor_seat me) (floor_seat mid) t slot phase turn (tasks_out others) may.floor is stored;
    out = ap (λ (m : TreeSeat). m.1) mid_is ∙ may.out;
    leaves = subst (λ (m : TreeSeat). MayLeaveTask nodes m.0 t now) (sym mid_is) (leaves_stored nodes me.0 t turn phase may.leaves);
  }

  pub has_left_task : (after : TreeSeat) → GaveTreeTurn mid t now others after → HasLeftTask me t turn others after
  has_left_task after gave =
      gave ∙ (ap (λ (m : TreeSeat). (given_tree_view m.0 t turn, others)) mid_is ∙ ap (λ (x : Phase). (given_tree_view (with_phase me.0 t turn x) t turn, others)) is)

-- the phase of a new task whose slot has its row's frame
pub new_is : (slot : TaskSlot) (row : TaskRow) (phase : Phase) → phase ≡ phase_at (status_at_start slot.parent) (row_awaited slot.frame.next) → slot ≡ slot_of row → row.status ≡ status_at_start row.parent
    → phase ≡ phase_of row
new_is slot row phase is same new =
    is ∙ ap (λ (s : TaskSlot). phase_at (status_at_start s.parent) (row_awaited s.frame.next)) same ∙ ap (λ (s : TaskStatus). phase_at s (row_awaited row.frame.next)) (sym new)
