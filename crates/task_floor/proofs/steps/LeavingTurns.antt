-- A task is left: its phase is stored, and then its turn is given.
use Rattle.std.proofs.Common.{◌≡◌, ℕ, List, ◌∷◌, Option, Some, sym, ap, subst, ◌∙◌, inl}
use Rattle.atomic_table.specs.Table.{rest}
use Rattle.machine_state.specs.declared.state.TaskRow.{TaskRow}
use Rattle.machine_state.specs.declared.state.TaskStatus.{TaskStatus}
use Rattle.machine_state.specs.declared.state.TaskStatus.TheVariants as status
use Rattle.machine_state.specs.Rows.{row_awaited}
use Rattle.floor_laws.specs.declared.rule.view.HeldTurn.{HeldTurn}
use Rattle.floor_laws.specs.declared.rule.view.Phase.{Phase}
use Rattle.floor_laws.specs.declared.rule.view.TaskSlot.{TaskSlot}
use Rattle.floor_laws.specs.rule.Rows.{phase_at, phase_of, slot_of}
use Rattle.floor_laws.proofs.rule.Puts.{put_here}
use Rattle.floor_laws.specs.table.FloorOf.{turn_in}
use Rattle.floor_laws.specs.table.Tells.{MayGiveTurn, MayStore, Seat, StoredPhase}
use Rattle.task_floor.specs.steps.Stands.{MayGiveBack}
use Rattle.task_floor.specs.steps.Leaving.{MayLeave}

pub may_store : (me : Seat) (t : ℕ) (slot : TaskSlot) (phase : Phase) (turn : HeldTurn) (others : List (ℕ × Option TaskSlot)) → MayLeave me t slot turn others → phase ≡ phase_of turn.row → MayStore me t turn phase
may_store me t slot phase turn others may is = record { has = may.has; fits = inl is }

-- once the phase is stored, the turn may be given
pub may_give_back : (me mid : Seat) (t : ℕ) (slot : TaskSlot) (phase : Phase) (turn : HeldTurn) (others : List (ℕ × Option TaskSlot)) → MayLeave me t slot turn others → phase ≡ phase_of turn.row
    → StoredPhase me t turn phase mid → MayGiveBack mid t slot (record turn { phase = phase }) others
may_give_back me mid t slot phase turn others may is stored =
    let now : HeldTurn = record turn { phase = phase } in
    subst (λ (m : Seat). MayGiveBack m t slot now others) (sym stored) (record {
      has = put_here (turn_in me.0.turns) t (Some now);
      phase = is;
      closed = may.closed;
      is = may.is;
      out = may.out;
    })

-- the turn may be given once the slot is full
pub may_give : (me mid : Seat) (t : ℕ) (slot : TaskSlot) (turn : HeldTurn) (others : List (ℕ × Option TaskSlot)) → MayGiveBack me t slot turn others → mid ≡ (me.0, (t, Some slot) ∷ rest me.1)
    → MayGiveTurn mid t turn others
may_give me mid t slot turn others may is =
    let rests = ap rest may.out in
    subst (λ (m : Seat). MayGiveTurn m t turn others) (sym is) (record {
      has = may.has;
      phase = may.phase;
      closed = may.closed;
      slot = λ k. (t, Some (may.is k)) ∷ rests k;
    })

-- the phase of an enabled task whose slot has its row's frame
pub enabled_is : (slot : TaskSlot) (row : TaskRow) (phase : Phase) → phase ≡ phase_at status.Enabled (row_awaited slot.frame.next) → slot ≡ slot_of row → row.status ≡ status.Enabled → phase ≡ phase_of row
enabled_is slot row phase is same enabled =
    is ∙ ap (λ (s : TaskSlot). phase_at status.Enabled (row_awaited s.frame.next)) same ∙ ap (λ (s : TaskStatus). phase_at s (row_awaited row.frame.next)) (sym enabled)
