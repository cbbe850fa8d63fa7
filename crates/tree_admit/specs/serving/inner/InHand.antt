-- What a worker has in hand while it serves a task, by what it has drawn.
use Rattle.std.specs.Prelude.{◌≡◌, ◌⊎◌, ℕ, false, Option, None, Some}
use Rattle.twe_base.specs.Limits.{Bounds}
use Rattle.twe_program.specs.Program.{Program}
use Rattle.seg_journal.specs.declared.journal.End.{End}
use Rattle.seg_journal.specs.declared.journal.End.TheVariants.{Made}
use Rattle.seg_meaning.specs.declared.stop.Stop.{Stop}
use Rattle.machine_state.specs.declared.state.TaskStatus.{TaskStatus}
use Rattle.machine_state.specs.declared.state.TaskStatus.TheVariants as status
use Rattle.floor_laws.specs.declared.rule.view.HeldTurn.{HeldTurn}
use Rattle.floor_laws.specs.declared.rule.view.Phase.{Phase}
use Rattle.floor_laws.specs.declared.rule.view.Phase.TheVariants as phases
use Rattle.floor_laws.specs.declared.rule.view.TaskSlot.{TaskSlot}
use Rattle.floor_laws.specs.table.Added.{HasGrown, IsAdded}
use Rattle.floor_laws.specs.table.FloorOf.{turn_in}
use Rattle.task_floor.specs.steps.Committing.{Log}
use Rattle.floor_laws.specs.table.nodes.Seats.{TreeSeat}
use Rattle.task_floor.specs.Committing.{MayCommitBeside}
use Rattle.tree_admit.specs.inner.Served.{HasOnlyServed}
use Rattle.task_floor.specs.Holding.{HoldsChildBeside, HoldsDrawnBeside, HoldsOneBeside}

-- The worker has this turn of task t, which it got since it had the first seat. It has drawn no entry since then.
pub record HasTakenSince (before me : TreeSeat) (t : ℕ) : Type 0 where
  pub turn : HeldTurn
  pub has : turn_in me.0.floor.turns t ≡ Some turn
  pub had : IsAdded (record { task = t; turn = Some turn }) before.0.floor.turns me.0.floor.turns
  pub part : me.0.floor.part ≡ before.0.floor.part
  pub served : HasOnlyServed t before.0.floor me.0.floor
  pub kept : HasGrown before.0.kept me.0.kept
  pub looks : HasGrown before.0.looks me.0.looks

-- the worker has run the next segment of task t, which has left the frame of this slot and has stopped so
pub record HoldsRanBeside (p : Program) (number : ℕ) (me : TreeSeat) (log : Log) (t : ℕ) (slot : TaskSlot) (turn : HeldTurn)
    (stop : Stop) : Type 0 where
  pub one : HoldsOneBeside number me log t
  pub has : turn_in me.0.floor.turns t ≡ Some turn
  pub taken : turn.first ≡ false
  pub enabled : turn.row.status ≡ status.Enabled
  pub may : MayCommitBeside p me t slot stop turn

-- It has drawn an entry with this end. If the entry has made a spawned child, this is what the slot of the child will hold.
abbrev pub HoldsMadeBeside : Bounds → ℕ → TreeSeat → Log → ℕ → TaskSlot → HeldTurn → End → Option TaskSlot → Type 0
HoldsMadeBeside lim number me log t slot turn end None = HoldsDrawnBeside number me log t slot turn
HoldsMadeBeside lim number me log t slot turn end (Some child) =
    (c : ℕ) × (new : HeldTurn) × (end ≡ Made c) × HoldsChildBeside lim number me log t slot turn c child new

-- a task with this status has ended, and this is its phase
abbrev pub HasEndedIn : TaskStatus → Phase → Type 0
HasEndedIn is phase = ((is ≡ status.Done) × (phase ≡ phases.Done)) ⊎ ((is ≡ status.Faulted) × (phase ≡ phases.Faulted))
