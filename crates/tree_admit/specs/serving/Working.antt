-- What a worker of a floor does with a task.
use Rattle.std.specs.Prelude.{◌≡◌, ◌≢◌, ◌⊎◌, ◌++◌, ℕ, [], ◌∷◌, Some}
use Rattle.seg_journal.specs.declared.journal.End.TheVariants as ends
use Rattle.seg_journal.specs.declared.moves.Kind.TheVariants.{Admit}
use Rattle.seg_journal.specs.declared.numbered.NumberedEntry.{NumberedEntry}
use Rattle.floor_laws.specs.declared.rule.view.HeldTurn.{HeldTurn}
use Rattle.floor_laws.specs.declared.rule.view.Phase.{Phase}
use Rattle.floor_laws.specs.declared.rule.view.Phase.TheVariants as phases
use Rattle.floor_laws.specs.rule.Rows.{phase_of}
use Rattle.twe_base.specs.Limits.{Bounds}
use Rattle.twe_program.specs.Program.{Program}
use Rattle.floor_laws.specs.table.Added.{IsAdded}
use Rattle.task_floor.specs.steps.Working.{HasFound, HasRunOne, SameStand}
use Rattle.task_floor.specs.declared.steps.served.Served.{Served}
use Rattle.task_floor.specs.declared.steps.served.Served.TheVariants as served
use Rattle.floor_laws.specs.table.nodes.FloorSeats.{floor_seat}
use Rattle.floor_laws.specs.table.nodes.Seats.{TreeSeat}
use Rattle.task_floor.specs.Resuming.{WasNotDone}
use Rattle.task_floor.specs.Stands.{TreeStand, floor_stand}
use Rattle.task_floor.specs.Turns.{FoundBusy}
use Rattle.tree_admit.specs.declared.bars.Bar.{Bar}
use Rattle.tree_admit.specs.Attempts.{WasBarredFor}
use Rattle.tree_admit.specs.declared.serving.admission.Admission.{Admission}
use Rattle.tree_admit.specs.declared.serving.admission.Admission.TheVariants.{Admitted, Held, Over, Busy}

-- a stand on the same table, of the same worker and of the same kind
abbrev pub SameTreeStand : TreeStand → TreeStand → Type 0
SameTreeStand before after = SameStand (floor_stand before) (floor_stand after)

-- What the worker has done with task t. If it says that t waits, it has looked and found that the awaited task was not done, or
-- that the turn of that one was not free.
abbrev pub HasServedBeside : TreeSeat → TreeSeat → ℕ → Served → Type 0
HasServedBeside before after t (served.Ran end) = HasRunOne (floor_seat before) (floor_seat after) t end
HasServedBeside before after t (served.Waits on) =
    HasFound (floor_seat before) (floor_seat after) t (phases.Waits on) × WasNotDone before.0.looks after.0.looks on
HasServedBeside before after t served.Made = HasFound (floor_seat before) (floor_seat after) t phases.Made
HasServedBeside before after t served.Ended =
    HasFound (floor_seat before) (floor_seat after) t phases.Done
    ⊎ HasFound (floor_seat before) (floor_seat after) t phases.Faulted
HasServedBeside before after t (served.Busy holder) = FoundBusy before after t holder

-- the worker has drawn one entry more, the admission of task t
pub record HasAdmittedOne (before after : TreeSeat) (t : ℕ) : Type 0 where
  pub entry : NumberedEntry
  pub is : entry.entry ≡ record { mv = record { kind = Admit; task = t }; end = ends.Admitted }
  pub part : after.0.floor.part ≡ before.0.floor.part ++ entry ∷ []

-- The worker has drawn no entry. Task t waited for its admission while the worker had its turn, which it got and gave since then.
-- Since then too a record of task `by` was in the way of one of its effects.
pub record WasHeld (p : Program) (lim : Bounds) (before after : TreeSeat) (t by : ℕ) : Type 0 where
  pub turn : HeldTurn
  pub had : IsAdded (record { task = t; turn = Some turn }) before.0.floor.turns after.0.floor.turns
  pub made : phase_of turn.row ≡ phases.Made
  pub part : after.0.floor.part ≡ before.0.floor.part
  pub bar : Bar
  pub barred : WasBarredFor p lim before.0 after.0 t turn.row.effects.effects bar
  pub by_is : bar.by ≡ by

-- the worker has drawn no entry, since task t did not wait for its admission while the worker had its turn
pub record WasOver (before after : TreeSeat) (t : ℕ) : Type 0 where
  pub phase : Phase
  pub not_made : phase ≢ phases.Made
  pub found : HasFound (floor_seat before) (floor_seat after) t phase

-- what the worker has done for the admission of task t
abbrev pub HasTriedToAdmit : Program → Bounds → TreeSeat → TreeSeat → ℕ → Admission → Type 0
HasTriedToAdmit p lim before after t Admitted = HasAdmittedOne before after t
HasTriedToAdmit p lim before after t (Held by) = WasHeld p lim before after t by
HasTriedToAdmit p lim before after t Over = WasOver before after t
HasTriedToAdmit p lim before after t (Busy holder) = FoundBusy before after t holder
