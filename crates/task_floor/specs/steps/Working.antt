-- A worker between two tasks, and what it has found of one.
use Rattle.std.specs.Prelude.{◌≡◌, ◌≢◌, ◌++◌, ℕ, [], ◌∷◌, Some}
use Rattle.seg_journal.specs.declared.journal.End.{End}
use Rattle.seg_journal.specs.declared.moves.Kind.TheVariants.{Run}
use Rattle.seg_journal.specs.declared.numbered.NumberedEntry.{NumberedEntry}
use Rattle.floor_laws.specs.declared.rule.view.HeldTurn.{HeldTurn}
use Rattle.floor_laws.specs.declared.rule.view.Phase.{Phase}
use Rattle.floor_laws.specs.rule.Rows.{phase_of}
use Rattle.floor_laws.specs.declared.table.view.SeatKind.TheVariants.{Spent}
use Rattle.floor_laws.specs.declared.table.view.View.{View}
use Rattle.floor_laws.specs.table.Added.{IsAdded}
use Rattle.floor_laws.specs.table.Holds.{HasGivenAll}
use Rattle.floor_laws.specs.table.Tells.{Seat}
use Rattle.task_floor.specs.steps.Committing.{Log}
use Rattle.task_floor.specs.steps.Segments.{StandValue}

-- The worker has nothing in hand: no turn, no slot and no open segment. The stand is its own, and its log has the entries that
-- the stand knows.
pub record IsIdle (number : ℕ) (me : Seat) (log : Log) : Type 0 where
  pub live : me.0.kind ≢ Spent
  pub number_is : number ≡ me.0.worker
  pub given : HasGivenAll me.0
  pub out : me.1 ≡ []
  pub entries : log.entries ≡ me.0.part

-- a view of the same worker, of the same kind, with as many seats split off and out
pub record SameSeat (before after : View) : Type 0 where
  pub worker : after.worker ≡ before.worker
  pub kind : after.kind ≡ before.kind
  pub split : after.split ≡ before.split
  pub out : after.out ≡ before.out

-- a stand at the same table, with the same identity, whose view is such a one
pub record SameStand (before after : StandValue) : Type 0 where
  pub table : after.table_id ≡ before.table_id
  pub id : after.id ≡ before.id
  pub seat : SameSeat before.me.0 after.me.0

-- the worker has drawn one entry more, of a segment of task t with this end
pub record HasRunOne (before after : Seat) (t : ℕ) (end : End) : Type 0 where
  pub entry : NumberedEntry
  pub is : entry.entry ≡ record { mv = record { kind = Run; task = t }; end = end }
  pub part : after.0.part ≡ before.0.part ++ entry ∷ []

-- The worker has drawn no entry, since task t had a row with this phase while the worker had its turn, which it got and gave
-- since then.
pub record HasFound (before after : Seat) (t : ℕ) (phase : Phase) : Type 0 where
  pub turn : HeldTurn
  pub had : IsAdded (record { task = t; turn = Some turn }) before.0.turns after.0.turns
  pub phase_is : phase_of turn.row ≡ phase
  pub part : after.0.part ≡ before.0.part
