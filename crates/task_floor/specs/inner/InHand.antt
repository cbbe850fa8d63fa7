-- A segment over the floor, which has the cell that it touched last in hand.
use Rattle.std.specs.Prelude.{◌≡◌, ◌<◌, ℕ, ℤ, List, ◌∷◌, length, Option, None, Some, if◌then◌else◌, nat_eq, slice_set}
use Rattle.twe_program.specs.Program.{Program, cell_count}
use Rattle.seg_meaning.specs.Access.{Access, Agrees, MaySame, Ways, after, ways_of}
use Rattle.floor_laws.specs.declared.rule.view.OpenSegment.{OpenSegment}
use Rattle.floor_laws.specs.rule.Touches.{accesses_of, touches_of}
use Rattle.floor_laws.specs.table.nodes.FloorSeats.{floor_seat, tasks_out}
use Rattle.task_floor.specs.declared.in_hand.CellInHand.{CellInHand}
use Rattle.task_floor.specs.declared.in_hand.CellInHand.TheVariants.{Nothing, Known, Written}
use Rattle.task_floor.specs.Segments.{MayReadCell, MayWriteCell, stand_knows}
use Rattle.task_floor.specs.Stands.{TreeStand}
use Rattle.task_floor.specs.steps.Segments.{latest_task}

-- The cell in hand.

-- the value of a cell, if it is the one in hand
abbrev pub value_in_hand : CellInHand → ℕ → Option ℤ
value_in_hand Nothing c = None
value_in_hand (Known cell value) c = if nat_eq c cell then Some value else None
value_in_hand (Written cell value) c = if nat_eq c cell then Some value else None

-- the stand knows the value that the floor has, and may write one that the floor doesn't have yet
abbrev pub HandFits : Program → TreeStand → CellInHand → Type 0
HandFits p stand Nothing = Unit {0}
HandFits p stand (Known cell value) = (cell < cell_count p) × (stand_knows stand cell ≡ Some value)
HandFits p stand (Written cell value) = MayWriteCell p stand cell

-- no other cell is in hand
abbrev pub IsFreeFor : CellInHand → ℕ → Type 0
IsFreeFor Nothing c = Unit {0}
IsFreeFor (Known cell value) c = cell ≡ c
IsFreeFor (Written cell value) c = cell ≡ c

-- the cells with the value that the floor doesn't have yet
abbrev pub with_hand : CellInHand → List ℤ → List ℤ
with_hand Nothing cells = cells
with_hand (Known cell value) cells = cells
with_hand (Written cell value) cells = slice_set cells cell value

-- A segment.

-- a segment, as clauses see it: its stand, and the cell that it has in hand
pub record SegView : Type 0 where
  pub stand : TreeStand
  pub hand : CellInHand

-- what is known of a cell beside the one in hand, whose value is known
abbrev pub known_with : CellInHand → (ℕ → Option ℤ) → ℕ → Option ℤ
known_with Nothing known c = known c
known_with (Known cell value) known c = if nat_eq c cell then Some value else known c
known_with (Written cell value) known c = if nat_eq c cell then Some value else known c

-- what it states as an implementation of cells: it knows the cell in hand, and what its stand knows
abbrev pub seg_knows : SegView → ℕ → Option ℤ
seg_knows seg = known_with seg.hand (stand_knows seg.stand)

-- it may read what its stand may read
abbrev pub MayReadHere : Program → SegView → ℕ → Type 0
MayReadHere p seg = MayReadCell p seg.stand

-- and write what its stand may write
abbrev pub MayWriteHere : Program → SegView → ℕ → Type 0
MayWriteHere p seg = MayWriteCell p seg.stand

-- the touches of the open segment, as accesses
abbrev pub stand_accesses : TreeStand → List Access
stand_accesses stand = accesses_of (touches_of stand.me.0.floor.segment)

-- What it has touched and what it has in hand stand for these accesses: they agree with all cells of the program with which the
-- touches agree, and leave the cells that the touches leave, with the value in hand.
pub record Shows (p : Program) (seg : SegView) (accesses : List Access) : Type 0 where
  pub agree : (cells : List ℤ) → length cells ≡ cell_count p → Agrees cells (stand_accesses seg.stand) → Agrees cells accesses
  pub same : (cells : List ℤ) → length cells ≡ cell_count p → Agrees cells (stand_accesses seg.stand)
      → after cells accesses ≡ with_hand seg.hand (after cells (stand_accesses seg.stand))

-- Of a stand the open segment alone changes, which is that of the task whose slot is the latest.
pub record TouchesAlone (old new : TreeStand) : Type 0 where
  pub seat : floor_seat new.me ≡ (record old.me.0.floor { segment = new.me.0.floor.segment }, tasks_out old.me.1)
  pub own : ((s : OpenSegment) → old.me.0.floor.segment ≡ Some s → s.task ≡ latest_task (tasks_out old.me.1))
      → (s : OpenSegment) → new.me.0.floor.segment ≡ Some s → s.task ≡ latest_task (tasks_out old.me.1)
  pub view : new.me.0 ≡ record old.me.0 { floor = new.me.0.floor }
  pub same : (new.table_id ≡ old.table_id) × (new.id ≡ old.id)

-- An access: what the segment stood for before, it stands for with this access after it.
pub record SegFollows (p : Program) (old : SegView) (access : Access) (new : SegView) : Type 0 where
  pub shows : (accesses : List Access) → Shows p old accesses → Shows p new (access ∷ accesses)
  pub alone : TouchesAlone old.stand new.stand

-- what a segment over the floor of this program states
abbrev pub seg_ways : Program → Ways SegView
seg_ways p = ways_of seg_knows (MayReadHere p) (MayWriteHere p) (SegFollows p)

-- The segment stands for the accesses that it stood for before, and knows and may what it did.
pub record GoesOver (p : Program) (old new : SegView) : Type 0 where
  pub known : (k : ℕ) → seg_knows new k ≡ seg_knows old k
  pub same : MaySame (seg_ways p) old new
  pub shows : (accesses : List Access) → Shows p old accesses → Shows p new accesses
  pub alone : TouchesAlone old.stand new.stand
