-- What a stand that touches a cell may do afterwards, and what it knows: what its floor's seat does.
use Rattle.std.proofs.Common.{◌≡◌, ◌≢◌, ℕ, ℤ, sym, ◌∙◌}
use Rattle.twe_base.specs.Limits.{Bounds}
use Rattle.twe_program.specs.Program.{Program}
use Rattle.seg_meaning.specs.Access.{Access, KnowsNow, MaySame}
use Rattle.floor_laws.specs.declared.rule.view.Touch.{Touch}
use Rattle.floor_laws.specs.declared.rule.view.Touch.TheVariants.{Read, Write}
use Rattle.floor_laws.specs.declared.table.view.SeatKind.TheVariants.{Spent}
use Rattle.floor_laws.specs.table.Tells.{IsLatest, WroteCell}
use Rattle.task_floor.specs.steps.Stands.{HasLoaded, MayAccess}
use Rattle.task_floor.proofs.steps.Touching as floor
use Rattle.floor_laws.specs.table.nodes.FloorSeats.{floor_seat}
use Rattle.task_floor.specs.Segments.{HasTouched, MayReadCell, MayWriteCell, stand_knows}
use Rattle.task_floor.specs.Stands.{StaysInTree, TreeStand, floor_stand}

-- the same may be read and written as before
pub may_same : (p : Program) (lim : Bounds) (old new : TreeStand) (touch : Touch) → HasTouched lim old new touch → (x : Access) → MayAccess p (floor_seat old.me) x → MaySame (floor.stand_ways p) (floor_stand old) (floor_stand new)
may_same p lim old new touch after x may = floor.may_same p (floor_stand old) (floor_stand new) touch after.floor x may

-- the value of the touched cell is known
pub knows_read : (lim : Bounds) (old new : TreeStand) (cell : ℕ) (value : ℤ) → HasTouched lim old new (Read cell value) → KnowsNow (stand_knows old) cell value (stand_knows new)
knows_read lim old new cell value after = floor.knows_read (floor_stand old) (floor_stand new) cell value after.floor

pub knows_written : (lim : Bounds) (old new : TreeStand) (cell : ℕ) (value : ℤ) → HasTouched lim old new (Write cell value) → KnowsNow (stand_knows old) cell value (stand_knows new)
knows_written lim old new cell value after = floor.knows_written (floor_stand old) (floor_stand new) cell value after.floor

-- What a load and a store of the floor do to a stand that may make them.

pub loaded_touch : (p : Program) (lim : Bounds) (old new : TreeStand) (cell : ℕ) (value : ℤ) → MayReadCell p old cell
    → ((t : ℕ) → IsLatest (floor_seat old.me) t → HasLoaded (floor_seat old.me) t cell value (floor_seat new.me)) → StaysInTree lim old.me new.me → (new.table_id ≡ old.table_id) × (new.id ≡ old.id)
    → HasTouched lim old new (Read cell value)
loaded_touch p lim old new cell value may loaded stays same = record { floor = floor.loaded_touch p (floor_stand old) (floor_stand new) cell value may loaded same; stays = stays }

pub stored_touch : (p : Program) (lim : Bounds) (old new : TreeStand) (cell : ℕ) (value : ℤ) → MayWriteCell p old cell
    → ((t : ℕ) → IsLatest (floor_seat old.me) t → WroteCell (floor_seat old.me) t cell value (floor_seat new.me)) → StaysInTree lim old.me new.me → (new.table_id ≡ old.table_id) × (new.id ≡ old.id)
    → HasTouched lim old new (Write cell value)
stored_touch p lim old new cell value may stored stays same = record { floor = floor.stored_touch p (floor_stand old) (floor_stand new) cell value may stored same; stays = stays }

-- the stand is as live as it was
pub touch_live : (lim : Bounds) (old new : TreeStand) (touch : Touch) → HasTouched lim old new touch → old.me.0.floor.kind ≢ Spent → new.me.0.floor.kind ≢ Spent
touch_live lim old new touch after live spent = live (sym (floor.touch_kind (floor_stand old) (floor_stand new) touch after.floor) ∙ spent)
