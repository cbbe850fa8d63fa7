-- Segments over the floor. A stand carries out the segment of the task whose slot is the latest that it has out.
use Rattle.std.specs.Prelude.{ℕ, ℤ, Option}
use Rattle.twe_base.specs.Limits.{Bounds}
use Rattle.twe_program.specs.Program.{Program}
use Rattle.floor_laws.specs.declared.rule.view.Touch.{Touch}
use Rattle.task_floor.specs.steps.Segments as floor
use Rattle.task_floor.specs.Stands.{StaysInTree, TreeStand, floor_stand}

-- What a stand knows of cells and may do: what its floor's seat does.

-- the value that it knows of a cell that the open segment has touched
abbrev pub stand_knows : TreeStand → ℕ → Option ℤ
stand_knows stand = floor.stand_knows (floor_stand stand)

-- there is such a cell, and the segment may read it
abbrev pub MayReadCell : Program → TreeStand → ℕ → Type 0
MayReadCell p stand = floor.MayReadCell p (floor_stand stand)

-- there is such a cell, and the segment may write it
abbrev pub MayWriteCell : Program → TreeStand → ℕ → Type 0
MayWriteCell p stand = floor.MayWriteCell p (floor_stand stand)

-- the open segment has one touch more; nothing else changes
pub record HasTouched (lim : Bounds) (old new : TreeStand) (touch : Touch) : Type 0 where
  pub floor : floor.HasTouched (floor_stand old) (floor_stand new) touch
  pub stays : StaysInTree lim old.me new.me
