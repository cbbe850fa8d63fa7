-- The parts in which two frames are compared.
use Rattle.std.specs.Prelude.{◌≡◌}
use Rattle.seg_meaning.specs.declared.frame.Frame.{Frame}

-- the frames are of one task, and have come equally far
pub record SameProgress (a b : Frame) : Type 0 where
  pub task : a.task ≡ b.task
  pub decl : a.decl ≡ b.decl
  pub fuel : a.fuel ≡ b.fuel
  pub value : a.value ≡ b.value
  pub next : a.next ≡ b.next

-- the frames have the same lists
pub record SameContents (a b : Frame) : Type 0 where
  pub body : a.body ≡ b.body
  pub futures : a.futures ≡ b.futures
  pub out : a.out.items ≡ b.out.items
  pub prints : a.prints ≡ b.prints
