-- What a segment keeps, and what its task does next.
use Rattle.std.specs.Prelude.{◌≡◌, ◌⊎◌, ◌<◌, ◌≤◌, ℕ, ℤ, Bool, List, [], ◌∷◌, length, Option, None}
use Rattle.twe_base.specs.declared.place.Place.{Place}
use Rattle.effect_sets.specs.declared.effects.Summary.{Summary}
use Rattle.seg_meaning.specs.declared.frame.Frame.{Frame}
use Rattle.seg_meaning.specs.declared.frame.Next.{Next}
use Rattle.seg_meaning.specs.declared.frame.Next.TheVariants.{Go, Get, Join, Closing, Ended}
use Rattle.seg_meaning.specs.declared.stop.Stop.{Stop}
use Rattle.seg_meaning.specs.declared.stop.Stop.TheVariants as ends
use Rattle.seg_meaning.specs.Segment.{HasRoomToSpawn, Stopped}

-- the body of the frame has ended, and the task waits to join the first of its unjoined children
pub record IsClosing (after : Frame) (on : ℕ) : Type 0 where
  pub next : after.next ≡ Closing on
  pub body : after.body ≡ None
  pub others : List ℕ
  pub out : after.out.items ≡ on ∷ others

-- what the frame is after this stop: if the task has ended, nothing of its body is left; if it is done, no child is
-- unjoined
abbrev pub NextAfter : Stop → Frame → Type 0
NextAfter (ends.Make child args effects spawned future place) after = after.next ≡ Go
NextAfter (ends.Waits on) after = (into : Option ℕ) × (after.next ≡ Get on into)
NextAfter (ends.Joins on) after = ((into : Option ℕ) × (after.next ≡ Join on into)) ⊎ IsClosing after on
NextAfter (ends.Done value) after = (after.next ≡ Ended) × (after.body ≡ None) × (after.out.items ≡ []) × (after.value ≡ value)
NextAfter (ends.Fault kind place) after = (after.next ≡ Ended) × (after.body ≡ None)

-- the stop of a segment after which the task does this next
abbrev pub StopBefore : Next → Stop → Type 0
StopBefore Go stop =
    (child : Frame) × (args : List ℤ) × (effects : Summary) × (spawned : Bool) × (future : ℕ) × (place : Place)
    × (stop ≡ ends.Make child args effects spawned future place)
StopBefore (Get on into) stop = stop ≡ ends.Waits on
StopBefore (Join on into) stop = stop ≡ ends.Joins on
StopBefore (Closing on) stop = stop ≡ ends.Joins on
StopBefore Ended stop = Unit {0}

-- A segment keeps the number of the task, its declaration, its futures, its unjoined children and the number of cells.
-- It has room for one more child if it stops at a make that spawns. It never adds fuel, and takes at least a unit if it
-- stops at a task operation.
pub record SegmentKeeps (frame : Frame) (old_cells : List ℤ) (after : Stopped) : Type 0 where
  pub task : after.frame.task ≡ frame.task
  pub decl : after.frame.decl ≡ frame.decl
  pub futures : after.frame.futures ≡ frame.futures
  pub out : after.frame.out.items ≡ frame.out.items
  pub room : HasRoomToSpawn after.stop after.frame
  pub cells : length after.cells ≡ length old_cells
  pub fuel : after.frame.fuel ≤ frame.fuel
  pub made : (child : Frame) (args : List ℤ) (effects : Summary) (spawned : Bool) (future : ℕ) (place : Place)
      → after.stop ≡ ends.Make child args effects spawned future place → after.frame.fuel < frame.fuel
  pub got : (on : ℕ) (into : Option ℕ) → after.frame.next ≡ Get on into → after.frame.fuel < frame.fuel
  pub joined : (on : ℕ) (into : Option ℕ) → after.frame.next ≡ Join on into → after.frame.fuel < frame.fuel
  pub next : NextAfter after.stop after.frame
  pub stop : StopBefore after.frame.next after.stop
