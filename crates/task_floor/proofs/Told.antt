-- What a step of the floor told a stand holds of the floor's seat of that stand, and in the tree the stand stays as it was.
use Rattle.std.proofs.Common.{◌≡◌, ℕ, List, [], ◌∷◌, map, Option, refl, sym, ap, subst, ◌∙◌}
use Rattle.twe_base.specs.Limits.{Bounds}
use Rattle.floor_laws.specs.declared.rule.view.TaskSlot.{TaskSlot}
use Rattle.floor_laws.specs.declared.table.view.View.{View}
use Rattle.floor_laws.specs.table.Tells.{Seat}
use Rattle.floor_laws.specs.declared.table.nodes.slot.TreeSlot.{TreeSlot}
use Rattle.floor_laws.specs.declared.table.nodes.view.TreeView.{TreeView}
use Rattle.floor_laws.specs.table.nodes.FloorSeats.{HasTaskSlots, TellsFloor, as_slot, floor_seat, tasks_out}
use Rattle.floor_laws.specs.table.nodes.Seats.{TreeSeat}
use Rattle.floor_laws.proofs.table.nodes.Lifts.{AreBelow, out_below}
use Rattle.task_floor.specs.Stands.{StaysInTree}

-- Slots of tasks.

pub out_was : (l : List (ℕ × Option TaskSlot)) → tasks_out (map as_slot l) ≡ l
out_was [] = refl
out_was (x ∷ l) = ap (λ (m : List (ℕ × Option TaskSlot)). x ∷ m) (out_was l)

pub has_again : (n : ℕ) (l : List (ℕ × Option TaskSlot)) → AreBelow n l → HasTaskSlots n (map as_slot l)
has_again n [] below = tt
has_again n (x ∷ l) below = (below.0, has_again n l below.1)

-- the slots are those of the seat of the floor
pub has_slots : (n : ℕ) (mine : List (ℕ × TreeSlot)) (l : List (ℕ × Option TaskSlot)) → mine ≡ map as_slot l → AreBelow n l → HasTaskSlots n mine
has_slots n mine l is below = subst (HasTaskSlots n) (sym is) (has_again n l below)

-- A step that was lifted.

pub floor_after : (before : TreeSeat) (me : Seat) (after : TreeSeat) → after ≡ (record before.0 { floor = me.0 }, map as_slot me.1) → floor_seat after ≡ me
floor_after before me after is = ap floor_seat is ∙ ap (λ (l : List (ℕ × Option TaskSlot)). (me.0, l)) (out_was me.1)

pub told : (tells : ℕ → Seat → Type 0) (before : TreeSeat) (found : ℕ) (after : TreeSeat) → TellsFloor tells before found after → tells found (floor_seat after)
told tells before found after (me, tell, is) = subst (tells found) (sym (floor_after before me after is)) tell

pub view_stays : (before : TreeSeat) (me : Seat) (after : TreeSeat) → after ≡ (record before.0 { floor = me.0 }, map as_slot me.1) → after.0 ≡ record before.0 { floor = after.0.floor }
view_stays before me after is = ap (λ (m : TreeSeat). m.0) is ∙ ap (λ (w : View). record before.0 { floor = w }) (sym (ap (λ (m : TreeSeat). m.0.floor) is))

pub out_is : (before : TreeSeat) (me : Seat) (after : TreeSeat) → after ≡ (record before.0 { floor = me.0 }, map as_slot me.1) → after.1 ≡ map as_slot (tasks_out after.1)
out_is before me after is = ap (λ (m : TreeSeat). m.1) is ∙ ap (λ (m : Seat). map as_slot m.1) (sym (floor_after before me after is))

-- the stand has only the slots of some tasks
pub stays_with : (lim : Bounds) (tells : ℕ → Seat → Type 0) (before : TreeSeat) (found : ℕ) (after : TreeSeat) → TellsFloor tells before found after → AreBelow lim.tasks (tasks_out after.1) → StaysInTree lim before after
stays_with lim tells before found after (me, tell, is) below = record {
  view = view_stays before me after is;
  slots = has_slots lim.tasks after.1 (tasks_out after.1) (out_is before me after is) below;
}

-- those that it had
pub stays : (lim : Bounds) (tells : ℕ → Seat → Type 0) (before : TreeSeat) (found : ℕ) (after : TreeSeat) → HasTaskSlots lim.tasks before.1 → TellsFloor tells before found after → tasks_out after.1 ≡ tasks_out before.1 → StaysInTree lim before after
stays lim tells before found after has tells_it same = stays_with lim tells before found after tells_it (subst (AreBelow lim.tasks) (sym same) (out_below lim.tasks before.1 has))

-- Two steps.

pub stays_then : (lim : Bounds) (a b c : TreeSeat) → StaysInTree lim a b → StaysInTree lim b c → StaysInTree lim a c
stays_then lim a b c one two = record {
  view = two.view ∙ ap (λ (v : TreeView). record v { floor = c.0.floor }) one.view;
  slots = two.slots;
}
