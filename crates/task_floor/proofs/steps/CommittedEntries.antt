-- An entry that was drawn: what the seat knows then, and what its log and its slot have.
use Rattle.std.proofs.Common.{◌≡◌, ◌+◌, ◌<◌, ℕ, ℤ, Bool, true, false, cond, List, Option, None, Some, refl, sym, ap, subst, ◌∙◌, ltb-true}
use Rattle.std.specs.Prelude.{nat_lt, option_map}
use Rattle.std.specs.Option.{ForSome}
use Rattle.twe_base.specs.declared.fault.FaultKind.TheVariants.{TaskLimit}
use Rattle.twe_base.specs.Limits.{Bounds}
use Rattle.seg_journal.specs.declared.journal.End.{End}
use Rattle.seg_journal.specs.declared.journal.End.TheVariants as ends
use Rattle.seg_journal.specs.declared.moves.Kind.TheVariants.{Run}
use Rattle.seg_meaning.specs.declared.frame.Frame.{Frame}
use Rattle.seg_meaning.specs.declared.stop.Stop.{Stop}
use Rattle.seg_meaning.specs.declared.stop.Stop.TheVariants as stops
use Rattle.seg_meaning.specs.Segment.{HasRoomToSpawn}
use Rattle.machine_state.specs.declared.state.TaskRow.{TaskRow}
use Rattle.machine_state.specs.declared.state.TaskStatus.TheVariants as status
use Rattle.machine_state.specs.Moves.{faulted_row, frame_without_prints, going_row, making_frame, new_row, parent_of, stopped_frame}
use Rattle.floor_laws.specs.declared.rule.view.HeldTurn.{HeldTurn}
use Rattle.floor_laws.specs.declared.rule.view.TaskSlot.{TaskSlot}
use Rattle.floor_laws.specs.rule.Rows.{slot_of}
use Rattle.floor_laws.specs.rule.Steps.{end_after, row_after}
use Rattle.floor_laws.proofs.rule.Puts.{none_some, some_one}
use Rattle.floor_laws.specs.table.Layout.{asked_of_clock, entries_of_clock}
use Rattle.floor_laws.specs.table.Tells.{Seat, drawn_seat, drawn_view, drawn_with, entry_at}
use Rattle.task_floor.specs.steps.Committing.{child_row, status_after}
use Rattle.task_floor.specs.steps.inner.Bringing.{IsNew, MayBring, frame_after, seat_with}

-- the room for a spawned child does not lie in the printed numbers
pub room_kept : (stop : Stop) (frame : Frame) → HasRoomToSpawn stop frame → HasRoomToSpawn stop (frame_without_prints frame)
room_kept (stops.Make child args effects spawned future place) frame room = room
room_kept (stops.Waits on) frame room = tt
room_kept (stops.Joins on) frame room = tt
room_kept (stops.Done value) frame room = tt
room_kept (stops.Fault kind place) frame room = tt

-- The seat that an entry leaves.
pub drawn_is : (lim : Bounds) (clock : ℕ) (me : Seat) (t : ℕ) (turn : HeldTurn) (frame : Frame) (stop : Stop)
    → drawn_seat lim clock me t turn frame stop ≡ seat_with (drawn_view lim clock me.0 t turn frame stop, me.1) (asked_of_clock clock + 1) (child_row lim (asked_of_clock clock) t stop)
drawn_is lim clock me t turn frame (stops.Make child args effects spawned future place) =
    let number = asked_of_clock clock + 1 in
    chosen (nat_lt number lim.tasks) (drawn_view lim clock me.0 t turn frame (stops.Make child args effects spawned future place), me.1) number (new_row lim number (parent_of t spawned) child args effects)
  where
    chosen : (b : Bool) (drawn : Seat) (number : ℕ) (row : TaskRow) → cond {A = Seat} b (drawn_with drawn number row) drawn ≡ seat_with drawn number (cond {A = Option TaskRow} b (Some row) None)
    chosen true drawn number row = refl
    chosen false drawn number row = refl
drawn_is lim clock me t turn frame (stops.Waits on) = refl
drawn_is lim clock me t turn frame (stops.Joins on) = refl
drawn_is lim clock me t turn frame (stops.Done value) = refl
drawn_is lim clock me t turn frame (stops.Fault kind place) = refl

-- the seat is of the same kind as before
pub drawn_kind : (lim : Bounds) (clock : ℕ) (me : Seat) (t : ℕ) (turn : HeldTurn) (frame : Frame) (stop : Stop) → (drawn_seat lim clock me t turn frame stop).0.kind ≡ me.0.kind
drawn_kind lim clock me t turn frame stop =
    let drawn : Seat = (drawn_view lim clock me.0 t turn frame stop, me.1) in
    ap (λ (m : Seat). m.0.kind) (drawn_is lim clock me t turn frame stop) ∙ kept drawn (asked_of_clock clock + 1) (child_row lim (asked_of_clock clock) t stop)
  where
    kept : (drawn : Seat) (child : ℕ) (row : Option TaskRow) → (seat_with drawn child row).0.kind ≡ drawn.0.kind
    kept drawn child None = refl
    kept drawn child (Some row) = refl

-- a task that is made has a number below the limit, and is new
pub child_below : (lim : Bounds) (asked t : ℕ) (stop : Stop) → ForSome (child_row lim asked t stop) (λ _. asked + 1 < lim.tasks)
child_below lim asked t (stops.Make child args effects spawned future place) row is = made (nat_lt (asked + 1) lim.tasks) refl is
  where
    made : (b : Bool) → nat_lt (asked + 1) lim.tasks ≡ b → cond {A = Option TaskRow} b (Some (new_row lim (asked + 1) (parent_of t spawned) child args effects)) None ≡ Some row → asked + 1 < lim.tasks
    made true below some = ltb-true (asked + 1) lim.tasks below
    made false below some = absurd (none_some some)
child_below lim asked t (stops.Waits on) row is = absurd (none_some is)
child_below lim asked t (stops.Joins on) row is = absurd (none_some is)
child_below lim asked t (stops.Done value) row is = absurd (none_some is)
child_below lim asked t (stops.Fault kind place) row is = absurd (none_some is)

child_new : (lim : Bounds) (asked t : ℕ) (stop : Stop) → ForSome (child_row lim asked t stop) IsNew
child_new lim asked t (stops.Make child args effects spawned future place) row is = made (nat_lt (asked + 1) lim.tasks) (new_row lim (asked + 1) (parent_of t spawned) child args effects) refl is
  where
    made : (b : Bool) (new : TaskRow) → IsNew new → cond {A = Option TaskRow} b (Some new) None ≡ Some row → IsNew row
    made true new fresh some = subst IsNew (some_one some) fresh
    made false new fresh some = absurd (none_some some)
child_new lim asked t (stops.Waits on) row is = absurd (none_some is)
child_new lim asked t (stops.Joins on) row is = absurd (none_some is)
child_new lim asked t (stops.Done value) row is = absurd (none_some is)
child_new lim asked t (stops.Fault kind place) row is = absurd (none_some is)

pub may_bring : (lim : Bounds) (me mid : Seat) (clock t : ℕ) (turn : HeldTurn) (frame : Frame) (stop : Stop) (held : Option TaskSlot) → mid ≡ drawn_seat lim clock me t turn frame stop
    → held ≡ option_map slot_of (child_row lim (asked_of_clock clock) t stop)
    → MayBring lim mid (asked_of_clock clock + 1) held (drawn_view lim clock me.0 t turn frame stop, me.1) (child_row lim (asked_of_clock clock) t stop)
may_bring lim me mid clock t turn frame stop held drew holds = record {
  is = drew ∙ drawn_is lim clock me t turn frame stop;
  closed = refl;
  slot_is = holds;
  below = child_below lim (asked_of_clock clock) t stop;
  new = child_new lim (asked_of_clock clock) t stop;
}

-- The slot that an entry leaves.
frame_is : (lim : Bounds) (asked : ℕ) (row : TaskRow) (frame : Frame) (stop : Stop) → frame_after lim asked (frame_without_prints frame) stop ≡ (row_after lim asked row frame stop).frame
frame_is lim asked row frame (stops.Make child args effects spawned future place) = chosen (nat_lt (asked + 1) lim.tasks)
  where
    chosen : (b : Bool) → cond {A = Frame} b (making_frame future spawned (asked + 1) (frame_without_prints frame)) (stopped_frame (frame_without_prints frame))
        ≡ (cond {A = TaskRow} b (going_row row (making_frame future spawned (asked + 1) frame)) (faulted_row row (stopped_frame frame))).frame
    chosen true = refl
    chosen false = refl
frame_is lim asked row frame (stops.Waits on) = refl
frame_is lim asked row frame (stops.Joins on) = refl
frame_is lim asked row frame (stops.Done value) = refl
frame_is lim asked row frame (stops.Fault kind place) = refl

rest_is : (lim : Bounds) (asked : ℕ) (row : TaskRow) (frame : Frame) (stop : Stop) → slot_of (row_after lim asked row frame stop) ≡ record (slot_of row) { frame = (row_after lim asked row frame stop).frame }
rest_is lim asked row frame (stops.Make child args effects spawned future place) =
    chosen (nat_lt (asked + 1) lim.tasks) (going_row row (making_frame future spawned (asked + 1) frame)) (faulted_row row (stopped_frame frame)) refl refl
  where
    chosen : (b : Bool) (x y : TaskRow) → slot_of x ≡ record (slot_of row) { frame = x.frame } → slot_of y ≡ record (slot_of row) { frame = y.frame }
        → slot_of (cond {A = TaskRow} b x y) ≡ record (slot_of row) { frame = (cond {A = TaskRow} b x y).frame }
    chosen true x y first second = first
    chosen false x y first second = second
rest_is lim asked row frame (stops.Waits on) = refl
rest_is lim asked row frame (stops.Joins on) = refl
rest_is lim asked row frame (stops.Done value) = refl
rest_is lim asked row frame (stops.Fault kind place) = refl

pub slot_after : (lim : Bounds) (asked : ℕ) (row : TaskRow) (slot : TaskSlot) (stop : Stop) (frame : Frame) → slot ≡ record (slot_of row) { frame = slot.frame }
    → frame ≡ frame_after lim asked (frame_without_prints slot.frame) stop → record slot { frame = frame } ≡ slot_of (row_after lim asked row slot.frame stop)
slot_after lim asked row slot stop frame others is =
    ap (λ (s : TaskSlot). record s { frame = frame }) others
    ∙ ap (λ (f : Frame). record (slot_of row) { frame = f }) (is ∙ frame_is lim asked row slot.frame stop)
    ∙ sym (rest_is lim asked row slot.frame stop)

-- the entry that goes into the log
pub entry_is : (lim : Bounds) (clock t number : ℕ) (frame : Frame) (stop : Stop) (end : End) (prints : List ℤ) → number ≡ entries_of_clock clock → end ≡ end_after lim (asked_of_clock clock) stop → prints ≡ frame.prints
    → record { number = number; entry = record { mv = record { kind = Run; task = t }; end = end }; prints = prints } ≡ entry_at lim clock t frame stop
entry_is lim clock t number frame stop end prints numbers ends printed = λ k. record {
  number = numbers k;
  entry = record { mv = record { kind = Run; task = t }; end = ends k };
  prints = printed k;
}

-- the status of the task afterwards
pub status_is : (lim : Bounds) (asked : ℕ) (row : TaskRow) (frame : Frame) (stop : Stop) → row.status ≡ status.Enabled → (row_after lim asked row frame stop).status ≡ status_after (end_after lim asked stop)
status_is lim asked row frame (stops.Make child args effects spawned future place) enabled = chosen (nat_lt (asked + 1) lim.tasks)
  where
    chosen : (b : Bool) → (cond {A = TaskRow} b (going_row row (making_frame future spawned (asked + 1) frame)) (faulted_row row (stopped_frame frame))).status
        ≡ status_after (cond {A = End} b (ends.Made (asked + 1)) (ends.Fault TaskLimit place))
    chosen true = enabled
    chosen false = refl
status_is lim asked row frame (stops.Waits on) enabled = enabled
status_is lim asked row frame (stops.Joins on) enabled = enabled
status_is lim asked row frame (stops.Done value) enabled = refl
status_is lim asked row frame (stops.Fault kind place) enabled = refl
