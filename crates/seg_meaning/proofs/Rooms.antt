-- After a stop at a make that spawns, the frame has room for one more child.
use Rattle.std.proofs.Common.{◌≡◌, ◌<◌, ℕ, ℤ, Bool, true, false, List, [], ◌∷◌, pos, refl, subst, sym, arith}
use Rattle.twe_program.specs.Program.{Program}
use Rattle.seg_meaning.specs.declared.frame.Frame.{Frame}
use Rattle.seg_meaning.specs.declared.operation.Operation.{Operation}
use Rattle.seg_meaning.specs.declared.operation.Operation.TheVariants as operations
use Rattle.seg_meaning.specs.declared.stop.Stop.{Stop}
use Rattle.seg_meaning.specs.Segment.{HasRoomToSpawn, closing_stop, flow_of, operation_room, operation_stop, room_to_spawn, segment, stopped_by}
use Rattle.seg_meaning.specs.Store.{Flow, goes, returns, fails, stops}

-- no child is spawned at the end of a body
pub closing_has_room : (out : List ℕ) (value : ℤ) (frame : Frame) → HasRoomToSpawn (closing_stop out value) frame
closing_has_room [] value frame = tt
closing_has_room (child ∷ others) value frame = tt

room_is_there : (spawned : Bool) (room : ℕ) → spawned ≡ true → 0 < room_to_spawn spawned room
room_is_there true room is = omega arith
room_is_there false room is = absurd (cc)

pub operation_has_room : (p : Program) (before after : Frame) (operation : Operation) (room : ℕ) → after.out.room ≡ operation_room operation room
    → HasRoomToSpawn (operation_stop p before operation) after
operation_has_room p before after (operations.Make future task args spawned place) room is = λ spawns. subst (λ (n : ℕ). 0 < n) (sym is) (room_is_there spawned room spawns)
operation_has_room p before after (operations.Wait future true into) room is = tt
operation_has_room p before after (operations.Wait future false into) room is = tt

pub flow_has_room : (p : Program) (frame : Frame) (f : Flow) → HasRoomToSpawn (stopped_by p frame f).stop (stopped_by p frame f).frame
flow_has_room p frame (goes s) = closing_has_room frame.out.items (pos 0) (stopped_by p frame (goes s)).frame
flow_has_room p frame (returns value s) = closing_has_room frame.out.items value (stopped_by p frame (returns value s)).frame
flow_has_room p frame (fails cause place s) = tt
flow_has_room p frame (stops operation positions s) =
    operation_has_room p frame (stopped_by p frame (stops operation positions s)).frame operation frame.out.room refl

pub spawns_have_room : (p : Program) (frame : Frame) (cells : List ℤ) → HasRoomToSpawn (segment p frame cells).stop (segment p frame cells).frame
spawns_have_room p frame cells = flow_has_room p frame (flow_of p frame frame.body cells)
