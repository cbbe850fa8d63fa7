-- After a run of the evaluator that stops at a make that spawns, the frame has room for one more child.
use Rattle.std.proofs.Common.{◌≡◌, ℤ, List, refl, subst, sym}
use Rattle.twe_program.specs.Program.{Program}
use Rattle.seg_meaning.specs.declared.frame.Frame.{Frame}
use Rattle.seg_meaning.specs.declared.stop.Stop.{Stop}
use Rattle.seg_meaning.specs.Segment.{HasRoomToSpawn}
use Rattle.seg_exec.specs.declared.steps.request.Ending.{Ending}
use Rattle.seg_exec.specs.declared.steps.request.Ending.TheVariants.{Returned, Faulted, Suspended}
use Rattle.seg_exec.specs.inner.Finished.{finished}
use Rattle.seg_meaning.proofs.Rooms.{closing_has_room, operation_has_room}

pub finished_has_room : (p : Program) (frame : Frame) (vars : List ℤ) (ending : Ending) → HasRoomToSpawn (finished p frame vars ending).1 (finished p frame vars ending).0
finished_has_room p frame vars (Returned value) = closing_has_room frame.out.items value (finished p frame vars (Returned value)).0
finished_has_room p frame vars (Faulted cause place) = tt
finished_has_room p frame vars (Suspended held) =
    operation_has_room p frame (finished p frame vars (Suspended held)).0 held.operation frame.out.room refl

pub so_has_room : (p : Program) (frame new_frame : Frame) (stop : Stop) (vars : List ℤ) (ending : Ending) → (new_frame, stop) ≡ finished p frame vars ending
    → HasRoomToSpawn stop new_frame
so_has_room p frame new_frame stop vars ending is =
    subst (λ (after : Frame × Stop). HasRoomToSpawn after.1 after.0) (sym is) (finished_has_room p frame vars ending)
