-- The frame and the stop after a run of the evaluator.
use Rattle.std.specs.Prelude.{ℤ, List, None, Some}
use Rattle.twe_program.specs.Program.{Program}
use Rattle.seg_meaning.specs.declared.frame.Frame.{Frame}
use Rattle.seg_meaning.specs.declared.frame.Next.TheVariants.{Ended}
use Rattle.seg_meaning.specs.declared.stop.Stop.{Stop}
use Rattle.seg_meaning.specs.declared.stop.Stop.TheVariants.{Fault}
use Rattle.seg_exec.specs.declared.steps.request.Ending.{Ending}
use Rattle.seg_exec.specs.declared.steps.request.Ending.TheVariants.{Returned, Faulted, Suspended}
use Rattle.seg_meaning.specs.Causes.{fault_kind}
use Rattle.seg_meaning.specs.Segment.{closing, closing_stop, operation_next, operation_out, operation_stop}

-- the frame whose body ended with this value: it joins its unjoined children next, or it is done
abbrev pub ended_with : Frame → ℤ → Frame
ended_with frame value = record frame { body = None; next = closing frame.out.items; value = value }

-- the frame and the stop by how the run of the evaluator ended, with the variables that it left
abbrev pub finished : Program → Frame → List ℤ → Ending → Frame × Stop
finished p frame vars (Returned value) = (ended_with frame value, closing_stop frame.out.items value)
finished p frame vars (Faulted cause place) = (record frame { body = None; next = Ended }, Fault (fault_kind cause) place)
finished p frame vars (Suspended held) = (
  -- the frame keeps the body, open at the operation
  record frame {
    body = Some (record { vars = vars; open_blocks = held.positions });
    next = operation_next frame held.operation;
    out = operation_out held.operation frame.out;
  },
  operation_stop p frame held.operation,
)
