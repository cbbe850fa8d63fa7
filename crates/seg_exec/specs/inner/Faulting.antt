-- How a run of the evaluator met its fault.
use Rattle.std.specs.Prelude.{ℤ, List, Option, None, Some}
use Rattle.seg_meaning.specs.declared.active.ActiveCall.{ActiveCall}
use Rattle.seg_exec.specs.declared.snapshot.FaultSnapshot.{FaultSnapshot}
use Rattle.seg_exec.specs.declared.steps.request.Ending.{Ending}
use Rattle.seg_exec.specs.declared.steps.request.Ending.TheVariants.{Returned, Faulted, Suspended}

-- what is there at the end of a run, if it is a fault: these variables, these active calls and these cells
abbrev pub snapshot_at : Ending → List ℤ → List ActiveCall → List ℤ → Option FaultSnapshot
snapshot_at (Faulted cause place) vars calls cells =
    Some (record { cause = Some cause; vars = vars; calls = calls; cells = cells })
snapshot_at (Returned value) vars calls cells = None
snapshot_at (Suspended held) vars calls cells = None
