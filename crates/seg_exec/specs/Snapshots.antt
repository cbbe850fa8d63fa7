-- How a segment met its fault.
use Rattle.std.specs.Prelude.{Option, None, Some}
use Rattle.seg_exec.specs.declared.snapshot.FaultSnapshot.{FaultSnapshot}
use Rattle.seg_meaning.specs.Store.{Flow, goes, returns, fails, stops}

-- what was there when the rest of a body met a fault: what led to it, the variables of the active body, the active calls,
-- the latest first, and the cells with what was written before; none if it met no fault
abbrev pub snapshot_of : Flow → Option FaultSnapshot
snapshot_of (fails cause place s) = Some (record { cause = Some cause; vars = s.vars; calls = s.calls; cells = s.cells })
snapshot_of (goes s) = None
snapshot_of (returns value s) = None
snapshot_of (stops operation positions s) = None
