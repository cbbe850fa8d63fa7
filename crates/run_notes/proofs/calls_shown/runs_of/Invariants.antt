use Rattle.std.proofs.Common.{◌≡◌, ◌≤◌, length, drop}
use Rattle.run_notes.specs.CallsShown.{runs_of}
use Rattle.run_notes.proofs.calls_shown.runs_of.Given as goal

-- the runs of the calls from here on
abbrev pub invariant-loop-at : goal.invariant-loop-at
invariant-loop-at l = record { within : l.at ≤ length l.calls; runs : l.runs ≡ runs_of (drop l.at l.calls) }

-- one call fewer is left
abbrev pub decreases-loop-at : goal.decreases-loop-at
decreases-loop-at l = l.at
