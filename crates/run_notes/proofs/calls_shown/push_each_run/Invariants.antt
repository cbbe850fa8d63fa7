use Rattle.std.proofs.Common.{◌≡◌, ◌++◌, map, drop}
use Rattle.run_notes.specs.CallsShown.{call_note}
use Rattle.run_notes.proofs.calls_shown.push_each_run.Given as goal

-- what was added so far, with the calls that are left
abbrev pub invariant-loop-run : goal.invariant-loop-run
invariant-loop-run l = l.notes ++ map (call_note l.p) (drop l.run-index l.runs) ≡ l.fn.notes ++ map (call_note l.p) l.runs
