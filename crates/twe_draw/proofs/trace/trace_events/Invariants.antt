use Rattle.std.proofs.Common.{◌≡◌, ◌++◌, take, map}
use Rattle.serde_json.specs.View.{view}
use Rattle.twe_draw.specs.Trace.{bar_event, row_event}
use Rattle.twe_draw.proofs.trace.trace_events.Given as goal

-- the rows up to here have events
abbrev pub invariant-loop-row : goal.invariant-loop-row
invariant-loop-row l = map view l.events.items ≡ map (row_event l.p) (take l.row-index l.tasks)

-- so have all rows, and the bars up to here
abbrev pub invariant-loop-bar : goal.invariant-loop-bar
invariant-loop-bar l =
    map view l.events.items ≡ map (row_event l.p) l.tasks ++ map (bar_event l.p l.tasks) (take l.bar-index l.bars)
