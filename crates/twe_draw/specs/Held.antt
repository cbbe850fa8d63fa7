-- The hatched boxes of a picture: admissions that were held.
use Rattle.std.specs.Prelude.{ℕ, List, [], Option, None, Some, codes, slice_get}
use Rattle.twe_program.specs.Program.{Program}
use Rattle.machine_state.specs.declared.state.TaskRow.{TaskRow}
use Rattle.held_span.specs.declared.hold.Hold.{Hold}
use Rattle.twe_draw.specs.declared.picture.bars.EntryBar.{EntryBar}
use Rattle.twe_draw.specs.picture.Shapes.{titled_box}
use Rattle.twe_draw.specs.declared.scale.Axis.{Axis}
use Rattle.twe_draw.specs.Labels.{held_title}
use Rattle.twe_draw.specs.Scale.{bar_begin, held_begin, row_top, time_column, time_width}
use Rattle.twe_draw.specs.Shown.{row_at}

-- the box of a hold in this row: from where it began to the bar of its admission; it tells who held the task
abbrev pub held_box : Program → List TaskRow → Axis → Hold → EntryBar → ℕ → List ℕ
held_box p tasks axis hold bar row =
    titled_box (codes "held") (time_column axis.length (held_begin axis.kind bar hold)) (row_top row)
    (time_width axis.length (held_begin axis.kind bar hold) (bar_begin axis.kind bar)) (held_title p tasks hold)

-- the same, if the task has a row
abbrev pub held_placed : Program → List TaskRow → Axis → Hold → EntryBar → Option ℕ → List ℕ
held_placed p tasks axis hold bar None = []
held_placed p tasks axis hold bar (Some row) = held_box p tasks axis hold bar row

-- the same of the bar that was looked up
abbrev pub held_found : Program → List TaskRow → List (Option ℕ) → Axis → Hold → Option EntryBar → List ℕ
held_found p tasks rows axis hold None = []
held_found p tasks rows axis hold (Some bar) = held_placed p tasks axis hold bar (row_at rows hold.task)

-- the box of a hold before the bar of its admission
abbrev pub held_shown : Program → List TaskRow → List EntryBar → List (Option ℕ) → Axis → Hold → List ℕ
held_shown p tasks bars rows axis hold = held_found p tasks rows axis hold (slice_get bars hold.entry)
