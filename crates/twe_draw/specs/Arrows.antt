-- The arrows of a picture.
use Rattle.std.specs.Prelude.{◌++◌, ℕ, List, [], Option, None, Some, codes, if◌then◌else◌, nat_lt, option_and_then, slice_get}
use Rattle.seg_journal.specs.declared.journal.End.{End}
use Rattle.seg_journal.specs.declared.journal.End.TheVariants as ends
use Rattle.twe_draw.specs.declared.picture.bars.EntryBar.{EntryBar}
use Rattle.twe_draw.specs.picture.Shapes.{upright}
use Rattle.twe_draw.specs.declared.scale.Axis.{Axis}
use Rattle.twe_draw.specs.Scale.{bar_begin, bar_end, row_bottom, row_top, time_column}
use Rattle.twe_draw.specs.Shown.{row_at}

-- an arrow of this class at this place, from one row to another
abbrev pub arrow : List ℕ → ℕ → ℕ → ℕ → List ℕ
arrow class left from to =
    if nat_lt from to
    then upright class left (row_bottom from) (row_top to)
    else upright class left (row_top from) (row_bottom to)

-- the arrow to the row of a task that an entry has made, if it has one
abbrev pub made_placed : Axis → EntryBar → ℕ → Option ℕ → List ℕ
made_placed axis bar row None = []
made_placed axis bar row (Some child) =
    arrow (codes "makes") (time_column axis.length (bar_end axis.kind bar)) row child

-- an arrow goes from the end of what made a task to the row of the task
abbrev pub made_arrow : List (Option ℕ) → Axis → EntryBar → ℕ → End → List ℕ
made_arrow rows axis bar row (ends.Made child) = made_placed axis bar row (row_at rows child)
made_arrow rows axis bar row _ = []

-- the arrow from the row of a task whose value was taken, if it has one
abbrev pub taken_placed : Axis → EntryBar → ℕ → Option ℕ → List ℕ
taken_placed axis bar row None = []
taken_placed axis bar row (Some giver) =
    arrow (codes "gives") (time_column axis.length (bar_begin axis.kind bar)) giver row

-- an arrow goes from the row of a task to the beginning of what took its value, if an entry was looked up that has done it
abbrev pub taken_arrow : List (Option ℕ) → Axis → EntryBar → ℕ → Option EntryBar → List ℕ
taken_arrow rows axis bar row None = []
taken_arrow rows axis bar row (Some giver) = taken_placed axis bar row (row_at rows giver.task)

-- the arrows of an entry in this row, if its task has one
abbrev pub arrows_placed : List EntryBar → List (Option ℕ) → Axis → EntryBar → Option ℕ → List ℕ
arrows_placed bars rows axis bar None = []
arrows_placed bars rows axis bar (Some row) =
    made_arrow rows axis bar row bar.end ++ taken_arrow rows axis bar row (option_and_then (slice_get bars) bar.giver)

-- the arrows of an entry whose bar is shown
abbrev pub arrows_shown : List EntryBar → List (Option ℕ) → Axis → EntryBar → List ℕ
arrows_shown bars rows axis bar = arrows_placed bars rows axis bar (row_at rows bar.task)
