-- Where things stand in a picture, in pixels from its left and its top. Each task that is shown has a row, and time goes to the
-- right.
use Rattle.std.specs.Prelude.{◌+◌, ◌-◌, ◌*◌, ◌/◌, ℕ, List, Option, None, Some, length, max, min}
use Rattle.held_span.specs.declared.hold.Hold.{Hold}
use Rattle.twe_draw.specs.declared.picture.bars.EntryBar.{EntryBar}
use Rattle.twe_draw.specs.declared.scale.Axis.{Axis}
use Rattle.twe_draw.specs.declared.words.AxisKind.{AxisKind}
use Rattle.twe_draw.specs.declared.words.AxisKind.TheVariants.{Time, Order}

-- the axis of a picture: it is as long as the held span, or has a column for each entry
abbrev pub axis_of : AxisKind → ℕ → List EntryBar → Axis
axis_of Time held bars = record { kind = Time; length = held }
axis_of Order held bars = record { kind = Order; length = length bars }

-- when the entry of a bar begins, or its column
abbrev pub bar_begin : AxisKind → EntryBar → ℕ
bar_begin Time bar = bar.begins
bar_begin Order bar = bar.number

-- when the entry of a bar ends, or the next column
abbrev pub bar_end : AxisKind → EntryBar → ℕ
bar_end Time bar = bar.ends
bar_end Order bar = bar.number + 1

-- the column after that of an entry, if there is one, and else the first
abbrev pub column_after : Option ℕ → ℕ
column_after None = 0
column_after (Some number) = number + 1

-- since when the admission of a bar was held: the time of the hold before it, or the column after that of the entry that made
-- its task
abbrev pub held_begin : AxisKind → EntryBar → Hold → ℕ
held_begin Time bar hold = bar.begins - hold.time
held_begin Order bar hold = column_after bar.previous

-- where a time stands in a picture of this length, which is 1000 pixels wide; later times stand at its end
unfoldable pub time_column : ℕ → ℕ → ℕ
time_column whole time = min time whole * 1000 / max whole 1 + 240

-- how wide it is from one time to another: at least 2
unfoldable pub time_width : ℕ → ℕ → ℕ → ℕ
time_width whole from until = max (time_column whole until - time_column whole from) 2

-- the top of the bars of a row
unfoldable pub row_top : ℕ → ℕ
row_top row = 92 + 20 * row

-- the bottom of the bars of a row
unfoldable pub row_bottom : ℕ → ℕ
row_bottom row = 106 + 20 * row

-- the height of a picture of so many rows
unfoldable pub picture_height : ℕ → ℕ
picture_height rows = 120 + 20 * rows
