-- The rows and the bars of a picture.
use Rattle.std.specs.Prelude.{◌==◌, ◌&&◌, ◌++◌, ℕ, Bool, true, false, List, [], Option, None, Some, codes, if◌then◌else◌, option_and_then, slice_get}
use Rattle.seg_journal.specs.declared.journal.End.{End}
use Rattle.seg_journal.specs.declared.journal.End.TheVariants as ends
use Rattle.seg_journal.specs.declared.moves.Kind.{Kind}
use Rattle.seg_journal.specs.declared.moves.Kind.TheVariants.{Admit, Run}
use Rattle.twe_program.specs.declared.program.Decl.{Decl}
use Rattle.twe_program.specs.Program.{Program}
use Rattle.machine_state.specs.declared.state.TaskRow.{TaskRow}
use Rattle.run_texts.specs.TaskLabels.{task_call}
use Rattle.twe_draw.specs.declared.picture.bars.EntryBar.{EntryBar}
use Rattle.twe_draw.specs.picture.Shapes.{plain_box, row_line, titled_box, words_at}
use Rattle.twe_draw.specs.declared.scale.Axis.{Axis}
use Rattle.twe_draw.specs.Scale.{bar_begin, bar_end, row_bottom, row_top, time_column, time_width}
use Rattle.twe_draw.specs.Labels.{bar_title, wait_title}
use Rattle.twe_draw.specs.Shown.{row_at}

-- a row: the label of its task, and a line
abbrev pub row_shape : Program → TaskRow → ℕ → List ℕ
row_shape p task row = words_at 6 (row_bottom row) (task_call p task) ++ row_line (row_bottom row)

-- the row of a task, if it has one
abbrev pub row_placed : Program → TaskRow → Option ℕ → List ℕ
row_placed p task None = []
row_placed p task (Some row) = row_shape p task row

-- only tasks that are shown have one
abbrev pub row_shown : Program → List (Option ℕ) → TaskRow → List ℕ
row_shown p rows task = row_placed p task (row_at rows task.frame.task)

-- whether a declaration that was looked up is of a deterministic task
abbrev pub is_deterministic_found : Option Decl → Bool
is_deterministic_found None = false
is_deterministic_found (Some decl) = decl.deterministic

-- the same of the declaration of a row that was looked up
abbrev pub is_deterministic_row : Program → Option TaskRow → Bool
is_deterministic_row p None = false
is_deterministic_row p (Some row) = is_deterministic_found (slice_get p.tasks row.decl)

-- the class of a bar: an admission, a segment of a deterministic task, or another segment
abbrev pub class_of : Program → Option TaskRow → Kind → List ℕ
class_of p row Admit = codes "admission"
class_of p row Run = if is_deterministic_row p row then codes "deterministic" else codes "segment"

-- the bar of an entry in this row
abbrev pub bar_shape : Program → List TaskRow → Axis → EntryBar → ℕ → List ℕ
bar_shape p tasks axis bar row =
    titled_box (class_of p (slice_get tasks bar.task) bar.kind) (time_column axis.length (bar_begin axis.kind bar)) (row_top row)
    (time_width axis.length (bar_begin axis.kind bar) (bar_end axis.kind bar)) (bar_title p tasks bar)

-- whether a task that has ended a segment so waits
abbrev pub is_waiting : End → Bool
is_waiting (ends.Waits on) = true
is_waiting (ends.Joins on) = true
is_waiting _ = false

-- a task that has waited since an entry that was looked up has a grey box in its row from there to its next entry, which tells
-- whom it waits for
abbrev pub wait_since : Program → List TaskRow → Axis → EntryBar → ℕ → Option EntryBar → List ℕ
wait_since p tasks axis bar row None = []
wait_since p tasks axis bar row (Some before) =
    if (before.task == bar.task) && is_waiting before.end
    then titled_box (codes "waits") (time_column axis.length (bar_end axis.kind before)) (row_top row)
    (time_width axis.length (bar_end axis.kind before) (bar_begin axis.kind bar)) (wait_title p tasks before)
    else []

-- the grey box before the bar of an entry, if its task has waited
abbrev pub wait_shape : Program → List TaskRow → List EntryBar → Axis → EntryBar → ℕ → List ℕ
wait_shape p tasks bars axis bar row = wait_since p tasks axis bar row (option_and_then (slice_get bars) bar.previous)

-- what an entry has in its row, if its task has one
abbrev pub bar_placed : Program → List TaskRow → List EntryBar → Axis → EntryBar → Option ℕ → List ℕ
bar_placed p tasks bars axis bar None = []
bar_placed p tasks bars axis bar (Some row) = wait_shape p tasks bars axis bar row ++ bar_shape p tasks axis bar row

-- only what stands in a row is shown
abbrev pub bar_shown : Program → List TaskRow → List EntryBar → List (Option ℕ) → Axis → EntryBar → List ℕ
bar_shown p tasks bars rows axis bar = bar_placed p tasks bars axis bar (row_at rows bar.task)

-- the outline of a bar in its row, if its task has one
abbrev pub outline_placed : Axis → EntryBar → Option ℕ → List ℕ
outline_placed axis bar None = []
outline_placed axis bar (Some row) =
    plain_box (codes "chain") (time_column axis.length (bar_begin axis.kind bar)) (row_top row)
    (time_width axis.length (bar_begin axis.kind bar) (bar_end axis.kind bar))

-- the outline of a bar of the heaviest chain that was looked up
abbrev pub outline_found : List (Option ℕ) → Axis → Option EntryBar → List ℕ
outline_found rows axis None = []
outline_found rows axis (Some bar) = outline_placed axis bar (row_at rows bar.task)

-- the outline of the bar of the entry of this number
abbrev pub outline : List EntryBar → List (Option ℕ) → Axis → ℕ → List ℕ
outline bars rows axis number = outline_found rows axis (slice_get bars number)
