-- The texts that are written. Each line ends with byte 10.
use Rattle.std.specs.Prelude.{◌-◌, ◌/◌, ◌%◌, ◌++◌, ℕ, suc, List, [], ◌∷◌, codes, decimal, drop, length, min}
use Rattle.std.specs.List.{flat_map}
use Rattle.twe_program.specs.declared.program.Decl.{Decl}
use Rattle.schedules.specs.Schedules.{least_time}
use Rattle.span_profile.specs.Advice.{parallelism_of}
use Rattle.span_profile.specs.Totals.{total_of}
use Rattle.span_profile.specs.declared.totals.TaskTotal.{TaskTotal}
use Rattle.span_profile.specs.declared.totals.TaskWork.{TaskWork}
use Rattle.held_span.specs.declared.hold.Hold.{Hold}
use Rattle.machine_state.specs.declared.state.TaskRow.{TaskRow}
use Rattle.twe_advise.specs.HeldTimes.{held_time}
use Rattle.twe_advise.specs.Paces.{shown_time, speed_up}
use Rattle.twe_advise.specs.declared.paces.PacedTime.{PacedTime}

-- a number at the right of a column of 12 bytes; a longer number takes more
abbrev pub number_column : ℕ → List ℕ
number_column number = drop (min (length (decimal number)) 12) (codes "            ") ++ decimal number

-- a word and a number
abbrev pub word_number : List ℕ → ℕ → List ℕ
word_number word number = word ++ decimal number

-- hundredths, as `1.33`
abbrev pub hundredths_text : ℕ → List ℕ
hundredths_text number = decimal (number / 100) ++ (word_number (codes ".") (number / 10 % 10) ++ decimal (number % 10))

-- hundredths at the right of a column of 12 bytes; a longer number takes more
abbrev pub hundredths_column : ℕ → List ℕ
hundredths_column number =
    drop (min (length (decimal (number / 100))) 9) (codes "         ") ++ hundredths_text number

-- `work 8, span 6, parallelism 1.33`
unfoldable pub head_text : ℕ → ℕ → List ℕ
head_text work span =
    (word_number (codes "work ") work ++ word_number (codes ", span ") span)
    ++ ((codes ", parallelism " ++ hundredths_text (parallelism_of work span)) ++ codes "\n")

-- the held span, and how much longer than the span the order of admissions makes it
unfoldable pub held_text : ℕ → ℕ → List ℕ
held_text span held =
    (word_number (codes "held span ") held ++ word_number (codes ": the order of admissions adds ") (held - span)) ++ codes "\n"

-- this time, and the speed-up of this work in it, at the end of a row
abbrev pub speed_up_end : ℕ → ℕ → List ℕ
speed_up_end work time = number_column time ++ (hundredths_column (speed_up work time) ++ codes "\n")

-- so many workers, the least time of a schedule with them, the time that is shown of the paced timetable, that of the one with
-- admissions, and the speed-up with admissions
abbrev pub time_row : ℕ → ℕ → PacedTime → List ℕ
time_row work span pace =
    ((number_column pace.workers ++ number_column (least_time work span pace.workers))
    ++ number_column (shown_time work pace.time)) ++ speed_up_end work (shown_time work pace.held)

-- what the tasks of a name took: how many there were, their work, the work of the heaviest, and how long they were held
abbrev pub task_row : TaskTotal → ℕ → List ℕ → List ℕ
task_row total held name =
    (((number_column total.made ++ number_column total.work) ++ number_column total.heaviest) ++ number_column held)
    ++ ((codes "  " ++ name) ++ codes "\n")

-- a row for each of these declarations, by its number; the first has this one
abbrev pub rows_by : (ℕ → Decl → List ℕ) → ℕ → List Decl → List ℕ
rows_by row number [] = []
rows_by row number (decl ∷ decls) = row number decl ++ rows_by row (suc number) decls

-- what the tasks of the declaration with this number and this name took
abbrev pub task_row_of : List TaskWork → List TaskRow → List Hold → ℕ → Decl → List ℕ
task_row_of works rows holds number decl = task_row (total_of number works) (held_time rows holds number) decl.name

-- the rows of these declarations, the first of which has this number
abbrev pub task_rows : List TaskWork → List TaskRow → List Hold → ℕ → List Decl → List ℕ
task_rows works rows holds number decls = rows_by (task_row_of works rows holds) number decls

-- the table of times
unfoldable pub times_text : ℕ → ℕ → List PacedTime → List ℕ
times_text work span paces = codes "\n     workers  least time  paced time  paced held    speed-up\n" ++ flat_map (time_row work span) paces

-- the table of tasks
unfoldable pub tasks_text : List TaskWork → List TaskRow → List Hold → List Decl → List ℕ
tasks_text works rows holds decls =
    codes "\n       tasks        work    heaviest        held  name\n" ++ task_rows works rows holds 0 decls

-- what is written as tables: work, span and parallelism, the held span, the times, and the tasks
abbrev pub tables_text : List Decl → ℕ → ℕ → ℕ → List Hold → List PacedTime → List TaskWork → List TaskRow → List ℕ
tables_text decls work span held holds paces works rows =
    ((head_text work span ++ held_text span held) ++ times_text work span paces) ++ tasks_text works rows holds decls
