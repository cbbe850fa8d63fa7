-- The heaviest chain as it is written for people: a line for each of its entries that begins a task or comes back to it, and why
-- it comes after the one before. The entry before is always of the task of the line above.
use Rattle.std.specs.Prelude.{◌++◌, ℕ, Bool, true, false, List, [], ◌∷◌, Option, None, Some, codes, decimal, slice_get}
use Rattle.twe_program.specs.Program.{Program}
use Rattle.machine_state.specs.declared.state.TaskRow.{TaskRow}
use Rattle.run_texts.specs.CellTexts.{cell_text}
use Rattle.run_texts.specs.TaskLabels.{decl_place_text, task_call}
use Rattle.span_profile.specs.declared.reasons.ChainStep.{ChainStep}
use Rattle.span_profile.specs.declared.reasons.LinkReason.{LinkReason}
use Rattle.span_profile.specs.declared.reasons.LinkReason.TheVariants.{First, GoesOn, Made, Took, Read, Printed, Wrote, Unlinked}
use Rattle.twe_advise.specs.Texts.{number_column}

-- what the entry before did with a path: it wrote it, or it only read it
abbrev pub access_words : Bool → List ℕ
access_words true = codes " wrote it"
access_words false = codes " read it"

-- ` after 1 wrote it`
abbrev pub after_words : ℕ → Bool → List ℕ
after_words before wrote = codes " after " ++ (decimal before ++ access_words wrote)

-- `, writes Total after 1 read it`
abbrev pub write_words : List ℕ → ℕ → Bool → List ℕ
write_words path before wrote = codes ", writes " ++ (path ++ after_words before wrote)

-- `, reads Total after 1 wrote it`
abbrev pub read_words : List ℕ → ℕ → List ℕ
read_words path before = codes ", reads " ++ (path ++ after_words before true)

-- why an entry comes after one of this task
abbrev pub reason_words : Program → ℕ → LinkReason → List ℕ
reason_words p before First = []
reason_words p before GoesOn = []
reason_words p before Made = codes ", made by " ++ decimal before
reason_words p before Took = codes ", waited for " ++ decimal before
reason_words p before (Read cell) = read_words (cell_text p cell) before
reason_words p before (Printed wrote) = write_words (codes "Console") before wrote
reason_words p before (Wrote cell wrote) = write_words (cell_text p cell) before wrote
reason_words p before Unlinked = []

-- a task by its number, its name, its arguments and the place of its declaration, as `1 part(0) of 4:11`
abbrev pub task_placed : Program → TaskRow → List ℕ
task_placed p row = task_call p row ++ decl_place_text (slice_get p.tasks row.decl)

-- the same of a task that was looked up
abbrev pub task_found : Program → Option TaskRow → List ℕ
task_found p None = []
task_found p (Some row) = task_placed p row

-- a time that was looked up
abbrev pub begin_found : Option ℕ → ℕ
begin_found None = 0
begin_found (Some time) = time

-- when the entry of this number begins at the earliest
abbrev pub begin_of : List ℕ → ℕ → ℕ
begin_of starts entry = begin_found (slice_get starts entry)

-- the line of an entry: its number, when it begins at the earliest, its task, and why it comes after one of the task `before`
abbrev pub step_line : Program → List TaskRow → List ℕ → ℕ → ChainStep → List ℕ
step_line p tasks starts before step =
    number_column step.entry
    ++ (number_column (begin_of starts step.entry)
    ++ (codes "  " ++ (task_found p (slice_get tasks step.task) ++ (reason_words p before step.reason ++ codes "\n"))))

-- an entry of the task of the one before has no line of its own
abbrev pub step_text : Program → List TaskRow → List ℕ → ℕ → ChainStep → LinkReason → List ℕ
step_text p tasks starts before step GoesOn = []
step_text p tasks starts before step _ = step_line p tasks starts before step

-- the lines of these entries, of which the first comes after one of this task
abbrev pub step_lines : Program → List TaskRow → List ℕ → ℕ → List ChainStep → List ℕ
step_lines p tasks starts before [] = []
step_lines p tasks starts before (step ∷ steps) =
    step_text p tasks starts before step step.reason ++ step_lines p tasks starts step.task steps

-- the table of the chain
unfoldable pub chain_text : Program → List TaskRow → List ℕ → List ChainStep → List ℕ
chain_text p tasks starts steps = codes "\n       entry      begins  heaviest chain\n" ++ step_lines p tasks starts 0 steps
