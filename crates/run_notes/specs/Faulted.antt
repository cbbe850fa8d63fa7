-- What is said of a fault.
use Rattle.std.specs.Fmt.{signed_decimal}
use Rattle.std.specs.Prelude.{◌++◌, ℕ, ℤ, List, [], ◌∷◌, Option, None, Some, bytes_eq, codes, decimal, if◌then◌else◌, slice_get}
use Rattle.twe_base.specs.declared.fault.FaultKind.{FaultKind}
use Rattle.twe_base.specs.declared.fault.FaultKind.TheVariants as kinds
use Rattle.twe_base.specs.declared.place.Place.{Place}
use Rattle.twe_base.specs.Limits.{Bounds}
use Rattle.twe_ast.specs.declared.item.Item.{Item}
use Rattle.twe_program.specs.declared.program.CellDecl.{CellDecl}
use Rattle.twe_program.specs.declared.program.Dims.{Dims}
use Rattle.twe_program.specs.declared.program.Dims.TheVariants.{Scalar, Row, Grid}
use Rattle.twe_program.specs.Program.{Program}
use Rattle.seg_meaning.specs.declared.fault.FaultCause.{FaultCause}
use Rattle.seg_meaning.specs.declared.fault.FaultCause.TheVariants.{Index, GridIndex}
use Rattle.seg_exec.specs.declared.snapshot.FaultSnapshot.{FaultSnapshot}
use Rattle.machine_state.specs.declared.state.FirstFault.{FirstFault}
use Rattle.machine_state.specs.declared.state.State.{State}
use Rattle.run_facts.specs.declared.making.TaskMaking.{TaskMaking}
use Rattle.run_facts.specs.Makings.{making_of}
use Rattle.explain_pages.specs.declared.places.note.Explanation.{Explanation}
use Rattle.explain_pages.specs.declared.places.note.Note.{Note}
use Rattle.explain_pages.specs.places.WordAt.{word_at}
use Rattle.explain_pages.specs.places.Notes.{note_at}
use Rattle.run_notes.specs.CallsShown.{call_notes, calls_left_out, runs_of}
use Rattle.run_notes.specs.CellsShown.{snapshot_cells_shown}
use Rattle.run_notes.specs.TaskTexts.{task_shown}
use Rattle.run_notes.specs.VariablesShown.{snapshot_remarks}
use Rattle.run_notes.specs.declared.calls_shown.CallRun.{CallRun}

-- what is wrong
abbrev pub fault_headline : FaultKind → List ℕ
fault_headline kinds.DivZero = codes "a number is divided by 0"
fault_headline kinds.Index = codes "an index is outside of its array"
fault_headline kinds.Fuel = codes "a task has no fuel left"
fault_headline kinds.Depth = codes "too many calls are active in a task"
fault_headline kinds.TaskLimit = codes "no more tasks may be made"

-- how many elements the array of this name is declared with, if there is one
abbrev pub dims_named : List ℕ → List CellDecl → Option Dims
dims_named word [] = None
dims_named word (cell ∷ cells) = if bytes_eq cell.name word then Some cell.dims else dims_named word cells

-- what an index of an array of this name may be
abbrev pub row_bound : List ℕ → ℕ → List ℕ
row_bound name count = codes "an index of `" ++ (name ++ (codes "` is at least 0, and less than " ++ decimal count))

-- what the indexes of a grid of this name may be
abbrev pub grid_bounds : List ℕ → ℕ → ℕ → List ℕ
grid_bounds name rows columns =
    codes "a row of `" ++ (name ++ (codes "` is at least 0, and less than " ++ (decimal rows
    ++ (codes "; a column is at least 0, and less than " ++ decimal columns))))

-- what the indexes of any array may be
abbrev pub any_bound : List ℕ
any_bound = codes "an index is at least 0, and less than the bound of its array"

-- what the indexes of a declaration of this name may be
abbrev pub bounds_text : List ℕ → Dims → List ℕ
bounds_text name Scalar = any_bound
bounds_text name (Row count) = row_bound name count
bounds_text name (Grid rows columns) = grid_bounds name rows columns

-- the same of a declaration that was looked up
abbrev pub bounds_found : List ℕ → Option Dims → List ℕ
bounds_found name None = any_bound
bounds_found name (Some dims) = bounds_text name dims

-- how much fuel a task has
abbrev pub task_fuel_text : ℕ → List ℕ
task_fuel_text fuel =
    codes "a task of this run has fuel " ++ (decimal fuel
    ++ codes ": a turn of a loop, a call, a print, a make and a wait take 1 each")

-- how many tasks may be made
abbrev pub task_limit_text : ℕ → List ℕ
task_limit_text tasks = codes "the limit on tasks is " ++ (decimal tasks ++ codes " in this run, and main is one of them")

-- a number after these words
abbrev pub number_after : List ℕ → ℤ → List ℕ
number_after words number = words ++ signed_decimal number

-- the index, or the row and the column, that led to a fault, as words before those on its bound
abbrev pub index_words : Option FaultCause → List ℕ
index_words (Some (Index index)) = number_after (codes "the index is ") index ++ codes "; "
index_words (Some (GridIndex row column)) =
    number_after (codes "the row is ") row ++ (number_after (codes " and the column is ") column ++ codes "; ")
index_words _ = []

-- the same in a snapshot, if there is one
abbrev pub index_words_in : Option FaultSnapshot → List ℕ
index_words_in None = []
index_words_in (Some snapshot) = index_words snapshot.cause

-- the bound that was met; for an index, the one of the array whose name this is
abbrev pub fault_remark : Bounds → List CellDecl → List ℕ → FaultKind → List ℕ
fault_remark lim cells word kinds.DivZero = codes "the right side of this / or % was 0, and no number is the result"
fault_remark lim cells word kinds.Index = bounds_found word (dims_named word cells)
fault_remark lim cells word kinds.Fuel = task_fuel_text lim.fuel
fault_remark lim cells word kinds.Depth = codes "1000 calls are active here, each inside the one before, and that is the limit"
fault_remark lim cells word kinds.TaskLimit = task_limit_text lim.tasks

-- a place of which this is said, if it is known
abbrev pub notes_if : Option Place → List ℕ → List Note
notes_if None caption = []
notes_if (Some place) caption = note_at place caption ∷ []

-- the task of this making is made here
abbrev pub made_caption : Program → State → TaskMaking → List ℕ
made_caption p st making =
    task_shown p st making.child ++ (codes " is made here by " ++ task_shown p st making.maker)

-- where a task was made, and by whom
abbrev pub made_notes : Program → State → Option TaskMaking → List Note
made_notes p st None = []
made_notes p st (Some making) = notes_if making.place (made_caption p st making)

-- where a task met a fault
abbrev pub fault_caption : Program → State → ℕ → List ℕ
fault_caption p st task = task_shown p st task ++ codes " meets the fault here"

-- the calls that were active in a snapshot
abbrev pub runs_of_snapshot : Option FaultSnapshot → List CallRun
runs_of_snapshot None = []
runs_of_snapshot (Some snapshot) = runs_of snapshot.calls

-- where the fault was met, the calls that were active, from the inside outwards, and where its task was made
abbrev pub fault_notes : Program → State → List TaskMaking → List CallRun → ℕ → Place → List Note
fault_notes p st makings runs task place =
    note_at place (fault_caption p st task) ∷ (call_notes p runs ++ made_notes p st (making_of makings task))

-- what is said beside the places: the index that led to it and the bound that was met, what the variables in scope held, and
-- what the cells held
abbrev pub fault_remarks : List ℕ → List Item → Program → Bounds → State → Option FaultSnapshot → FirstFault → List (List ℕ)
fault_remarks text items p lim st snapshot fault =
    (index_words_in snapshot ++ fault_remark lim p.cells (word_at text fault.place) fault.kind)
    ∷ (calls_left_out (runs_of_snapshot snapshot)
    ++ (snapshot_remarks p (slice_get st.tasks fault.task) items fault.place snapshot ++ snapshot_cells_shown snapshot p.cells))

-- what is said of a fault with this snapshot in a run of this text under these limits, which has come to this state; the
-- declarations are those of the text
abbrev pub fault_explanation
    : List ℕ → List Item → Program → Bounds → State → List TaskMaking → Option FaultSnapshot → FirstFault → Explanation
fault_explanation text items p lim st makings snapshot fault = record {
  headline = fault_headline fault.kind;
  notes = fault_notes p st makings (runs_of_snapshot snapshot) fault.task fault.place;
  remarks = fault_remarks text items p lim st snapshot fault;
}
