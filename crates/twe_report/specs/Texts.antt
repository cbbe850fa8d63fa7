-- The texts that are written. Each line ends with byte 10.
use Rattle.std.specs.Prelude.{count_by, true, false, ◌++◌, ◌+◌, ℕ, zero, suc, ℤ, Bool, List, [], ◌∷◌, length, map, codes, decimal, Option, None, Some, slice_get, if◌then◌else◌}
use Rattle.std.specs.Fmt.{signed_decimal}
use Rattle.std.specs.List.{flat_map}
use Rattle.twe_base.specs.declared.place.Place.{Place}
use Rattle.seg_journal.specs.declared.journal.Entry.{Entry}
use Rattle.twe_base.specs.declared.fault.FaultKind.{FaultKind}
use Rattle.twe_base.specs.declared.fault.FaultKind.TheVariants.{DivZero, Index, Fuel, Depth, TaskLimit}
use Rattle.twe_base.specs.Limits.{Bounds}
use Rattle.seg_journal.specs.Spelling.{head_line, move_line, move_of}
use Rattle.wait_graph.specs.declared.stuck.Edge.{Edge}
use Rattle.twe_program.specs.declared.program.Dims.{Dims}
use Rattle.twe_program.specs.declared.program.Dims.TheVariants.{Scalar, Row, Grid}
use Rattle.twe_program.specs.declared.program.CellDecl.{CellDecl}
use Rattle.twe_program.specs.Program.{Program}
use Rattle.twe_parser.specs.declared.fail.SRule.{SRule}
use Rattle.twe_parser.specs.declared.fail.SRule.TheVariants.{S1, S2, S3, S4, S5, S6}
use Rattle.name_check.specs.declared.rule.NRule.{NRule}
use Rattle.name_check.specs.declared.rule.NRule.TheVariants.{N1, N2, N3, N4, N5, N6, N7, N8, N9}
use Rattle.effect_check.specs.declared.rule.ERule.{ERule}
use Rattle.effect_check.specs.declared.rule.ERule.TheVariants.{E1, E2, E3, E4, E5, E6, E7, E8}
use Rattle.twe_frontend.specs.declared.refusal.Refusal.{Refusal}
use Rattle.twe_frontend.specs.declared.refusal.RuleName.{RuleName}
use Rattle.twe_frontend.specs.declared.refusal.RuleName.TheVariants.{Text, Name, Effect}
use Rattle.machine_state.specs.declared.state.State.{State}
use Rattle.machine_state.specs.declared.state.TaskRow.{TaskRow}
use Rattle.machine_state.specs.Rows.{is_done_row}

-- the text as a line
abbrev pub line : List ℕ → List ℕ
line text = text ++ 10 ∷ []

-- `42`
abbrev pub printed_line : ℤ → List ℕ
printed_line number = line (signed_decimal number)

-- the printed numbers, each on a line of its own
abbrev pub prints_text : List ℤ → List ℕ
prints_text prints = flat_map printed_line prints

-- the value of a cell; every cell of a program has one
abbrev pub value_shown : Option ℤ → List ℕ
value_shown None = []
value_shown (Some value) = signed_decimal value

-- the value of the cell of this number
abbrev pub value_text : List ℤ → ℕ → List ℕ
value_text cells cell = value_shown (slice_get cells cell)

-- the values of `count` cells from this number on, each after `, `
abbrev pub more_values : List ℤ → ℕ → ℕ → List ℕ
more_values cells cell zero = []
more_values cells cell (suc count) = codes ", " ++ (value_text cells cell ++ more_values cells (cell + 1) count)

-- `[1, 0, 0]`, or `[]` if the row has no cells
abbrev pub row_text : List ℤ → ℕ → ℕ → List ℕ
row_text cells cell zero = codes "[]"
row_text cells cell (suc count) = codes "[" ++ (value_text cells cell ++ (more_values cells (cell + 1) count ++ codes "]"))

-- `rows` rows of `columns` cells from this number on, each after `, `
abbrev pub more_rows : List ℤ → ℕ → ℕ → ℕ → List ℕ
more_rows cells cell zero columns = []
more_rows cells cell (suc rows) columns =
    codes ", " ++ (row_text cells cell columns ++ more_rows cells (cell + columns) rows columns)

-- `[[0, 0], [1, 10]]`, or `[]` if there are no rows
abbrev pub grid_text : List ℤ → ℕ → ℕ → ℕ → List ℕ
grid_text cells cell zero columns = codes "[]"
grid_text cells cell (suc rows) columns =
    codes "[" ++ (row_text cells cell columns ++ (more_rows cells (cell + columns) rows columns ++ codes "]"))

-- the values of a declaration whose first cell has this number
abbrev pub values_text : List ℤ → ℕ → Dims → List ℕ
values_text cells cell Scalar = value_text cells cell
values_text cells cell (Row count) = row_text cells cell count
values_text cells cell (Grid rows columns) = grid_text cells cell rows columns

-- `x = 42`
abbrev pub cell_line : List ℤ → CellDecl → List ℕ
cell_line cells cell = line (cell.name ++ (codes " = " ++ values_text cells cell.first cell.dims))

-- the printed numbers, the cells in the order of their declaration, and the number of tasks made
abbrev pub result_text : Program → State → List ℕ
result_text p st =
    prints_text st.prints
    ++ (flat_map (cell_line st.cells) p.cells
    ++ line (codes "tasks " ++ decimal (length st.tasks)))

-- the result of the load generator's program for n cells: n, the number of tasks made, and the value of the cell `s`, which is
-- the first that the program declares
abbrev pub load_result_text : ℕ → State → List ℕ
load_result_text n st =
    line (codes "load " ++ decimal n)
    ++ (line (codes "tasks " ++ decimal (length st.tasks))
    ++ line (codes "s = " ++ value_text st.cells 0))

-- the name of a rule of the text
abbrev pub text_rule : SRule → List ℕ
text_rule S1 = codes "S1"
text_rule S2 = codes "S2"
text_rule S3 = codes "S3"
text_rule S4 = codes "S4"
text_rule S5 = codes "S5"
text_rule S6 = codes "S6"

-- the name of a rule of names
abbrev pub name_rule : NRule → List ℕ
name_rule N1 = codes "N1"
name_rule N2 = codes "N2"
name_rule N3 = codes "N3"
name_rule N4 = codes "N4"
name_rule N5 = codes "N5"
name_rule N6 = codes "N6"
name_rule N7 = codes "N7"
name_rule N8 = codes "N8"
name_rule N9 = codes "N9"

-- the name of a rule on effects
abbrev pub effect_rule : ERule → List ℕ
effect_rule E1 = codes "E1"
effect_rule E2 = codes "E2"
effect_rule E3 = codes "E3"
effect_rule E4 = codes "E4"
effect_rule E5 = codes "E5"
effect_rule E6 = codes "E6"
effect_rule E7 = codes "E7"
effect_rule E8 = codes "E8"

-- the name of a rule of any of the three kinds
abbrev pub rule_text : RuleName → List ℕ
rule_text (Text rule) = text_rule rule
rule_text (Name rule) = name_rule rule
rule_text (Effect rule) = effect_rule rule

-- `3:28`
abbrev pub place_text : Place → List ℕ
place_text place = decimal place.line ++ (codes ":" ++ decimal place.col)

-- `refused: E1 at 3:28`
abbrev pub refusal_text : Refusal → List ℕ
refusal_text refusal = line (codes "refused: " ++ (rule_text refusal.rule ++ (codes " at " ++ place_text refusal.place)))

-- the name of a fault
abbrev pub fault_name : FaultKind → List ℕ
fault_name DivZero = codes "DivZero"
fault_name Index = codes "Index"
fault_name Fuel = codes "Fuel"
fault_name Depth = codes "Depth"
fault_name TaskLimit = codes "TaskLimit"

-- `fault: DivZero in task 0 at 4:34`
abbrev pub fault_text : ℕ → FaultKind → Place → List ℕ
fault_text task kind place =
    line (codes "fault: " ++ (fault_name kind ++ (codes " in task " ++ (decimal task ++ (codes " at " ++ place_text place)))))

-- what stands between the two tasks of an edge
abbrev pub edge_word : Bool → List ℕ
edge_word held = if held then codes " held by " else codes " waits "

-- `1 waits 3`, or `3 held by 1`
abbrev pub edge_text : Edge → List ℕ
edge_text edge = decimal edge.from ++ (edge_word edge.held ++ decimal edge.to)

-- edges, each after `, `
abbrev pub more_edges : List Edge → List ℕ
more_edges edges = flat_map (λ edge. codes ", " ++ edge_text edge) edges

-- edges, with `, ` between them
abbrev pub edges_text : List Edge → List ℕ
edges_text [] = []
edges_text (edge ∷ edges) = edge_text edge ++ more_edges edges

-- `stuck: 1 waits 3, 3 held by 1`
abbrev pub stuck_text : List Edge → List ℕ
stuck_text edges = line (codes "stuck: " ++ edges_text edges)

-- the lines of a journal after the other lines of a run: a line `%%`, the limits as a head, and a line for the move of each
-- entry
abbrev pub journal_part_text : Bounds → List Entry → List ℕ
journal_part_text lim journal = line (codes "%%") ++ (head_line lim ++ flat_map move_line (map move_of journal))

-- `journal: line 2 is not `, and then what the line is not
abbrev pub bad_line_text : ℕ → List ℕ → List ℕ
bad_line_text n what = line (codes "journal: line " ++ (decimal n ++ (codes " is not " ++ what)))

-- `journal: line 2 is not a move`
abbrev pub not_a_move_text : ℕ → List ℕ
not_a_move_text n = bad_line_text n (codes "a move")

-- `journal: line 2 is not legal`
abbrev pub not_legal_text : ℕ → List ℕ
not_legal_text n = bad_line_text n (codes "legal")

-- the task of this row is not done
abbrev pub is_undone : TaskRow → Bool
is_undone row = if is_done_row row then false else true

-- `unfinished: 1 of 2 tasks not done`
abbrev pub unfinished_text : State → List ℕ
unfinished_text st =
    line (codes "unfinished: " ++ (decimal (count_by is_undone st.tasks)
    ++ (codes " of " ++ (decimal (length st.tasks) ++ codes " tasks not done"))))

-- the usage line of `twe`
abbrev pub usage_text : List ℕ
usage_text = line (codes "usage: twe check | run [--workers k] [--fuel f] [--tasks t] [--journal]"
    ++ codes " | replay [--fuel f] [--tasks t] | load N [--workers k]")

-- `read fault`
abbrev pub read_fault_text : List ℕ
read_fault_text = line (codes "read fault")

-- `input too long`
abbrev pub too_long_text : List ℕ
too_long_text = line (codes "input too long")

-- `accepted`
abbrev pub accepted_text : List ℕ
accepted_text = line (codes "accepted")
