-- The values of the variables that were in scope at a fault.
use Rattle.std.specs.Fmt.{signed_decimal}
use Rattle.std.specs.Prelude.{◌-◌, ◌++◌, ℕ, ℤ, Bool, true, false, List, [], ◌∷◌, Option, None, Some, codes, decimal, if◌then◌else◌, drop, length, nat_lt, slice_get}
use Rattle.std.specs.List.{flat_map}
use Rattle.twe_base.specs.declared.place.Place.{Place}
use Rattle.twe_ast.specs.declared.item.Ast.{Ast}
use Rattle.twe_ast.specs.declared.item.Item.{Item}
use Rattle.twe_program.specs.declared.program.Decl.{Decl}
use Rattle.twe_program.specs.Program.{Program}
use Rattle.seg_meaning.specs.Arithmetic.{is_true}
use Rattle.seg_meaning.specs.declared.active.ActiveCall.{ActiveCall}
use Rattle.seg_exec.specs.declared.snapshot.FaultSnapshot.{FaultSnapshot}
use Rattle.machine_state.specs.declared.state.TaskRow.{TaskRow}
use Rattle.run_notes.specs.BodyVariables.{body_variables_at}
use Rattle.run_notes.specs.declared.body_variables.BodyVariable.{BodyVariable}

-- of how many variables the values are shown at most
abbrev pub most_variables : ℕ
most_variables = 8

-- a truth value as it is written in a text
abbrev pub truth_text : Bool → List ℕ
truth_text true = codes "true"
truth_text false = codes "false"

-- the value of a variable, which holds a truth value or a number
abbrev pub variable_value : Bool → ℤ → List ℕ
variable_value boolean value = if boolean then truth_text (is_true value) else signed_decimal value

-- what a variable holds, as `n is 10`
abbrev pub variable_shown : BodyVariable → ℤ → List ℕ
variable_shown variable value =
    codes "`" ++ (variable.name.text ++ (codes "` is " ++ variable_value variable.boolean value))

-- the same, if it is in scope
abbrev pub shown_in_scope : BodyVariable → ℤ → List (List ℕ)
shown_in_scope variable value = if variable.in_scope then variable_shown variable value ∷ [] else []

-- what the variables in scope hold, by their numbers
abbrev pub variables_shown : List BodyVariable → List ℤ → List (List ℕ)
variables_shown [] values = []
variables_shown (variable ∷ variables) [] = []
variables_shown (variable ∷ variables) (value ∷ values) = shown_in_scope variable value ++ variables_shown variables values

-- texts, each after `, `
abbrev pub later_texts : List (List ℕ) → List ℕ
later_texts texts = flat_map (λ text. codes ", " ++ text) texts

-- texts with `, ` between them
abbrev pub listed_texts : List (List ℕ) → List ℕ
listed_texts [] = []
listed_texts (text ∷ texts) = text ++ later_texts texts

-- how many variables are left out, if some are: those that are declared before the others
abbrev pub more_words : ℕ → List ℕ
more_words count =
    if nat_lt most_variables count then codes ", and " ++ (decimal (count - most_variables) ++ codes " declared earlier") else []

-- what the variables hold at the place of the fault, of many those that are declared nearest to it
abbrev pub at_fault_text : List (List ℕ) → List ℕ
at_fault_text texts =
    codes "at the fault " ++ (listed_texts (drop (length texts - most_variables) texts) ++ more_words (length texts))

-- the same, if there are some
abbrev pub at_fault_remarks : List (List ℕ) → List (List ℕ)
at_fault_remarks [] = []
at_fault_remarks (text ∷ texts) = at_fault_text (text ∷ texts) ∷ []

-- the declaration of a task that was looked up
abbrev pub decl_of_row : Program → Option TaskRow → Option Decl
decl_of_row p None = None
decl_of_row p (Some row) = slice_get p.tasks row.decl

-- the declaration whose body is active in a task: that of the method that was called last, or else that of the task
abbrev pub active_decl : Program → Option TaskRow → List ActiveCall → Option Decl
active_decl p row [] = decl_of_row p row
active_decl p row (call ∷ calls) = slice_get p.methods call.method

-- the variables of a declaration that was looked up
abbrev pub variables_of_decl : List Item → Place → Option Decl → List BodyVariable
variables_of_decl items place None = []
variables_of_decl items place (Some decl) = body_variables_at place decl.place items

-- the declarations of a tree that was looked for
abbrev pub items_of : Option Ast → List Item
items_of None = []
items_of (Some tree) = tree.items

-- what the variables in scope hold at a fault of a task of this row at the place, whose snapshot this is
abbrev pub snapshot_remarks : Program → Option TaskRow → List Item → Place → Option FaultSnapshot → List (List ℕ)
snapshot_remarks p row items place None = []
snapshot_remarks p row items place (Some snapshot) =
    at_fault_remarks (variables_shown (variables_of_decl items place (active_decl p row snapshot.calls)) snapshot.vars)
