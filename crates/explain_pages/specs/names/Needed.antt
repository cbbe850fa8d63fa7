-- What people read of what a text needs at a place, and of what is there.
use Rattle.std.specs.Prelude.{ℕ, Bool, true, false, nat_lt, ◌==◌, decimal, List, [], ◌∷◌, ◌++◌, Option, None, Some, codes, if◌then◌else◌}
use Rattle.twe_base.specs.Language.{max_cells, max_effects, max_parameters, max_path_elements}
use Rattle.twe_ast.specs.declared.item.ReturnType.{ReturnType}
use Rattle.twe_ast.specs.declared.item.ReturnType.TheVariants as return_types
use Rattle.twe_ast.specs.declared.stmt.LocalType.{LocalType}
use Rattle.twe_ast.specs.declared.stmt.LocalType.TheVariants.{Int, Boolean}
use Rattle.name_check.specs.declared.binding.Binding.{Binding}
use Rattle.name_check.specs.declared.binding.Binding.TheVariants as bindings
use Rattle.name_check.specs.declared.binding.Global.{Global}
use Rattle.name_check.specs.declared.binding.Global.TheVariants as global_kinds
use Rattle.name_check.specs.declared.binding.Local.{Local}
use Rattle.name_check.specs.declared.binding.Local.TheVariants as local_kinds
use Rattle.name_check.specs.declared.binding.NameUse.{NameUse}
use Rattle.name_check.specs.declared.binding.NameUse.TheVariants as name_use
use Rattle.name_causes.specs.declared.need.NameLimit.{NameLimit}
use Rattle.name_causes.specs.declared.need.NameLimit.TheVariants.{Cells, Elements, Effects, Parameters}
use Rattle.name_causes.specs.declared.need.NameNeed.{NameNeed}
use Rattle.name_causes.specs.declared.need.NameNeed.TheVariants.{Used, Typed, New, Returned, Again, NoReturn, Over, NoMain, SecondStar}

-- an array or a grid, by its number of indexes
abbrev pub indexed_words : ℕ → List ℕ
indexed_words indexes = if indexes == 1 then codes "an array" else codes "a grid"

-- a future, by whether its task is spawned
abbrev pub future_words : Bool → List ℕ
future_words spawned = if spawned then codes "a future of a spawn" else codes "a future of an executeLater"

-- what a use needs
abbrev pub use_words : NameUse → List ℕ
use_words name_use.Region = codes "a region"
use_words name_use.Parameter = codes "a parameter"
use_words name_use.Value = codes "a cell, a parameter or a local"
use_words name_use.Target = codes "a cell or a local that can be assigned"
use_words (name_use.Array indexes) = indexed_words indexes
use_words (name_use.Method args valued) = if valued then codes "a method that returns an int" else codes "a method"
use_words (name_use.Task args) = codes "a task"
use_words (name_use.Future join valued) =
    future_words join ++ (if valued then codes " whose task returns an int" else [])

-- a type
abbrev pub type_words : LocalType → List ℕ
type_words Int = codes "an int"
type_words Boolean = codes "a boolean"

-- a parameter or a local, by its type and whether it can't be assigned
abbrev pub variable_words : LocalType → Bool → List ℕ
variable_words Int constant = if constant then codes "a parameter or a final int local" else codes "an int local"
variable_words Boolean constant = if constant then codes "a final boolean local" else codes "a boolean local"

-- what something returns
abbrev pub returns_words : ReturnType → List ℕ
returns_words return_types.Int = codes "returns an int"
returns_words return_types.Void = codes "returns nothing"

-- what the task of a future returns
abbrev pub task_words : Bool → List ℕ
task_words void = if void then codes " whose task returns nothing" else codes " whose task returns an int"

-- what is bound to a name inside a declaration
abbrev pub local_words : Local → List ℕ
local_words (local_kinds.Variable number type constant) = variable_words type constant
local_words (local_kinds.Future number spawned void) = future_words spawned ++ task_words void

-- a cell, an array or a grid, by its number of indexes
abbrev pub cells_words : ℕ → List ℕ
cells_words indexes = if indexes == 0 then codes "a cell" else indexed_words indexes

-- what is bound to a global name
abbrev pub global_words : Global → List ℕ
global_words (global_kinds.Region number) = codes "a region"
global_words (global_kinds.Cells number indexes) = cells_words indexes
global_words (global_kinds.Method number params returns) = codes "a method that " ++ returns_words returns
global_words (global_kinds.Task number params returns) = codes "a task that " ++ returns_words returns

-- what is bound to a name
abbrev pub binding_words : Binding → List ℕ
binding_words (bindings.Local local) = local_words local
binding_words (bindings.Global global) = global_words global

-- what a use needs, and what the name is bound to, if it is in scope
abbrev pub used_caption : NameUse → Option Binding → List ℕ
used_caption asks None = codes "needs " ++ use_words asks
used_caption asks (Some found) = codes "needs " ++ (use_words asks ++ (codes ", and this is " ++ binding_words found))

-- how many arguments are given, and how many parameters there are
abbrev pub counts_caption : ℕ → ℕ → List ℕ
counts_caption args params = codes "arguments: " ++ (decimal args ++ (codes ", parameters: " ++ decimal params))

-- what is given to a method or a task that is called or made
abbrev pub given_caption : NameUse → Option Binding → List ℕ
given_caption (name_use.Method args valued) (Some (bindings.Global (global_kinds.Method number params returns))) =
    counts_caption args params
given_caption (name_use.Task args) (Some (bindings.Global (global_kinds.Task number params returns))) = counts_caption args params
given_caption asks found = used_caption asks found

-- the type that is needed, and the one that is there
abbrev pub typed_caption : LocalType → Option LocalType → List ℕ
typed_caption type None = codes "needs " ++ type_words type
typed_caption type (Some found) = codes "needs " ++ (type_words type ++ (codes ", and this is " ++ type_words found))

-- what a new name is bound to already
abbrev pub new_caption : Option Binding → List ℕ
new_caption None = codes "needs a new name"
new_caption (Some found) = codes "needs a new name, and this is " ++ binding_words found

-- a `return` with a value, or without one
abbrev pub value_words : Bool → List ℕ
value_words valued = if valued then codes "has a value, and this body " else codes "has no value, and this body "

-- such a `return`, in a body that returns this
abbrev pub returned_caption : Bool → ReturnType → List ℕ
returned_caption valued returns = value_words valued ++ returns_words returns

-- how many there are, and how many there may be
abbrev pub over_words : List ℕ → ℕ → ℕ → List ℕ
over_words words count most = words ++ (codes ": " ++ (decimal count ++ (codes ", and at most " ++ decimal most)))

-- the same of cells; if there are few, the limit on nodes is exceeded
abbrev pub cells_caption : ℕ → List ℕ
cells_caption count =
    if nat_lt max_cells count
    then over_words (codes "cells up to here") count max_cells
    else codes "nodes up to here: more than 131072"

-- the same of what is limited
abbrev pub over_caption : NameLimit → ℕ → List ℕ
over_caption Cells count = cells_caption count
over_caption Elements count = over_words (codes "elements of this path") count max_path_elements
over_caption Effects count = over_words (codes "effects") count max_effects
over_caption Parameters count = over_words (codes "parameters") count max_parameters

-- how many parameters a method or a task has
abbrev pub params_words : Global → List ℕ
params_words (global_kinds.Region number) = []
params_words (global_kinds.Cells number indexes) = []
params_words (global_kinds.Method number params returns) = codes ", parameters: " ++ decimal params
params_words (global_kinds.Task number params returns) = codes ", parameters: " ++ decimal params

-- what the name `main` is bound to
abbrev pub main_caption : Option Global → List ℕ
main_caption None = codes "nothing is named main"
main_caption (Some found) = codes "main is " ++ (global_words found ++ params_words found)

-- a use of a name, by the rule on numbers of arguments or by another
abbrev pub use_caption : Bool → NameUse → Option Binding → List ℕ
use_caption counts asks found = if counts then given_caption asks found else used_caption asks found

-- what is needed at a place, and what is there; of a use by the rule on numbers of arguments, how many are given
abbrev pub need_caption : Bool → NameNeed → List ℕ
need_caption counts (Used asks found) = use_caption counts asks found
need_caption counts (Typed need found) = typed_caption need found
need_caption counts (New found) = new_caption found
need_caption counts (Returned valued returns) = returned_caption valued returns
need_caption counts Again = codes "is declared before, or is Console, which each program has"
need_caption counts (NoReturn decl_place) = codes "its body can end here"
need_caption counts (Over limit count) = over_caption limit count
need_caption counts (NoMain found) = main_caption found
need_caption counts (SecondStar first) = codes "is a second *"
