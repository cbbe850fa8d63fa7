-- What the expressions and statements of a text mean, if these names are in scope.
use Rattle.std.specs.Prelude.{ℕ, Bool, false, List, Option, None, Some}
use Rattle.twe_base.specs.declared.place.Place.{Place}
use Rattle.twe_ast.specs.declared.stmt.LocalType.{LocalType}
use Rattle.twe_ast.specs.declared.stmt.LocalType.TheVariants as types
use Rattle.twe_ast.specs.Expression as ast
use Rattle.twe_ast.specs.Statement as ast_stmt
use Rattle.twe_program.specs.Expression.{Expression, Literal, Truth, Variable, CellValue, ArrayElement, GridElement, CallValue, Negative, Negation, Binary, Arguments, no_more, argument}
use Rattle.twe_program.specs.Statement as stmt
use Rattle.name_check.specs.declared.binding.Global.TheVariants as global_kinds
use Rattle.name_check.specs.declared.binding.Local.TheVariants as local_kinds
use Rattle.name_check.specs.declared.binding.Binding.{Binding}
use Rattle.name_check.specs.declared.binding.Binding.TheVariants as bindings
use Rattle.name_check.specs.declared.names.GlobalName.{GlobalName}
use Rattle.name_check.specs.declared.scope.LocalName.{LocalName}
use Rattle.name_check.specs.Names.{binding_of}
use Rattle.name_check.specs.declared.scope.BodyScope.{BodyScope}
use Rattle.name_check.specs.BodyScope.{counted_binding, after, after_block}

-- the number of the declaration of cells to which a name is bound; 0 if it is bound otherwise, and a rule of names fails
abbrev pub cells_number : Option Binding → ℕ
cells_number (Some (bindings.Global (global_kinds.Cells number indexes))) = number
cells_number _ = 0

-- the same for a method
abbrev pub method_number : Option Binding → ℕ
method_number (Some (bindings.Global (global_kinds.Method number params returns))) = number
method_number _ = 0

-- the same for a task
abbrev pub task_number : Option Binding → ℕ
task_number (Some (bindings.Global (global_kinds.Task number params returns))) = number
task_number _ = 0

-- the same for a future
abbrev pub future_number : Option Binding → ℕ
future_number (Some (bindings.Local (local_kinds.Future number spawned void))) = number
future_number _ = 0

-- a parameter or an `int` local that may not be assigned is itself in an index
abbrev pub is_fixed : LocalType → Bool → Bool
is_fixed types.Int constant = constant
is_fixed types.Boolean constant = false

-- a name that is used as a value
abbrev pub value_meaning : Option Binding → Place → Expression
value_meaning (Some (bindings.Local (local_kinds.Variable number local_type constant))) place =
    Variable number (is_fixed local_type constant)
value_meaning other place = CellValue (cells_number other) place

-- what an expression means: numbers stand for its names, and the places stay of what can meet a fault or fail a rule
abbrev mutual
  pub expression_of : List GlobalName → List LocalName → ast.Expression → Expression
  expression_of globals locals (ast.expression place shape) = shape_of globals locals shape

  pub shape_of : List GlobalName → List LocalName → ast.Shape → Expression
  shape_of globals locals (ast.Literal value) = Literal value
  shape_of globals locals (ast.Truth value) = Truth value
  shape_of globals locals (ast.Variable name) = value_meaning (binding_of globals locals name.text) name.place
  shape_of globals locals (ast.ArrayElement array index) =
      ArrayElement (cells_number (binding_of globals locals array.text)) (expression_of globals locals index) array.place
  shape_of globals locals (ast.GridElement array row column) =
      GridElement (cells_number (binding_of globals locals array.text))
      (expression_of globals locals row) (expression_of globals locals column) array.place
  shape_of globals locals (ast.CallValue method args) =
      CallValue (method_number (binding_of globals locals method.text)) (arguments_of globals locals args) method.place
  shape_of globals locals (ast.Negative operand) = Negative (expression_of globals locals operand)
  shape_of globals locals (ast.Negation operand) = Negation (expression_of globals locals operand)
  shape_of globals locals (ast.Binary op left right place) =
      Binary op (expression_of globals locals left) (expression_of globals locals right) place

  pub arguments_of : List GlobalName → List LocalName → ast.Arguments → Arguments
  arguments_of globals locals ast.no_more = no_more
  arguments_of globals locals (ast.argument first others) =
      argument (expression_of globals locals first) (arguments_of globals locals others)

-- what the value of a `return` means, if there is one
abbrev pub value_if : List GlobalName → List LocalName → Option ast.Expression → Option Expression
value_if globals locals None = None
value_if globals locals (Some value) = Some (expression_of globals locals value)

-- the assignment of a value to the binding of a name
abbrev pub set_of : ℕ → Option Binding → Expression → Place → stmt.Statement
set_of point (Some (bindings.Local (local_kinds.Variable number local_type constant))) value place = stmt.Set point number value
set_of point other value place = stmt.SetCell point (cells_number other) value place

-- What a statement means. Its point is the number of statements before it, and a local and a future get the numbers that
-- come next.
abbrev mutual
  pub statement_of : List GlobalName → BodyScope → ast_stmt.Statement → stmt.Statement
  statement_of globals here (ast_stmt.Block body) = stmt.Block here.points (statements_of globals (counted_binding here) body)
  statement_of globals here (ast_stmt.Let is_final local_type name value) =
      stmt.Let here.points here.vars (expression_of globals here.locals value)
  statement_of globals here (ast_stmt.Set name value) =
      set_of here.points (binding_of globals here.locals name.text) (expression_of globals here.locals value) name.place
  statement_of globals here (ast_stmt.SetArray array index value) =
      stmt.SetArray here.points (cells_number (binding_of globals here.locals array.text))
      (expression_of globals here.locals index) (expression_of globals here.locals value) array.place
  statement_of globals here (ast_stmt.SetGrid array row column value) =
      stmt.SetGrid here.points (cells_number (binding_of globals here.locals array.text))
      (expression_of globals here.locals row) (expression_of globals here.locals column)
      (expression_of globals here.locals value) array.place
  statement_of globals here (ast_stmt.If arms) = stmt.If here.points (arms_of globals (counted_binding here) arms)
  statement_of globals here (ast_stmt.While place condition body) =
      stmt.While here.points (expression_of globals here.locals condition)
      (statements_of globals (counted_binding here) body) place
  statement_of globals here (ast_stmt.Return place value) = stmt.Return here.points (value_if globals here.locals value)
  statement_of globals here (ast_stmt.Print place value) = stmt.Print here.points (expression_of globals here.locals value) place
  statement_of globals here (ast_stmt.Call method args) =
      stmt.Call here.points (method_number (binding_of globals here.locals method.text))
      (arguments_of globals here.locals args) method.place
  statement_of globals here (ast_stmt.Make future task spawned args) =
      stmt.Make here.points here.futures (task_number (binding_of globals here.locals task.text))
      (arguments_of globals here.locals args) spawned future.place task.place
  statement_of globals here (ast_stmt.Wait wait) =
      stmt.Wait here.points (future_number (binding_of globals here.locals wait.future.text)) wait.join None wait.future.place
  statement_of globals here (ast_stmt.LetWait is_final name wait) =
      stmt.Wait here.points (future_number (binding_of globals here.locals wait.future.text))
      wait.join (Some here.vars) wait.future.place

  pub statements_of : List GlobalName → BodyScope → ast_stmt.Statements → stmt.Statements
  statements_of globals here (ast_stmt.end_of_block close) = stmt.no_more
  statements_of globals here (ast_stmt.statement first others) =
      stmt.statement (statement_of globals here first) (statements_of globals (after globals here first) others)

  pub arms_of : List GlobalName → BodyScope → ast_stmt.Arms → stmt.Arms
  arms_of globals here (ast_stmt.arm condition body others) =
      stmt.arm (expression_of globals here.locals condition)
      (statements_of globals here body)
      (arms_of globals (after_block globals here body) others)
  arms_of globals here (ast_stmt.otherwise body) = stmt.otherwise (statements_of globals here body)
  arms_of globals here ast_stmt.no_else = stmt.no_else
