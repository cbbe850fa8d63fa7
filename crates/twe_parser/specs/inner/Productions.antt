-- The table of the parser: for each nonterminal and each next terminal the production, if there is one. A production is
-- written without its first terminal.
use Rattle.std.specs.Prelude.{ℕ, ◌+◌, Bool, true, false, List, [], ◌∷◌, ◌++◌, Option, None, Some, nat_le, if◌then◌else◌}
use Rattle.twe_ast.specs.declared.expr.BinOp.{BinOp}
use Rattle.twe_ast.specs.declared.item.ReturnType.TheVariants as returns
use Rattle.twe_ast.specs.declared.stmt.LocalType.TheVariants as locals
use Rattle.twe_lexer.specs.declared.fixed.Fixed.TheVariants as fixed
use Rattle.twe_parser.specs.declared.production.Production.{Production}
use Rattle.twe_parser.specs.declared.symbol.Access.{Access}
use Rattle.twe_parser.specs.declared.symbol.Access.TheVariants as accesses
use Rattle.twe_parser.specs.declared.symbol.WaitKind.TheVariants as waits
use Rattle.twe_parser.specs.declared.symbol.Action.{Action}
use Rattle.twe_parser.specs.declared.symbol.Action.TheVariants.{Nothing, Expr, Stmt, Item}
use Rattle.twe_parser.specs.declared.symbol.CellKind.{CellKind}
use Rattle.twe_parser.specs.declared.symbol.CellKind.TheVariants as cells
use Rattle.twe_parser.specs.declared.symbol.ExprAction.TheVariants as exprs
use Rattle.twe_parser.specs.declared.symbol.ItemAction.TheVariants as items
use Rattle.twe_parser.specs.declared.symbol.Nonterminal.{Nonterminal}
use Rattle.twe_parser.specs.declared.symbol.Nonterminal.TheVariants as nonterminals
use Rattle.twe_parser.specs.declared.symbol.StmtAction.TheVariants as stmts
use Rattle.twe_parser.specs.declared.symbol.Symbol.{Symbol}
use Rattle.twe_parser.specs.declared.symbol.Symbol.TheVariants.{Name, Literal, Token, Expand, Perform}
use Rattle.twe_parser.specs.declared.symbol.Terminal.{Terminal}
use Rattle.twe_parser.specs.declared.symbol.Terminal.TheVariants as next
use Rattle.twe_parser.specs.inner.Operators.{operator_of}
use Rattle.twe_ast.specs.Precedence.{level_of}

-- a production with more symbols at its end
abbrev pub followed : Option Production → List Symbol → Option Production
followed None more = None
followed (Some production) more = Some (record { mark = production.mark; right_side = production.right_side ++ more })

-- an operand
abbrev pub unary_production : Terminal → Option Production
unary_production next.Literal = Some (record { mark = true; right_side = Perform (Expr exprs.Literal) ∷ [] })
unary_production (next.Fixed fixed.True) = Some (record { mark = true; right_side = Perform (Expr (exprs.Truth true)) ∷ [] })
unary_production (next.Fixed fixed.False) = Some (record { mark = true; right_side = Perform (Expr (exprs.Truth false)) ∷ [] })
unary_production next.Name = Some (record { mark = false; right_side = Expand nonterminals.Suffix ∷ [] })
unary_production (next.Fixed fixed.OpenParen) = Some (record {
  mark = true;
  right_side =
      Expand nonterminals.Unary ∷
      Expand (nonterminals.Climb 0) ∷
      Token fixed.CloseParen ∷
      Perform (Expr exprs.Enclose) ∷
      [];
})
unary_production (next.Fixed fixed.Minus) = Some (record { mark = true; right_side = Expand nonterminals.AfterMinus ∷ [] })
unary_production (next.Fixed fixed.Not) = Some (record {
  mark = true;
  right_side = Expand nonterminals.Unary ∷ Expand (nonterminals.Climb 6) ∷ Perform (Expr exprs.Not) ∷ [];
})
unary_production _ = None

-- after a `-` before an operand
abbrev pub after_minus_production : Terminal → Option Production
after_minus_production next.Literal = Some (record { mark = true; right_side = Perform (Expr exprs.MinusLiteral) ∷ [] })
after_minus_production terminal =
    followed (unary_production terminal) (Expand (nonterminals.Climb 6) ∷ Perform (Expr exprs.Negate) ∷ [])

-- after a name in an expression
abbrev pub suffix_production : Terminal → Option Production
suffix_production (next.Fixed fixed.OpenParen) = Some (record {
  mark = false;
  right_side = Perform (Expr exprs.NewArgs) ∷ Expand nonterminals.Args ∷ Perform (Expr exprs.CallValue) ∷ [];
})
suffix_production (next.Fixed fixed.OpenBracket) = Some (record {
  mark = false;
  right_side =
      Expand nonterminals.Unary ∷
      Expand (nonterminals.Climb 0) ∷
      Token fixed.CloseBracket ∷
      Expand nonterminals.SecondIndex ∷
      [];
})
suffix_production _ = None

-- after the index of an element
abbrev pub second_index_production : Terminal → Option Production
second_index_production (next.Fixed fixed.OpenBracket) = Some (record {
  mark = false;
  right_side =
      Expand nonterminals.Unary ∷
      Expand (nonterminals.Climb 0) ∷
      Token fixed.CloseBracket ∷
      Perform (Expr exprs.GridElement) ∷
      [];
})
second_index_production _ = None

-- after the `(` of arguments
abbrev pub args_production : Terminal → Option Production
args_production (next.Fixed fixed.CloseParen) = Some (record { mark = false; right_side = [] })
args_production terminal =
    followed (unary_production terminal)
    (Expand (nonterminals.Climb 0) ∷ Perform (Expr exprs.KeepArg) ∷ Expand nonterminals.MoreArgs ∷ [])

-- after an argument
abbrev pub more_args_production : Terminal → Option Production
more_args_production (next.Fixed fixed.CloseParen) = Some (record { mark = false; right_side = [] })
more_args_production (next.Fixed fixed.Comma) = Some (record {
  mark = false;
  right_side =
      Expand nonterminals.Unary ∷
      Expand (nonterminals.Climb 0) ∷
      Perform (Expr exprs.KeepArg) ∷
      Expand nonterminals.MoreArgs ∷
      [];
})
more_args_production _ = None

-- After an operand: an operator of at least this precedence, and its second operand, with the operators in it that bind more
-- tightly. After it come the other operators of at least this precedence.
abbrev pub climb_from : ℕ → Option BinOp → Option Production
climb_from level None = None
climb_from level (Some op) =
    if nat_le level (level_of op) then Some (record {
      mark = true;
      right_side =
          Expand nonterminals.Unary ∷
          Expand (nonterminals.Climb (level_of op + 1)) ∷
          Perform (Expr (exprs.Binary op)) ∷
          Expand (nonterminals.Climb level) ∷
          [];
    })
    else None

-- after an operand: the same, for the operator that the terminal is, if it is one
abbrev pub climb_production : ℕ → Terminal → Option Production
climb_production level terminal = climb_from level (operator_of terminal)

-- after the `(` of parameters
abbrev pub params_production : Terminal → Option Production
params_production (next.Fixed fixed.CloseParen) = Some (record { mark = false; right_side = [] })
params_production (next.Fixed fixed.Int) =
    Some (record { mark = false; right_side = Name ∷ Perform (Item items.KeepName) ∷ Expand nonterminals.MoreParams ∷ [] })
params_production _ = None

-- after a parameter
abbrev pub more_params_production : Terminal → Option Production
more_params_production (next.Fixed fixed.CloseParen) = Some (record { mark = false; right_side = [] })
more_params_production (next.Fixed fixed.Comma) = Some (record {
  mark = false;
  right_side = Token fixed.Int ∷ Name ∷ Perform (Item items.KeepName) ∷ Expand nonterminals.MoreParams ∷ [];
})
more_params_production _ = None

-- the effects of a method or a task
abbrev pub effects_production : Bool → Terminal → Option Production
effects_production in_task (next.Fixed fixed.Pure) = Some (record {
  mark = false;
  right_side = Token fixed.OpenBrace ∷ Perform (Stmt stmts.NewBlock) ∷ Expand (nonterminals.Statements in_task) ∷ [];
})
effects_production in_task (next.Fixed fixed.Reads) =
    Some (record { mark = false; right_side = Expand (nonterminals.Path in_task accesses.Reads) ∷ [] })
effects_production in_task (next.Fixed fixed.Writes) =
    Some (record { mark = false; right_side = Expand (nonterminals.Path in_task accesses.Writes) ∷ [] })
effects_production _ _ = None

-- the beginning of a path of a clause
abbrev pub path_production : Bool → Access → Terminal → Option Production
path_production in_task access (next.Fixed fixed.Root) =
    Some (record { mark = true; right_side = Expand (nonterminals.PathRest in_task access) ∷ [] })
path_production in_task access next.Name =
    Some (record { mark = true; right_side = Perform (Item items.ElemName) ∷ Expand (nonterminals.PathRest in_task access) ∷ [] })
path_production _ _ _ = None

-- after an element of a path of a clause
abbrev pub path_rest_production : Bool → Access → Terminal → Option Production
path_rest_production in_task access (next.Fixed fixed.Colon) =
    Some (record { mark = false; right_side = Expand nonterminals.Elem ∷ Expand (nonterminals.PathRest in_task access) ∷ [] })
path_rest_production in_task access (next.Fixed fixed.Comma) =
    Some (record { mark = false; right_side = Perform (Item items.KeepPath) ∷ Expand (nonterminals.Path in_task access) ∷ [] })
path_rest_production in_task access (next.Fixed fixed.Reads) = Some (record {
  mark = false;
  right_side =
      Perform (Item items.KeepPath) ∷
      Perform (Item (items.KeepClause access)) ∷
      Expand (nonterminals.Path in_task accesses.Reads) ∷
      [];
})
path_rest_production in_task access (next.Fixed fixed.Writes) = Some (record {
  mark = false;
  right_side =
      Perform (Item items.KeepPath) ∷
      Perform (Item (items.KeepClause access)) ∷
      Expand (nonterminals.Path in_task accesses.Writes) ∷
      [];
})
path_rest_production in_task access (next.Fixed fixed.OpenBrace) = Some (record {
  mark = false;
  right_side =
      Perform (Item items.KeepPath) ∷
      Perform (Item (items.KeepClause access)) ∷
      Perform (Stmt stmts.NewBlock) ∷
      Expand (nonterminals.Statements in_task) ∷
      [];
})
path_rest_production _ _ _ = None

-- an element of a path of a clause, after `:`
abbrev pub elem_production : Terminal → Option Production
elem_production next.Name = Some (record { mark = false; right_side = Perform (Item items.ElemName) ∷ [] })
elem_production (next.Fixed fixed.OpenBracket) = Some (record { mark = true; right_side = Expand nonterminals.Index ∷ [] })
elem_production (next.Fixed fixed.Star) = Some (record { mark = true; right_side = Perform (Item items.ElemStar) ∷ [] })
elem_production _ = None

-- after the `[` of an element of a path
abbrev pub index_production : Terminal → Option Production
index_production next.Literal =
    Some (record { mark = false; right_side = Token fixed.CloseBracket ∷ Perform (Item items.ElemIndex) ∷ [] })
index_production next.Name =
    Some (record { mark = false; right_side = Token fixed.CloseBracket ∷ Perform (Item items.ElemVariable) ∷ [] })
index_production (next.Fixed fixed.Question) =
    Some (record { mark = false; right_side = Token fixed.CloseBracket ∷ Perform (Item items.ElemAny) ∷ [] })
index_production _ = None

-- the declarations that are left, up to the end of the text
abbrev pub items_production : Terminal → Option Production
items_production (next.Fixed fixed.Region) = Some (record {
  mark = false;
  right_side = Name ∷ Perform (Item items.KeepName) ∷ Expand nonterminals.MoreRegions ∷ Expand nonterminals.Items ∷ [];
})
items_production (next.Fixed fixed.Int) =
    Some (record { mark = false; right_side = Name ∷ Expand nonterminals.AfterInt ∷ Expand nonterminals.Items ∷ [] })
items_production (next.Fixed fixed.Void) = Some (record {
  mark = false;
  right_side =
      Name ∷
      Token fixed.OpenParen ∷
      Expand nonterminals.Params ∷
      Expand (nonterminals.Effects false) ∷
      Perform (Item (items.Method returns.Void)) ∷
      Expand nonterminals.Items ∷
      [];
})
items_production (next.Fixed fixed.Task) =
    Some (record { mark = false; right_side = Expand (nonterminals.TaskReturns false) ∷ Expand nonterminals.Items ∷ [] })
items_production (next.Fixed fixed.Deterministic) = Some (record {
  mark = false;
  right_side = Token fixed.Task ∷ Expand (nonterminals.TaskReturns true) ∷ Expand nonterminals.Items ∷ [];
})
items_production _ = None

-- after the name of a region
abbrev pub more_regions_production : Terminal → Option Production
more_regions_production (next.Fixed fixed.Comma) =
    Some (record { mark = false; right_side = Name ∷ Perform (Item items.KeepName) ∷ Expand nonterminals.MoreRegions ∷ [] })
more_regions_production (next.Fixed fixed.Semicolon) =
    Some (record { mark = false; right_side = Perform (Item items.Regions) ∷ [] })
more_regions_production _ = None

-- after `int` and a name, at the top of a program
abbrev pub after_int_production : Terminal → Option Production
after_int_production (next.Fixed fixed.In) =
    Some (record { mark = false; right_side = Expand (nonterminals.CellPath cells.Scalar) ∷ [] })
after_int_production (next.Fixed fixed.OpenBracket) =
    Some (record { mark = false; right_side = Literal ∷ Token fixed.CloseBracket ∷ Expand nonterminals.AfterLength ∷ [] })
after_int_production (next.Fixed fixed.OpenParen) = Some (record {
  mark = false;
  right_side = Expand nonterminals.Params ∷ Expand (nonterminals.Effects false) ∷ Perform (Item (items.Method returns.Int)) ∷ [];
})
after_int_production _ = None

-- after the length of an array
abbrev pub after_length_production : Terminal → Option Production
after_length_production (next.Fixed fixed.In) =
    Some (record { mark = false; right_side = Expand (nonterminals.CellPath cells.Array) ∷ [] })
after_length_production (next.Fixed fixed.OpenBracket) = Some (record {
  mark = false;
  right_side = Literal ∷ Token fixed.CloseBracket ∷ Token fixed.In ∷ Expand (nonterminals.CellPath cells.Grid) ∷ [];
})
after_length_production _ = None

-- the beginning of the path of a cell
abbrev pub cell_path_production : CellKind → Terminal → Option Production
cell_path_production kind (next.Fixed fixed.Root) =
    Some (record { mark = true; right_side = Expand (nonterminals.CellRest kind) ∷ [] })
cell_path_production kind next.Name =
    Some (record { mark = true; right_side = Perform (Item items.CellElemName) ∷ Expand (nonterminals.CellRest kind) ∷ [] })
cell_path_production _ _ = None

-- after an element of the path of a cell
abbrev pub cell_rest_production : CellKind → Terminal → Option Production
cell_rest_production kind (next.Fixed fixed.Colon) =
    Some (record { mark = false; right_side = Expand nonterminals.CellElem ∷ Expand (nonterminals.CellRest kind) ∷ [] })
cell_rest_production kind (next.Fixed fixed.Semicolon) =
    Some (record { mark = false; right_side = Perform (Item (items.Cell kind)) ∷ [] })
cell_rest_production cells.Scalar (next.Fixed fixed.Assign) =
    Some (record { mark = false; right_side = Expand nonterminals.Initial ∷ [] })
cell_rest_production _ _ = None

-- an element of the path of a cell
abbrev pub cell_elem_production : Terminal → Option Production
cell_elem_production next.Name = Some (record { mark = false; right_side = Perform (Item items.CellElemName) ∷ [] })
cell_elem_production (next.Fixed fixed.OpenBracket) =
    Some (record { mark = true; right_side = Literal ∷ Token fixed.CloseBracket ∷ Perform (Item items.CellElemIndex) ∷ [] })
cell_elem_production _ = None

-- the initial value of a cell, after `=`
abbrev pub initial_production : Terminal → Option Production
initial_production (next.Fixed fixed.Minus) =
    Some (record { mark = false; right_side = Literal ∷ Token fixed.Semicolon ∷ Perform (Item (items.CellInitial true)) ∷ [] })
initial_production next.Literal =
    Some (record { mark = false; right_side = Token fixed.Semicolon ∷ Perform (Item (items.CellInitial false)) ∷ [] })
initial_production _ = None

-- after `task`
abbrev pub task_returns_production : Bool → Terminal → Option Production
task_returns_production deterministic (next.Fixed fixed.Int) = Some (record {
  mark = false;
  right_side =
      Name ∷
      Token fixed.OpenParen ∷
      Expand nonterminals.Params ∷
      Expand (nonterminals.Effects true) ∷
      Perform (Item (items.Task deterministic returns.Int)) ∷
      [];
})
task_returns_production deterministic (next.Fixed fixed.Void) = Some (record {
  mark = false;
  right_side =
      Name ∷
      Token fixed.OpenParen ∷
      Expand nonterminals.Params ∷
      Expand (nonterminals.Effects true) ∷
      Perform (Item (items.Task deterministic returns.Void)) ∷
      [];
})
task_returns_production _ _ = None

-- the statements that are left in a block, and its `}`
abbrev pub statements_production : Bool → Terminal → Option Production
statements_production in_task (next.Fixed fixed.CloseBrace) =
    Some (record { mark = true; right_side = Perform (Stmt stmts.CloseBlock) ∷ [] })
statements_production in_task (next.Fixed fixed.OpenBrace) = Some (record {
  mark = false;
  right_side =
      Perform (Stmt stmts.NewBlock) ∷
      Expand (nonterminals.Statements in_task) ∷
      Perform (Stmt stmts.BlockStatement) ∷
      Expand (nonterminals.Statements in_task) ∷
      [];
})
statements_production in_task (next.Fixed fixed.Final) = Some (record {
  mark = false;
  right_side = Expand (nonterminals.LocalType in_task) ∷ Expand (nonterminals.Statements in_task) ∷ [];
})
statements_production in_task (next.Fixed fixed.Int) = Some (record {
  mark = false;
  right_side =
      Name ∷
      Token fixed.Assign ∷
      Expand (nonterminals.IntValue in_task false) ∷
      Expand (nonterminals.Statements in_task) ∷
      [];
})
statements_production in_task (next.Fixed fixed.Boolean) = Some (record {
  mark = false;
  right_side =
      Name ∷
      Token fixed.Assign ∷
      Expand nonterminals.Unary ∷
      Expand (nonterminals.Climb 0) ∷
      Token fixed.Semicolon ∷
      Perform (Stmt (stmts.Let false locals.Boolean)) ∷
      Expand (nonterminals.Statements in_task) ∷
      [];
})
statements_production in_task next.Name = Some (record {
  mark = false;
  right_side = Expand (nonterminals.AfterName in_task) ∷ Expand (nonterminals.Statements in_task) ∷ [];
})
statements_production in_task (next.Fixed fixed.If) = Some (record {
  mark = false;
  right_side =
      Perform (Stmt stmts.NewArms) ∷
      Token fixed.OpenParen ∷
      Expand nonterminals.Unary ∷
      Expand (nonterminals.Climb 0) ∷
      Token fixed.CloseParen ∷
      Token fixed.OpenBrace ∷
      Perform (Stmt stmts.NewBlock) ∷
      Expand (nonterminals.Statements in_task) ∷
      Perform (Stmt stmts.KeepArm) ∷
      Expand (nonterminals.AfterArm in_task) ∷
      Expand (nonterminals.Statements in_task) ∷
      [];
})
statements_production in_task (next.Fixed fixed.While) = Some (record {
  mark = true;
  right_side =
      Token fixed.OpenParen ∷
      Expand nonterminals.Unary ∷
      Expand (nonterminals.Climb 0) ∷
      Token fixed.CloseParen ∷
      Token fixed.OpenBrace ∷
      Perform (Stmt stmts.NewBlock) ∷
      Expand (nonterminals.Statements in_task) ∷
      Perform (Stmt stmts.While) ∷
      Expand (nonterminals.Statements in_task) ∷
      [];
})
statements_production in_task (next.Fixed fixed.Return) =
    Some (record { mark = true; right_side = Expand nonterminals.ReturnValue ∷ Expand (nonterminals.Statements in_task) ∷ [] })
statements_production in_task (next.Fixed fixed.Print) = Some (record {
  mark = true;
  right_side =
      Token fixed.OpenParen ∷
      Expand nonterminals.Unary ∷
      Expand (nonterminals.Climb 0) ∷
      Token fixed.CloseParen ∷
      Token fixed.Semicolon ∷
      Perform (Stmt stmts.Print) ∷
      Expand (nonterminals.Statements in_task) ∷
      [];
})
statements_production true (next.Fixed fixed.Future) = Some (record {
  mark = false;
  right_side =
      Name ∷
      Token fixed.Assign ∷
      Name ∷
      Token fixed.Dot ∷
      Expand nonterminals.Make ∷
      Expand (nonterminals.Statements true) ∷
      [];
})
statements_production _ _ = None

-- after `final`
abbrev pub local_type_production : Bool → Terminal → Option Production
local_type_production in_task (next.Fixed fixed.Int) =
    Some (record { mark = false; right_side = Name ∷ Token fixed.Assign ∷ Expand (nonterminals.IntValue in_task true) ∷ [] })
local_type_production in_task (next.Fixed fixed.Boolean) = Some (record {
  mark = false;
  right_side =
      Name ∷
      Token fixed.Assign ∷
      Expand nonterminals.Unary ∷
      Expand (nonterminals.Climb 0) ∷
      Token fixed.Semicolon ∷
      Perform (Stmt (stmts.Let true locals.Boolean)) ∷
      [];
})
local_type_production _ _ = None

-- the initial value of an `int` local
abbrev pub int_value_production : Bool → Bool → Terminal → Option Production
int_value_production true is_final next.Name =
    Some (record { mark = false; right_side = Expand (nonterminals.AfterValueName is_final) ∷ [] })
int_value_production in_task is_final terminal =
    followed (unary_production terminal)
    (Expand (nonterminals.Climb 0) ∷ Token fixed.Semicolon ∷ Perform (Stmt (stmts.Let is_final locals.Int)) ∷ [])

-- In a task, if the initial value of a local begins with a name: after the name, an operator whose first operand is the name.
-- The action `take` declares the local.
abbrev pub operator_after_name_production : Option BinOp → Symbol → Option Production
operator_after_name_production None take = None
operator_after_name_production (Some op) take = Some (record {
  mark = true;
  right_side =
      Perform (Expr exprs.Variable) ∷
      Expand nonterminals.Unary ∷
      Expand (nonterminals.Climb (level_of op + 1)) ∷
      Perform (Expr (exprs.Binary op)) ∷
      Expand (nonterminals.Climb 0) ∷
      Token fixed.Semicolon ∷
      take ∷
      [];
})

-- in a task, after `int`, a name, `=` and a name
abbrev pub after_value_name_production : Bool → Terminal → Option Production
after_value_name_production is_final (next.Fixed fixed.Dot) =
    Some (record { mark = false; right_side = Expand (nonterminals.AwaitedValue is_final) ∷ [] })
after_value_name_production is_final (next.Fixed fixed.Semicolon) = Some (record {
  mark = false;
  right_side = Perform (Expr exprs.Variable) ∷ Perform (Stmt (stmts.Let is_final locals.Int)) ∷ [];
})
after_value_name_production is_final (next.Fixed fixed.OpenParen) = Some (record {
  mark = false;
  right_side =
      Perform (Expr exprs.NewArgs) ∷
      Expand nonterminals.Args ∷
      Perform (Expr exprs.CallValue) ∷
      Expand (nonterminals.Climb 0) ∷
      Token fixed.Semicolon ∷
      Perform (Stmt (stmts.Let is_final locals.Int)) ∷
      [];
})
after_value_name_production is_final (next.Fixed fixed.OpenBracket) = Some (record {
  mark = false;
  right_side =
      Expand nonterminals.Unary ∷
      Expand (nonterminals.Climb 0) ∷
      Token fixed.CloseBracket ∷
      Expand nonterminals.SecondIndex ∷
      Expand (nonterminals.Climb 0) ∷
      Token fixed.Semicolon ∷
      Perform (Stmt (stmts.Let is_final locals.Int)) ∷
      [];
})
after_value_name_production is_final terminal =
    operator_after_name_production (operator_of terminal) (Perform (Stmt (stmts.Let is_final locals.Int)))

-- after the name that a statement begins with
abbrev pub after_name_production : Bool → Terminal → Option Production
after_name_production in_task (next.Fixed fixed.Assign) = Some (record {
  mark = false;
  right_side = Expand nonterminals.Unary ∷ Expand (nonterminals.Climb 0) ∷ Token fixed.Semicolon ∷ Perform (Stmt stmts.Set) ∷ [];
})
after_name_production in_task (next.Fixed fixed.OpenBracket) = Some (record {
  mark = false;
  right_side =
      Expand nonterminals.Unary ∷
      Expand (nonterminals.Climb 0) ∷
      Token fixed.CloseBracket ∷
      Expand nonterminals.AfterIndex ∷
      [];
})
after_name_production in_task (next.Fixed fixed.OpenParen) = Some (record {
  mark = false;
  right_side =
      Perform (Expr exprs.NewArgs) ∷
      Expand nonterminals.Args ∷
      Token fixed.Semicolon ∷
      Perform (Stmt stmts.CallStatement) ∷
      [];
})
after_name_production true (next.Fixed fixed.Dot) = Some (record { mark = false; right_side = Expand nonterminals.Awaited ∷ [] })
after_name_production _ _ = None

-- after the index of an assignment
abbrev pub after_index_production : Terminal → Option Production
after_index_production (next.Fixed fixed.Assign) = Some (record {
  mark = false;
  right_side =
      Expand nonterminals.Unary ∷
      Expand (nonterminals.Climb 0) ∷
      Token fixed.Semicolon ∷
      Perform (Stmt stmts.SetArray) ∷
      [];
})
after_index_production (next.Fixed fixed.OpenBracket) = Some (record {
  mark = false;
  right_side =
      Expand nonterminals.Unary ∷
      Expand (nonterminals.Climb 0) ∷
      Token fixed.CloseBracket ∷
      Token fixed.Assign ∷
      Expand nonterminals.Unary ∷
      Expand (nonterminals.Climb 0) ∷
      Token fixed.Semicolon ∷
      Perform (Stmt stmts.SetGrid) ∷
      [];
})
after_index_production _ = None

-- after the `.` of a wait
abbrev pub awaited_production : Terminal → Option Production
awaited_production (next.Fixed fixed.GetValue) = Some (record {
  mark = false;
  right_side =
      Token fixed.OpenParen ∷
      Token fixed.CloseParen ∷
      Token fixed.Semicolon ∷
      Perform (Stmt (stmts.Wait waits.GetValue)) ∷
      [];
})
awaited_production (next.Fixed fixed.Join) = Some (record {
  mark = false;
  right_side =
      Token fixed.OpenParen ∷
      Token fixed.CloseParen ∷
      Token fixed.Semicolon ∷
      Perform (Stmt (stmts.Wait waits.Join)) ∷
      [];
})
awaited_production _ = None

-- after the `.` of a wait that initializes a local
abbrev pub awaited_value_production : Bool → Terminal → Option Production
awaited_value_production is_final (next.Fixed fixed.GetValue) = Some (record {
  mark = false;
  right_side =
      Token fixed.OpenParen ∷
      Token fixed.CloseParen ∷
      Token fixed.Semicolon ∷
      Perform (Stmt (stmts.LetWait is_final waits.GetValue)) ∷
      [];
})
awaited_value_production is_final (next.Fixed fixed.Join) = Some (record {
  mark = false;
  right_side =
      Token fixed.OpenParen ∷
      Token fixed.CloseParen ∷
      Token fixed.Semicolon ∷
      Perform (Stmt (stmts.LetWait is_final waits.Join)) ∷
      [];
})
awaited_value_production _ _ = None

-- after the `.` of the making of a task
abbrev pub make_production : Terminal → Option Production
make_production (next.Fixed fixed.Spawn) = Some (record {
  mark = false;
  right_side =
      Token fixed.OpenParen ∷
      Perform (Expr exprs.NewArgs) ∷
      Expand nonterminals.Args ∷
      Token fixed.Semicolon ∷
      Perform (Stmt (stmts.Make true)) ∷
      [];
})
make_production (next.Fixed fixed.ExecuteLater) = Some (record {
  mark = false;
  right_side =
      Token fixed.OpenParen ∷
      Perform (Expr exprs.NewArgs) ∷
      Expand nonterminals.Args ∷
      Token fixed.Semicolon ∷
      Perform (Stmt (stmts.Make false)) ∷
      [];
})
make_production _ = None

-- after a block of an `if`
abbrev pub after_arm_production : Bool → Terminal → Option Production
after_arm_production in_task (next.Fixed fixed.Else) =
    Some (record { mark = false; right_side = Expand (nonterminals.ElseBody in_task) ∷ [] })
after_arm_production _ _ = None

-- after `else`
abbrev pub else_body_production : Bool → Terminal → Option Production
else_body_production in_task (next.Fixed fixed.If) = Some (record {
  mark = false;
  right_side =
      Token fixed.OpenParen ∷
      Expand nonterminals.Unary ∷
      Expand (nonterminals.Climb 0) ∷
      Token fixed.CloseParen ∷
      Token fixed.OpenBrace ∷
      Perform (Stmt stmts.NewBlock) ∷
      Expand (nonterminals.Statements in_task) ∷
      Perform (Stmt stmts.KeepArm) ∷
      Expand (nonterminals.AfterArm in_task) ∷
      [];
})
else_body_production in_task (next.Fixed fixed.OpenBrace) = Some (record {
  mark = false;
  right_side = Perform (Stmt stmts.NewBlock) ∷ Expand (nonterminals.Statements in_task) ∷ Perform (Stmt stmts.CloseIfElse) ∷ [];
})
else_body_production _ _ = None

-- after `return`
abbrev pub return_value_production : Terminal → Option Production
return_value_production (next.Fixed fixed.Semicolon) =
    Some (record { mark = false; right_side = Perform (Stmt stmts.ReturnNothing) ∷ [] })
return_value_production terminal =
    followed (unary_production terminal)
    (Expand (nonterminals.Climb 0) ∷ Token fixed.Semicolon ∷ Perform (Stmt stmts.Return) ∷ [])

-- the production of a nonterminal that begins with this terminal
abbrev pub production_of : Nonterminal → Terminal → Option Production
production_of nonterminals.Items terminal = items_production terminal
production_of nonterminals.MoreRegions terminal = more_regions_production terminal
production_of nonterminals.AfterInt terminal = after_int_production terminal
production_of nonterminals.AfterLength terminal = after_length_production terminal
production_of (nonterminals.CellPath x) terminal = cell_path_production x terminal
production_of (nonterminals.CellRest x) terminal = cell_rest_production x terminal
production_of nonterminals.CellElem terminal = cell_elem_production terminal
production_of nonterminals.Initial terminal = initial_production terminal
production_of (nonterminals.TaskReturns x) terminal = task_returns_production x terminal
production_of nonterminals.Params terminal = params_production terminal
production_of nonterminals.MoreParams terminal = more_params_production terminal
production_of (nonterminals.Effects x) terminal = effects_production x terminal
production_of (nonterminals.Path x y) terminal = path_production x y terminal
production_of (nonterminals.PathRest x y) terminal = path_rest_production x y terminal
production_of nonterminals.Elem terminal = elem_production terminal
production_of nonterminals.Index terminal = index_production terminal
production_of (nonterminals.Statements x) terminal = statements_production x terminal
production_of (nonterminals.LocalType x) terminal = local_type_production x terminal
production_of (nonterminals.IntValue x y) terminal = int_value_production x y terminal
production_of (nonterminals.AfterValueName x) terminal = after_value_name_production x terminal
production_of (nonterminals.AfterName x) terminal = after_name_production x terminal
production_of nonterminals.AfterIndex terminal = after_index_production terminal
production_of nonterminals.Awaited terminal = awaited_production terminal
production_of (nonterminals.AwaitedValue x) terminal = awaited_value_production x terminal
production_of nonterminals.Make terminal = make_production terminal
production_of (nonterminals.AfterArm x) terminal = after_arm_production x terminal
production_of (nonterminals.ElseBody x) terminal = else_body_production x terminal
production_of nonterminals.ReturnValue terminal = return_value_production terminal
production_of nonterminals.Args terminal = args_production terminal
production_of nonterminals.MoreArgs terminal = more_args_production terminal
production_of nonterminals.Unary terminal = unary_production terminal
production_of nonterminals.AfterMinus terminal = after_minus_production terminal
production_of nonterminals.Suffix terminal = suffix_production terminal
production_of nonterminals.SecondIndex terminal = second_index_production terminal
production_of (nonterminals.Climb x) terminal = climb_production x terminal

-- the semantic action of a nonterminal's empty production, if it has one
abbrev pub epsilon_action : Nonterminal → Option Action
epsilon_action nonterminals.Suffix = Some (Expr exprs.Variable)
epsilon_action nonterminals.SecondIndex = Some (Expr exprs.Element)
epsilon_action (nonterminals.AfterArm in_task) = Some (Stmt stmts.CloseIf)
epsilon_action (nonterminals.Climb level) = Some Nothing
epsilon_action _ = None
