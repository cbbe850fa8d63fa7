-- The variables of a body, and which of them are in scope at a place.
use Rattle.std.specs.Prelude.{Bool, true, false, List, [], ◌∷◌, ◌++◌, ◌&&◌, ◌||◌, if◌then◌else◌, map, not}
use Rattle.twe_base.specs.declared.place.Place.{Place}
use Rattle.twe_ast.specs.declared.item.Decl.{Decl}
use Rattle.twe_ast.specs.declared.item.Item.{Item}
use Rattle.twe_ast.specs.declared.item.Item.TheVariants.{Regions, Cell, Method, Task}
use Rattle.twe_ast.specs.declared.name.Name.{Name}
use Rattle.twe_ast.specs.declared.stmt.LocalType.{LocalType}
use Rattle.twe_ast.specs.declared.stmt.LocalType.TheVariants as types
use Rattle.twe_ast.specs.Expression.{Expression, expression, Shape, Literal, Truth, Variable, ArrayElement, GridElement, CallValue, Negative, Negation, Binary, Arguments, argument}
use Rattle.twe_ast.specs.Expression as args
use Rattle.twe_ast.specs.Statement.{Statement, Block, Let, If, While, LetWait, Statements, end_of_block, statement, Arms, arm, otherwise, no_else}
use Rattle.name_check.specs.Ends.{close_of}
use Rattle.explain_pages.specs.names.Declaring.{stands_before}
use Rattle.explain_pages.specs.names.Variables.{is_same_place}
use Rattle.run_notes.specs.declared.body_variables.BodyVariable.{BodyVariable}

-- An array, a call or an operator of the expression stands at the place. At no other part of an expression a fault is met.
abbrev mutual
  pub stands_in : Place → Expression → Bool
  stands_in place (expression first shape) = stands_in_shape place shape

  pub stands_in_shape : Place → Shape → Bool
  stands_in_shape place (Literal value) = false
  stands_in_shape place (Truth value) = false
  stands_in_shape place (Variable name) = false
  stands_in_shape place (ArrayElement array index) = is_same_place array.place place || stands_in place index
  stands_in_shape place (GridElement array row column) =
      is_same_place array.place place || (stands_in place row || stands_in place column)
  stands_in_shape place (CallValue method args) = is_same_place method.place place || stands_in_some place args
  stands_in_shape place (Negative operand) = stands_in place operand
  stands_in_shape place (Negation operand) = stands_in place operand
  stands_in_shape place (Binary op left right operator) =
      is_same_place operator place || (stands_in place left || stands_in place right)

  pub stands_in_some : Place → Arguments → Bool
  stands_in_some place args.no_more = false
  stands_in_some place (argument first others) = stands_in place first || stands_in_some place others

-- whether a local of this type holds a truth value
abbrev pub is_boolean : LocalType → Bool
is_boolean types.Int = false
is_boolean types.Boolean = true

-- A local of a block that ends at `close`. It is in scope from the end of its declaration to the end of the block; `within` says
-- whether the place stands in the declaration.
abbrev pub local_at : Place → Place → Name → Bool → Bool → BodyVariable
local_at place close name boolean within = record {
  name = name;
  boolean = boolean;
  in_scope = stands_before name.place place && (stands_before place close && not within);
}

-- the locals that statements declare, in the order of the text
abbrev mutual
  pub locals_of : Place → Place → Statement → List BodyVariable
  locals_of place close (Block body) = locals_in place body
  locals_of place close (Let is_final local_type name value) =
      local_at place close name (is_boolean local_type) (stands_in place value) ∷ []
  locals_of place close (If arms) = locals_by place arms
  locals_of place close (While word condition body) = locals_in place body
  locals_of place close (LetWait is_final name wait) =
      local_at place close name false (is_same_place wait.future.place place) ∷ []
  locals_of place close _ = []

  pub locals_in : Place → Statements → List BodyVariable
  locals_in place (end_of_block close) = []
  locals_in place (statement first others) = locals_of place (close_of others) first ++ locals_in place others

  pub locals_by : Place → Arms → List BodyVariable
  locals_by place (arm condition body others) = locals_in place body ++ locals_by place others
  locals_by place (otherwise body) = locals_in place body
  locals_by place no_else = []

-- a parameter is an `int`, and in scope in the whole body
abbrev pub parameter : Name → BodyVariable
parameter name = record { name = name; boolean = false; in_scope = true }

-- the variables of a declaration by their numbers: the parameters, and then the locals
abbrev pub body_variables_of : Place → Decl → List BodyVariable
body_variables_of place decl = map parameter decl.params ++ locals_in place decl.body

-- those of the declaration, if its name is at the place `declared`, or else these
abbrev pub body_variables_if_at : Place → Place → Decl → List BodyVariable → List BodyVariable
body_variables_if_at place declared decl others =
    if is_same_place decl.name.place declared then body_variables_of place decl else others

-- those of the first declaration whose name is at the place `declared`; none if there is none
abbrev pub body_variables_at : Place → Place → List Item → List BodyVariable
body_variables_at place declared [] = []
body_variables_at place declared (Regions names ∷ items) = body_variables_at place declared items
body_variables_at place declared (Cell cell ∷ items) = body_variables_at place declared items
body_variables_at place declared (Method decl ∷ items) =
    body_variables_if_at place declared decl (body_variables_at place declared items)
body_variables_at place declared (Task deterministic decl ∷ items) =
    body_variables_if_at place declared decl (body_variables_at place declared items)
