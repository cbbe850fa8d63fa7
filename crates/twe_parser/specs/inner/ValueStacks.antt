-- The stacks of semantic values: the dummy values for an empty stack, which never occur, and the effect of a token.
use Rattle.std.specs.Prelude.{[], ◌∷◌, ◌++◌, pos, Bool, if◌then◌else◌}
use Rattle.twe_base.specs.declared.place.Place.{Place}
use Rattle.twe_ast.specs.declared.name.Name.{Name}
use Rattle.twe_ast.specs.Expression.{Expression, expression, Literal}
use Rattle.twe_ast.specs.Statement.{Statement, Statements, end_of_block}
use Rattle.twe_lexer.specs.declared.token.Token.{Token}
use Rattle.twe_lexer.specs.declared.token.TokenKind.TheVariants as kinds
use Rattle.twe_parser.specs.declared.value_stacks.ValueStacks.{ValueStacks}
use Rattle.twe_base.specs.Stacks.{top, below}

-- the value of an empty stack of places
abbrev pub nowhere : Place
nowhere = record { line = 0; col = 0 }

-- the value of an empty stack of expressions
abbrev pub nothing : Expression
nothing = expression nowhere (Literal (pos 0))

-- the value of an empty stack of names
abbrev pub nameless : Name
nameless = record { text = []; place = nowhere }

-- the value of an empty stack of blocks
abbrev pub no_block : Statements
no_block = end_of_block nowhere

-- no values
abbrev pub no_values : ValueStacks
no_values = record {
  names = [];
  numbers = [];
  places = [];
  exprs = [];
  args = [];
  lists = [];
  blocks = [];
  arms = [];
  listed = [];
  cell_elems = [];
  elems = [];
  paths = [];
  clauses = [];
  items = [];
}

-- one more name or number
abbrev pub kept_value : Token → ValueStacks → ValueStacks
kept_value token values = elim token.kind [
  | kinds.Name text ↦ record values { names = (record { text = text; place = token.place }) ∷ values.names }
  | kinds.Literal value ↦ record values { numbers = value ∷ values.numbers }
  | kinds.Fixed f ↦ values
  | kinds.Stray ↦ values
]

-- the stacks after a token, whose place is pushed if `mark` is set
abbrev pub kept : Token → Bool → ValueStacks → ValueStacks
kept token mark values = let valued = kept_value token values in record valued {
  places = if mark then token.place ∷ values.places else values.places;
}

-- one more expression
abbrev pub with_expr : Expression → ValueStacks → ValueStacks
with_expr e values = record values { exprs = e ∷ values.exprs }

-- one more statement in the innermost open block
abbrev pub with_statement : Statement → ValueStacks → ValueStacks
with_statement s values = record values { lists = (top values.lists [] ++ s ∷ []) ∷ below values.lists }
