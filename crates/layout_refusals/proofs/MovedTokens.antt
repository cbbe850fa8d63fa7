-- Expressions and paths whose tokens are moved are written by the moved tokens.
use Rattle.std.proofs.Common.{ℕ, List, map}
use Rattle.twe_base.specs.declared.place.Place.{Place}
use Rattle.twe_ast.specs.declared.path.CellElem.{CellElem}
use Rattle.twe_ast.specs.declared.path.CellPath.{CellPath}
use Rattle.twe_ast.specs.declared.path.Path.{Path}
use Rattle.twe_ast.specs.declared.path.PathElem.{PathElem}
use Rattle.twe_ast.specs.Expression.{Expression, Shape, Arguments}
use Rattle.twe_lexer.specs.declared.token.Token.{Token}
use Rattle.twe_parser.specs.WritesExpression.{WritesExpression, written, WritesShape, binary, negative, smallest, negation, literal, yes, no, variable, call, array, grid, parentheses, WritesArguments, no_arguments, arguments, MoreArguments, no_more_arguments, more_arguments}
use Rattle.twe_parser.specs.WritesPath.{WritesCellElem, cell_name, cell_index, MoreCellElems, no_more_cell_elems, more_cell_elems, WritesCellPath, cell_root, cell_region, WritesElem, MoreElems, no_more_elems, more_elems, WritesPath, root, region}
use Rattle.moved_places.specs.MovedExpression.{moved_name, moved_expression, moved_shape, moved_arguments}
use Rattle.moved_places.specs.MovedTree.{moved_elem, moved_path, moved_cell_elem, moved_cell_path}

abbrev pub moved_token : (Place → Place) → Token → Token
moved_token to token = record { kind = token.kind; place = to token.place }

module _ (to : Place → Place) where
  -- the tokens, each at the place that it is moved to
  abbrev pub moved : List Token → List Token
  moved tokens = map (moved_token to) tokens

  mutual
    pub move_expression : {level : ℕ} {e : Expression} {tokens rest : List Token} → WritesExpression level e tokens rest
        → WritesExpression level (moved_expression to e) (moved tokens) (moved rest)
    move_expression (written {first = first} shape) = written {first = moved_token to first} (move_shape shape)

    pub move_shape : {level : ℕ} {shape : Shape} {tokens rest : List Token} → WritesShape level shape tokens rest
        → WritesShape level (moved_shape to shape) (moved tokens) (moved rest)
    move_shape (binary le left right) = binary le (move_expression left) (move_expression right)
    move_shape (negative other operand) = negative other (move_expression operand)
    move_shape smallest = smallest
    move_shape (negation operand) = negation (move_expression operand)
    move_shape literal = literal
    move_shape yes = yes
    move_shape no = no
    move_shape (variable {name = name}) = variable {name = moved_name to name}
    move_shape (call {name = name} args) = call {name = moved_name to name} (move_arguments args)
    move_shape (array {name = name} index) = array {name = moved_name to name} (move_expression index)
    move_shape (grid {name = name} row column) = grid {name = moved_name to name} (move_expression row) (move_expression column)
    move_shape (parentheses inside) = parentheses (move_expression inside)

    pub move_arguments : {args : Arguments} {tokens rest : List Token} → WritesArguments args tokens rest
        → WritesArguments (moved_arguments to args) (moved tokens) (moved rest)
    move_arguments no_arguments = no_arguments
    move_arguments (arguments first others) = arguments (move_expression first) (move_more_arguments others)

    pub move_more_arguments : {args : Arguments} {tokens rest : List Token} → MoreArguments args tokens rest
        → MoreArguments (moved_arguments to args) (moved tokens) (moved rest)
    move_more_arguments no_more_arguments = no_more_arguments
    move_more_arguments (more_arguments first others) = more_arguments (move_expression first) (move_more_arguments others)

  move_cell_elem : {elem : CellElem} {tokens rest : List Token} → WritesCellElem elem tokens rest
      → WritesCellElem (moved_cell_elem to elem) (moved tokens) (moved rest)
  move_cell_elem (cell_name {name = name}) = cell_name {name = moved_name to name}
  move_cell_elem cell_index = cell_index

  move_cell_elems : {elems : List CellElem} {tokens rest : List Token} → MoreCellElems elems tokens rest
      → MoreCellElems (map (moved_cell_elem to) elems) (moved tokens) (moved rest)
  move_cell_elems no_more_cell_elems = no_more_cell_elems
  move_cell_elems (more_cell_elems first others) = more_cell_elems (move_cell_elem first) (move_cell_elems others)

  pub move_cell_path : {path : CellPath} {tokens rest : List Token} → WritesCellPath path tokens rest
      → WritesCellPath (moved_cell_path to path) (moved tokens) (moved rest)
  move_cell_path (cell_root others) = cell_root (move_cell_elems others)
  move_cell_path (cell_region {name = name} others) = cell_region {name = moved_name to name} (move_cell_elems others)

  move_elem : {elem : PathElem} {tokens rest : List Token} → WritesElem elem tokens rest
      → WritesElem (moved_elem to elem) (moved tokens) (moved rest)
  move_elem (WritesElem.name {name = name}) = WritesElem.name {name = moved_name to name}
  move_elem WritesElem.index = WritesElem.index
  move_elem (WritesElem.parameter {name = name}) = WritesElem.parameter {name = moved_name to name}
  move_elem WritesElem.any_index = WritesElem.any_index
  move_elem WritesElem.star = WritesElem.star

  move_elems : {elems : List PathElem} {tokens rest : List Token} → MoreElems elems tokens rest
      → MoreElems (map (moved_elem to) elems) (moved tokens) (moved rest)
  move_elems no_more_elems = no_more_elems
  move_elems (more_elems first others) = more_elems (move_elem first) (move_elems others)

  pub move_path : {path : Path} {tokens rest : List Token} → WritesPath path tokens rest
      → WritesPath (moved_path to path) (moved tokens) (moved rest)
  move_path (root others) = root (move_elems others)
  move_path (region {name = name} others) = region {name = moved_name to name} (move_elems others)
