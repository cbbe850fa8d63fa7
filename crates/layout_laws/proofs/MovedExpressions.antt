-- Expressions and paths whose tokens have other places.
use Rattle.std.proofs.Common.{◌≡◌, ℕ, List, [], ◌∷◌, map, refl, ap}
use Rattle.twe_base.specs.declared.place.Place.{Place}
use Rattle.twe_ast.specs.declared.name.Name.{Name}
use Rattle.twe_ast.specs.declared.path.CellElem.{CellElem}
use Rattle.twe_ast.specs.declared.path.CellElemKind.TheVariants as cell_kinds
use Rattle.twe_ast.specs.declared.path.CellPath.{CellPath}
use Rattle.twe_ast.specs.declared.path.Path.{Path}
use Rattle.twe_ast.specs.declared.path.PathElem.{PathElem}
use Rattle.twe_ast.specs.declared.path.PathElemKind.TheVariants as elem_kinds
use Rattle.twe_ast.specs.Expression.{Expression, expression, Shape, Variable, ArrayElement, GridElement, CallValue, Negative, Negation, Binary, Arguments, no_more, argument}
use Rattle.twe_lexer.specs.declared.fixed.Fixed.TheVariants as fixed
use Rattle.twe_lexer.specs.declared.token.Token.{Token}
use Rattle.twe_parser.specs.Written.{word, named}
use Rattle.twe_parser.specs.WritesExpression.{WritesExpression, written, WritesShape, binary, negative, smallest, negation, literal, yes, no, variable, call, array, grid, parentheses, WritesArguments, no_arguments, arguments, MoreArguments, no_more_arguments, more_arguments}
use Rattle.twe_parser.specs.WritesPath.{WritesCellElem, cell_name, cell_index, MoreCellElems, no_more_cell_elems, more_cell_elems, WritesCellPath, cell_root, cell_region, WritesElem, MoreElems, no_more_elems, more_elems, WritesPath, root, region}
use Rattle.ast_printer.specs.BareExpression.{nowhere, bare_name, bare_expression, bare_shape, bare_arguments}
use Rattle.ast_printer.specs.BareItem.{bare_elem, bare_path, bare_cell_elem, bare_cell_path}

-- the name at another place
abbrev pub moved_name : Name → Place → Name
moved_name name place = record { text = name.text; place = place }

shape_of : Expression → Shape
shape_of (expression place shape) = shape

-- what is between parentheses, and what stands for it at other places
enclosed : (level : ℕ) (shape : Shape) (place opening close : Place) (tokens rest : List Token)
    → (other : Expression) × WritesExpression 0 other tokens (word fixed.CloseParen close ∷ rest) × (bare_expression (expression place shape) ≡ bare_expression other)
    → (other : Shape) × WritesShape level other (word fixed.OpenParen opening ∷ tokens) rest × (bare_shape shape ≡ bare_shape other)
unfolding shape_of
enclosed level shape place opening close tokens rest (expression at its, writes, same) = (its, parentheses writes, ap shape_of same)

module _ (at : List Token → Place) where
  -- the tokens, each at the place that is chosen for it by what stands from there on
  abbrev pub moved : List Token → List Token
  moved [] = []
  moved (token ∷ tokens) = record { kind = token.kind; place = at (token ∷ tokens) } ∷ moved tokens

  mutual
    pub move_expression : {level : ℕ} {e : Expression} {tokens rest : List Token} → WritesExpression level e tokens rest
        → (other : Expression) × WritesExpression level other (moved tokens) (moved rest) × (bare_expression e ≡ bare_expression other)
    move_expression (written {first = first} {others = others} shape) =
        let found = move_shape shape in (expression (at (first ∷ others)) found.0, written found.1, λ i. expression nowhere (found.2 i))

    pub move_shape : {level : ℕ} {shape : Shape} {tokens rest : List Token} → WritesShape level shape tokens rest
        → (other : Shape) × WritesShape level other (moved tokens) (moved rest) × (bare_shape shape ≡ bare_shape other)
    move_shape (binary {op = op} le left right) =
        let a = move_expression left in
        let b = move_expression right in (Binary op a.0 b.0 _, binary le a.1 b.1, λ i. Binary op (a.2 i) (b.2 i) nowhere)
    move_shape (negative other operand) = let found = move_expression operand in (Negative found.0, negative other found.1, λ i. Negative (found.2 i))
    move_shape smallest = (_, smallest, refl)
    move_shape (negation operand) = let found = move_expression operand in (Negation found.0, negation found.1, λ i. Negation (found.2 i))
    move_shape literal = (_, literal, refl)
    move_shape yes = (_, yes, refl)
    move_shape no = (_, no, refl)
    move_shape (variable {name = name}) = (Variable (moved_name name _), variable, refl)
    move_shape (call {name = name} args) =
        let found = move_arguments args in (CallValue (moved_name name _) found.0, call found.1, λ i. CallValue (bare_name name) (found.2 i))
    move_shape (array {name = name} index) =
        let found = move_expression index in (ArrayElement (moved_name name _) found.0, array found.1, λ i. ArrayElement (bare_name name) (found.2 i))
    move_shape (grid {name = name} row column) =
        let a = move_expression row in
        let b = move_expression column in (GridElement (moved_name name _) a.0 b.0, grid a.1 b.1, λ i. GridElement (bare_name name) (a.2 i) (b.2 i))
    move_shape (parentheses {level = level} {shape = shape} {place = place} inside) = enclosed level shape place _ _ _ _ (move_expression inside)

    pub move_arguments : {args : Arguments} {tokens rest : List Token} → WritesArguments args tokens rest
        → (other : Arguments) × WritesArguments other (moved tokens) (moved rest) × (bare_arguments args ≡ bare_arguments other)
    move_arguments no_arguments = (no_more, no_arguments, refl)
    move_arguments (arguments first others) =
        let a = move_expression first in
        let b = move_more_arguments others in (argument a.0 b.0, arguments a.1 b.1, λ i. argument (a.2 i) (b.2 i))

    pub move_more_arguments : {args : Arguments} {tokens rest : List Token} → MoreArguments args tokens rest
        → (other : Arguments) × MoreArguments other (moved tokens) (moved rest) × (bare_arguments args ≡ bare_arguments other)
    move_more_arguments no_more_arguments = (no_more, no_more_arguments, refl)
    move_more_arguments (more_arguments first others) =
        let a = move_expression first in
        let b = move_more_arguments others in (argument a.0 b.0, more_arguments a.1 b.1, λ i. argument (a.2 i) (b.2 i))

  move_cell_elem : {elem : CellElem} {tokens rest : List Token} → WritesCellElem elem tokens rest
      → (other : CellElem) × WritesCellElem other (moved tokens) (moved rest) × (bare_cell_elem elem ≡ bare_cell_elem other)
  move_cell_elem (cell_name {name = name}) = (record { kind = cell_kinds.Name name.text; place = _ }, cell_name {name = moved_name name _}, refl)
  move_cell_elem (cell_index {index = index}) = (record { kind = cell_kinds.Index index; place = _ }, cell_index, refl)

  move_cell_elems : {elems : List CellElem} {tokens rest : List Token} → MoreCellElems elems tokens rest
      → (other : List CellElem) × MoreCellElems other (moved tokens) (moved rest) × (map bare_cell_elem elems ≡ map bare_cell_elem other)
  move_cell_elems no_more_cell_elems = ([], no_more_cell_elems, refl)
  move_cell_elems (more_cell_elems first others) =
      let a = move_cell_elem first in
      let b = move_cell_elems others in (a.0 ∷ b.0, more_cell_elems a.1 b.1, λ i. a.2 i ∷ b.2 i)

  pub move_cell_path : {path : CellPath} {tokens rest : List Token} → WritesCellPath path tokens rest
      → (other : CellPath) × WritesCellPath other (moved tokens) (moved rest) × (bare_cell_path path ≡ bare_cell_path other)
  move_cell_path (cell_root others) =
      let found = move_cell_elems others in (record { elems = found.0; place = _ }, cell_root found.1, λ i. record { elems = found.2 i; place = nowhere })
  move_cell_path (cell_region {name = name} {others = tokens} others) =
      let found = move_cell_elems others in
      let place = at (named name ∷ tokens) in (
        record { elems = record { kind = cell_kinds.Name name.text; place = place } ∷ found.0; place = place },
        cell_region {name = moved_name name place} found.1,
        λ i. record { elems = record { kind = cell_kinds.Name name.text; place = nowhere } ∷ found.2 i; place = nowhere },
      )

  move_elem : {elem : PathElem} {tokens rest : List Token} → WritesElem elem tokens rest
      → (other : PathElem) × WritesElem other (moved tokens) (moved rest) × (bare_elem elem ≡ bare_elem other)
  move_elem (WritesElem.name {name = name}) = (record { kind = elem_kinds.Name name.text; place = _ }, WritesElem.name {name = moved_name name _}, refl)
  move_elem (WritesElem.index {index = index}) = (record { kind = elem_kinds.Index index; place = _ }, WritesElem.index, refl)
  move_elem (WritesElem.parameter {name = name}) = (record { kind = elem_kinds.Variable (moved_name name _); place = _ }, WritesElem.parameter, refl)
  move_elem WritesElem.any_index = (record { kind = elem_kinds.AnyIndex; place = _ }, WritesElem.any_index, refl)
  move_elem WritesElem.star = (record { kind = elem_kinds.Star; place = _ }, WritesElem.star, refl)

  move_elems : {elems : List PathElem} {tokens rest : List Token} → MoreElems elems tokens rest
      → (other : List PathElem) × MoreElems other (moved tokens) (moved rest) × (map bare_elem elems ≡ map bare_elem other)
  move_elems no_more_elems = ([], no_more_elems, refl)
  move_elems (more_elems first others) =
      let a = move_elem first in
      let b = move_elems others in (a.0 ∷ b.0, more_elems a.1 b.1, λ i. a.2 i ∷ b.2 i)

  pub move_path : {path : Path} {tokens rest : List Token} → WritesPath path tokens rest
      → (other : Path) × WritesPath other (moved tokens) (moved rest) × (bare_path path ≡ bare_path other)
  move_path (root others) =
      let found = move_elems others in (record { elems = found.0; place = _ }, root found.1, λ i. record { elems = found.2 i; place = nowhere })
  move_path (region {name = name} {others = tokens} others) =
      let found = move_elems others in
      let place = at (named name ∷ tokens) in (
        record { elems = record { kind = elem_kinds.Name name.text; place = place } ∷ found.0; place = place },
        region {name = moved_name name place} found.1,
        λ i. record { elems = record { kind = elem_kinds.Name name.text; place = nowhere } ∷ found.2 i; place = nowhere },
      )
