-- The grammar of the paths of cells and of effects. The tree does not record a `Root` at the front, except in the place
-- of the path.
use Rattle.std.specs.Prelude.{ℕ, List, [], ◌∷◌}
use Rattle.twe_base.specs.declared.place.Place.{Place}
use Rattle.twe_ast.specs.declared.name.Name.{Name}
use Rattle.twe_ast.specs.declared.path.CellElem.{CellElem}
use Rattle.twe_ast.specs.declared.path.CellElemKind.TheVariants as cell_kinds
use Rattle.twe_ast.specs.declared.path.CellPath.{CellPath}
use Rattle.twe_ast.specs.declared.path.Path.{Path}
use Rattle.twe_ast.specs.declared.path.PathElem.{PathElem}
use Rattle.twe_ast.specs.declared.path.PathElemKind.TheVariants as elem_kinds
use Rattle.twe_lexer.specs.declared.fixed.Fixed.TheVariants as fixed
use Rattle.twe_lexer.specs.declared.token.Token.{Token}
use Rattle.twe_parser.specs.Written.{word, named, number}

-- ident | "[" int-literal "]"
pub data WritesCellElem : CellElem → List Token → List Token → Type 0 where
  cell_name : {name : Name} {rest : List Token}
      → WritesCellElem (record { kind = cell_kinds.Name name.text; place = name.place }) (named name ∷ rest) rest
  cell_index : {index : ℕ} {place inside close : Place} {rest : List Token}
      → WritesCellElem (record { kind = cell_kinds.Index index; place = place })
      (word fixed.OpenBracket place ∷ number index inside ∷ word fixed.CloseBracket close ∷ rest) rest

-- { ":" ( ident | "[" int-literal "]" ) }
pub data MoreCellElems : List CellElem → List Token → List Token → Type 0 where
  no_more_cell_elems : {rest : List Token} → MoreCellElems [] rest rest
  more_cell_elems : {first : CellElem} {others : List CellElem} {colon : Place} {tokens more rest : List Token}
      → WritesCellElem first tokens more → MoreCellElems others more rest
      → MoreCellElems (first ∷ others) (word fixed.Colon colon ∷ tokens) rest

-- ( "Root" | ident ) { ":" ( ident | "[" int-literal "]" ) }
pub data WritesCellPath : CellPath → List Token → List Token → Type 0 where
  cell_root : {elems : List CellElem} {place : Place} {others rest : List Token}
      → MoreCellElems elems others rest
      → WritesCellPath (record { elems = elems; place = place }) (word fixed.Root place ∷ others) rest
  cell_region : {name : Name} {elems : List CellElem} {others rest : List Token}
      → MoreCellElems elems others rest
      → WritesCellPath
      (record { elems = (record { kind = cell_kinds.Name name.text; place = name.place }) ∷ elems; place = name.place })
      (named name ∷ others) rest

-- ident | "[" ( int-literal | ident | "?" ) "]" | "*"
pub data WritesElem : PathElem → List Token → List Token → Type 0 where
  name : {name : Name} {rest : List Token}
      → WritesElem (record { kind = elem_kinds.Name name.text; place = name.place }) (named name ∷ rest) rest
  index : {index : ℕ} {place inside close : Place} {rest : List Token}
      → WritesElem (record { kind = elem_kinds.Index index; place = place })
      (word fixed.OpenBracket place ∷ number index inside ∷ word fixed.CloseBracket close ∷ rest) rest
  parameter : {name : Name} {place close : Place} {rest : List Token}
      → WritesElem (record { kind = elem_kinds.Variable name; place = place })
      (word fixed.OpenBracket place ∷ named name ∷ word fixed.CloseBracket close ∷ rest) rest
  any_index : {place inside close : Place} {rest : List Token}
      → WritesElem (record { kind = elem_kinds.AnyIndex; place = place })
      (word fixed.OpenBracket place ∷ word fixed.Question inside ∷ word fixed.CloseBracket close ∷ rest) rest
  star : {place : Place} {rest : List Token}
      → WritesElem (record { kind = elem_kinds.Star; place = place }) (word fixed.Star place ∷ rest) rest

-- { ":" PathElem }
pub data MoreElems : List PathElem → List Token → List Token → Type 0 where
  no_more_elems : {rest : List Token} → MoreElems [] rest rest
  more_elems : {first : PathElem} {others : List PathElem} {colon : Place} {tokens more rest : List Token}
      → WritesElem first tokens more → MoreElems others more rest
      → MoreElems (first ∷ others) (word fixed.Colon colon ∷ tokens) rest

-- ( "Root" | ident ) { ":" PathElem }
pub data WritesPath : Path → List Token → List Token → Type 0 where
  root : {elems : List PathElem} {place : Place} {others rest : List Token}
      → MoreElems elems others rest → WritesPath (record { elems = elems; place = place }) (word fixed.Root place ∷ others) rest
  region : {name : Name} {elems : List PathElem} {others rest : List Token}
      → MoreElems elems others rest
      → WritesPath
      (record { elems = (record { kind = elem_kinds.Name name.text; place = name.place }) ∷ elems; place = name.place })
      (named name ∷ others) rest
