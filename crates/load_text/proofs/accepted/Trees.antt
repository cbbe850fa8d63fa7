-- The tree of the text. The places of its parts are those of its tokens: a function gives the place of each token.
use Rattle.std.proofs.Common.{ℕ, ◌*◌, ◌%◌, zero, suc, true, false, List, [], ◌∷◌, None, Some}
use Rattle.std.specs.Prelude.{codes}
use Rattle.twe_base.specs.declared.place.Place.{Place}
use Rattle.twe_ast.specs.declared.expr.BinOp.TheVariants as operators
use Rattle.twe_ast.specs.declared.item.Ast.{Ast}
use Rattle.twe_ast.specs.declared.item.CellShape.TheVariants as shapes
use Rattle.twe_ast.specs.declared.item.Decl.{Decl}
use Rattle.twe_ast.specs.declared.item.Item.{Item}
use Rattle.twe_ast.specs.declared.item.Item.TheVariants as items
use Rattle.twe_ast.specs.declared.item.ReturnType.TheVariants as returns
use Rattle.twe_ast.specs.declared.name.Name.{Name}
use Rattle.twe_ast.specs.declared.path.CellElemKind.TheVariants as cell_kinds
use Rattle.twe_ast.specs.declared.path.Path.{Path}
use Rattle.twe_ast.specs.declared.path.PathElemKind.TheVariants as elem_kinds
use Rattle.twe_ast.specs.Expression.{Expression, expression, Literal, Variable, Binary, no_more}
use Rattle.twe_ast.specs.Statement.{Statement, Set, Make, Wait, Statements, end_of_block, statement}
use Rattle.twe_lexer.specs.declared.token.Token.{Token}
use Rattle.twe_lexer.specs.declared.token.TokenKind.{TokenKind}
use Rattle.twe_parser.specs.Values.{literal_value_of}
use Rattle.load_text.proofs.accepted.Numbered.{cell_name, child_name, parent_name, future_name}

-- the places of tokens
abbrev pub Places : Type 0
Places = ℕ → Place

-- the places of the tokens after so many
abbrev pub later : ℕ → Places → Places
later zero at = at
later (suc n) at = later n (λ k. at (suc k))

abbrev pub name_at : List ℕ → Place → Name
name_at text place = record { text = text; place = place }

abbrev pub variable_at : List ℕ → Place → Expression
variable_at text place = expression place (Variable (name_at text place))

abbrev pub literal_at : ℕ → Place → Expression
literal_at value place = expression place (Literal (literal_value_of value))

-- `region R, S;`
abbrev pub regions_item : Places → Item
regions_item at = items.Regions (name_at (codes "R") (at 1) ∷ name_at (codes "S") (at 3) ∷ [])

-- `int s in S;`
abbrev pub sum_item : Places → Item
sum_item at =
    items.Cell (record {
      name = name_at (codes "s") (at 1);
      shape = shapes.Scalar None;
      path = record { elems = record { kind = cell_kinds.Name (codes "S"); place = at 3 } ∷ []; place = at 3 };
    })

-- `int c7 in R:[7] = 49;`
abbrev pub cell_item : Places → ℕ → Item
cell_item at i =
    items.Cell (record {
      name = name_at (cell_name i) (at 1);
      shape = shapes.Scalar (Some (record { minus = false; value = literal_value_of ((7 * i) % 1000) }));
      path = record {
        elems = record { kind = cell_kinds.Name (codes "R"); place = at 3 } ∷ record { kind = cell_kinds.Index i; place = at 5 } ∷ [];
        place = at 3;
      };
    })

-- `R:[7]`, at the places of its tokens
abbrev pub element_path : ℕ → Place → Place → Path
element_path i region bracket = record {
  elems = record { kind = elem_kinds.Name (codes "R"); place = region } ∷ record { kind = elem_kinds.Index i; place = bracket } ∷ [];
  place = region;
}

-- `c7 * 3 + 7`
abbrev pub tripled : Places → ℕ → Expression
tripled at i =
    expression (at 15)
    (Binary operators.Add (expression (at 15) (Binary operators.Mul (variable_at (cell_name i) (at 15)) (literal_at 3 (at 17)) (at 16)))
    (literal_at i (at 19)) (at 18))

-- `deterministic task void u7() writes R:[7] { c7 = c7 * 3 + 7; }`
abbrev pub child_decl : Places → ℕ → Decl
child_decl at i = record {
  returns = returns.Void;
  name = name_at (child_name i) (at 3);
  params = [];
  effects = record { write = true; paths = element_path i (at 7) (at 9) ∷ [] } ∷ [];
  body = statement (Set (name_at (cell_name i) (at 13)) (tripled at i)) (end_of_block (at 21));
}

abbrev pub child_item : Places → ℕ → Item
child_item at i = items.Task true (child_decl at i)

-- `s + c7`
abbrev pub added : Places → ℕ → Expression
added at i = expression (at 31) (Binary operators.Add (variable_at (codes "s") (at 31)) (variable_at (cell_name i) (at 33)) (at 32))

-- `task void t7() writes R:[7], S { future f = u7.spawn(); f.join(); s = s + c7; }`
abbrev pub parent_decl : Places → ℕ → Decl
parent_decl at i = record {
  returns = returns.Void;
  name = name_at (parent_name i) (at 2);
  params = [];
  effects = record {
    write = true;
    paths = element_path i (at 6) (at 8) ∷ record { elems = record { kind = elem_kinds.Name (codes "S"); place = at 12 } ∷ []; place = at 12 } ∷ [];
  } ∷ [];
  body =
      statement (Make (name_at (codes "f") (at 15)) (name_at (child_name i) (at 17)) true no_more)
      (statement (Wait (record { future = name_at (codes "f") (at 23); join = true }))
      (statement (Set (name_at (codes "s") (at 29)) (added at i)) (end_of_block (at 35))));
}

abbrev pub parent_item : Places → ℕ → Item
parent_item at i = items.Task false (parent_decl at i)

-- `future f7 = t7.executeLater();`
abbrev pub start : Places → ℕ → Statement
start at i = Make (name_at (future_name i) (at 1)) (name_at (parent_name i) (at 3)) false no_more

-- the statements of `main` from this number on
abbrev pub starts : Places → ℕ → ℕ → Statements
starts at i zero = end_of_block (at 0)
starts at i (suc count) = statement (start at i) (starts (later 9 at) (suc i) count)

-- `task void main() pure { .. }`
abbrev pub main_decl : Places → ℕ → Decl
main_decl at n = record {
  returns = returns.Void;
  name = name_at (codes "main") (at 2);
  params = [];
  effects = [];
  body = starts (later 7 at) 0 n;
}

-- the items of `count` cells from this number on, and the task `main` of n cells
abbrev pub items_from : Places → ℕ → ℕ → ℕ → List Item
items_from at i zero n = items.Task false (main_decl at n) ∷ []
items_from at i (suc count) n =
    cell_item at i ∷ child_item (later 11 at) i ∷ parent_item (later 33 at) i ∷ items_from (later 69 at) (suc i) count n

-- the tree of the text of n cells
abbrev pub load_tree : Places → Place → ℕ → Ast
load_tree at end n = record { items = regions_item at ∷ sum_item (later 5 at) ∷ items_from (later 10 at) 0 n n; end = end }

-- tokens of these kinds, at these places
abbrev pub tokens_with : Places → List TokenKind → List Token
tokens_with at [] = []
tokens_with at (kind ∷ kinds) = record { kind = kind; place = at 0 } ∷ tokens_with (later 1 at) kinds
