-- A tree without its places is the tree with each place moved to one.
use Rattle.std.proofs.Common.{◌≡◌, List, [], ◌∷◌, map, Option, None, Some, refl, ap}
use Rattle.twe_base.specs.declared.place.Place.{Place}
use Rattle.twe_ast.specs.declared.item.Clause.{Clause}
use Rattle.twe_ast.specs.declared.item.Decl.{Decl}
use Rattle.twe_ast.specs.declared.item.Item.{Item}
use Rattle.twe_ast.specs.declared.item.Item.TheVariants as items
use Rattle.twe_ast.specs.declared.path.Path.{Path}
use Rattle.twe_ast.specs.declared.path.PathElem.{PathElem}
use Rattle.twe_ast.specs.declared.path.PathElemKind.{PathElemKind}
use Rattle.twe_ast.specs.declared.path.PathElemKind.TheVariants as elem_kinds
use Rattle.twe_ast.specs.Expression.{Expression, expression, Shape, Literal, Truth, Variable, ArrayElement, GridElement, CallValue, Negative, Negation, Binary, Arguments, no_more, argument}
use Rattle.twe_ast.specs.Statement.{Statement, Block, Let, Set, SetArray, SetGrid, If, While, Return, Print, Call, Make, Wait, LetWait, Statements, end_of_block, statement, Arms, arm, otherwise, no_else}
use Rattle.ast_printer.specs.BareExpression.{nowhere, bare_name, bare_expression, bare_shape, bare_arguments}
use Rattle.ast_printer.specs.BareStatement.{bare_value, bare_statement, bare_block, bare_arms}
use Rattle.ast_printer.specs.BareItem.{bare_elem_kind, bare_elem, bare_path, bare_clause, bare_decl, bare_item}
use Rattle.moved_places.specs.MovedExpression.{moved_expression, moved_shape, moved_arguments}
use Rattle.moved_places.specs.MovedStatement.{moved_value, moved_statement, moved_block, moved_arms}
use Rattle.moved_places.specs.MovedTree.{moved_elem_kind, moved_elem, moved_path, moved_clause, moved_decl, moved_item}

-- each place becomes the one that stands for all
abbrev pub away : Place → Place
away place = nowhere

mutual
  pub expression-bare : (e : Expression) → moved_expression away e ≡ bare_expression e
  expression-bare (expression place shape) = ap (expression nowhere) (shape-bare shape)

  shape-bare : (shape : Shape) → moved_shape away shape ≡ bare_shape shape
  shape-bare (Literal value) = refl
  shape-bare (Truth value) = refl
  shape-bare (Variable name) = refl
  shape-bare (ArrayElement array index) = ap (ArrayElement (bare_name array)) (expression-bare index)
  shape-bare (GridElement array row column) = λ i. GridElement (bare_name array) (expression-bare row i) (expression-bare column i)
  shape-bare (CallValue method args) = ap (CallValue (bare_name method)) (arguments-bare args)
  shape-bare (Negative operand) = ap Negative (expression-bare operand)
  shape-bare (Negation operand) = ap Negation (expression-bare operand)
  shape-bare (Binary op left right place) = λ i. Binary op (expression-bare left i) (expression-bare right i) nowhere

  arguments-bare : (args : Arguments) → moved_arguments away args ≡ bare_arguments args
  arguments-bare no_more = refl
  arguments-bare (argument first others) = λ i. argument (expression-bare first i) (arguments-bare others i)

value-bare : (value : Option Expression) → moved_value away value ≡ bare_value value
value-bare None = refl
value-bare (Some value) = ap Some (expression-bare value)

mutual
  statement-bare : (s : Statement) → moved_statement away s ≡ bare_statement s
  statement-bare (Block body) = ap Block (block-bare body)
  statement-bare (Let is_final local_type name value) = ap (Let is_final local_type (bare_name name)) (expression-bare value)
  statement-bare (Set name value) = ap (Set (bare_name name)) (expression-bare value)
  statement-bare (SetArray array index value) = λ i. SetArray (bare_name array) (expression-bare index i) (expression-bare value i)
  statement-bare (SetGrid array row column value) =
      λ i. SetGrid (bare_name array) (expression-bare row i) (expression-bare column i) (expression-bare value i)
  statement-bare (If arms) = ap If (arms-bare arms)
  statement-bare (While place condition body) = λ i. While nowhere (expression-bare condition i) (block-bare body i)
  statement-bare (Return place value) = ap (Return nowhere) (value-bare value)
  statement-bare (Print place value) = ap (Print nowhere) (expression-bare value)
  statement-bare (Call method args) = ap (Call (bare_name method)) (arguments-bare args)
  statement-bare (Make future task spawned args) = ap (Make (bare_name future) (bare_name task) spawned) (arguments-bare args)
  statement-bare (Wait wait) = refl
  statement-bare (LetWait is_final name wait) = refl

  block-bare : (body : Statements) → moved_block away body ≡ bare_block body
  block-bare (end_of_block close) = refl
  block-bare (statement first others) = λ i. statement (statement-bare first i) (block-bare others i)

  arms-bare : (arms : Arms) → moved_arms away arms ≡ bare_arms arms
  arms-bare no_else = refl
  arms-bare (otherwise body) = ap otherwise (block-bare body)
  arms-bare (arm condition body others) = λ i. arm (expression-bare condition i) (block-bare body i) (arms-bare others i)

-- functions that give the same for each element give the same for a list
pub same-map : {X Y : Type 0} (f g : X → Y) → ((x : X) → f x ≡ g x) → (xs : List X) → map f xs ≡ map g xs
same-map f g each [] = refl
same-map f g each (x ∷ xs) = λ i. each x i ∷ same-map f g each xs i

kind-bare : (kind : PathElemKind) → moved_elem_kind away kind ≡ bare_elem_kind kind
kind-bare (elem_kinds.Name text) = refl
kind-bare (elem_kinds.Index index) = refl
kind-bare (elem_kinds.Variable name) = refl
kind-bare elem_kinds.AnyIndex = refl
kind-bare elem_kinds.Star = refl

elem-bare : (elem : PathElem) → moved_elem away elem ≡ bare_elem elem
elem-bare elem = λ i. record { kind = kind-bare elem.kind i; place = nowhere }

path-bare : (path : Path) → moved_path away path ≡ bare_path path
path-bare path = λ i. record { elems = same-map (moved_elem away) bare_elem elem-bare path.elems i; place = nowhere }

clause-bare : (clause : Clause) → moved_clause away clause ≡ bare_clause clause
clause-bare clause = λ i. record { write = clause.write; paths = same-map (moved_path away) bare_path path-bare clause.paths i }

decl-bare : (decl : Decl) → moved_decl away decl ≡ bare_decl decl
decl-bare decl = λ i. record {
  returns = decl.returns;
  name = bare_name decl.name;
  params = map bare_name decl.params;
  effects = same-map (moved_clause away) bare_clause clause-bare decl.effects i;
  body = block-bare decl.body i;
}

item-bare : (item : Item) → moved_item away item ≡ bare_item item
item-bare (items.Regions names) = refl
item-bare (items.Cell cell) = refl
item-bare (items.Method decl) = ap items.Method (decl-bare decl)
item-bare (items.Task deterministic decl) = ap (items.Task deterministic) (decl-bare decl)

pub items-bare : (all : List Item) → map (moved_item away) all ≡ map bare_item all
items-bare all = same-map (moved_item away) bare_item item-bare all
