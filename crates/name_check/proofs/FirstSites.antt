-- The first failure of what is asked for at one place after another.
use Rattle.std.proofs.Common.{◌≡◌, List, [], ◌∷◌, ◌++◌, Option, None, Some, refl}
use Rattle.twe_ast.specs.Expression.{Expression, expression, Shape, Literal, Truth, Variable, ArrayElement, GridElement, CallValue, Negative, Negation, Binary, Arguments, no_more, argument}
use Rattle.twe_ast.specs.declared.item.ReturnType.{ReturnType}
use Rattle.twe_ast.specs.declared.stmt.LocalType.{LocalType}
use Rattle.name_check.specs.declared.names.GlobalName.{GlobalName}
use Rattle.name_check.specs.declared.scope.LocalName.{LocalName}
use Rattle.name_check.specs.FailsName.{NameFailure}
use Rattle.name_check.specs.Types.{type_of, left_need, right_need}
use Rattle.name_check.specs.Asks.{Ask, uses, needs, declares, returns_value, returns_nothing, need, asks_of, asks_inside, asks_of_all}
use Rattle.std.specs.List.{flat_map}
use Rattle.twe_ast.specs.declared.item.Clause.{Clause}
use Rattle.twe_ast.specs.declared.path.CellElem.{CellElem}
use Rattle.twe_ast.specs.declared.path.CellElemKind.{CellElemKind}
use Rattle.twe_ast.specs.declared.path.CellElemKind.TheVariants as cell_kinds
use Rattle.twe_ast.specs.declared.path.PathElem.{PathElem}
use Rattle.twe_ast.specs.declared.path.PathElemKind.{PathElemKind}
use Rattle.twe_ast.specs.declared.path.PathElemKind.TheVariants as elem_kinds
use Rattle.name_check.specs.Sites.{Site, sites_at, asks_of_kind, asks_of_cell_kind, asks_of_path, asks_of_clause}
use Rattle.name_check.specs.inner.Elements.{asks_of_elem, asks_of_cell_elem}
use Rattle.name_check.specs.inner.First.{first_from}
use Rattle.name_check.specs.inner.Failures.{first_of_asks, first_of_sites, failures_at, failures_here}

-- none of these asks for a value that is returned
abbrev IsInside : Ask → Type 0
IsInside (returns_value place) = ⊥
IsInside (returns_nothing place) = ⊥
IsInside _ = Unit {0}

abbrev AreInside : List Ask → Type 0
AreInside [] = Unit {0}
AreInside (ask ∷ asks) = IsInside ask × AreInside asks

join : (xs ys : List Ask) → AreInside xs → AreInside ys → AreInside (xs ++ ys)
join [] ys h k = k
join (x ∷ xs) ys h k = (h.0, join xs ys h.1 k)

need_inside : (type : Option LocalType) (value : Expression) → AreInside (need type value)
need_inside None value = tt
need_inside (Some type) value = (tt, tt)

module _ (globals : List GlobalName) (locals : List LocalName) where
  mutual
    of_inside : (type : Option LocalType) (value : Expression) → AreInside (asks_of globals locals type value)
    of_inside type (expression place shape) =
        join (asks_inside globals locals shape) (need type (expression place shape)) (shape_inside shape) (need_inside type (expression place shape))

    shape_inside : (shape : Shape) → AreInside (asks_inside globals locals shape)
    shape_inside (Literal value) = tt
    shape_inside (Truth value) = tt
    shape_inside (Variable name) = (tt, tt)
    shape_inside (ArrayElement array index) = (tt, of_inside _ index)
    shape_inside (GridElement array row column) = (tt, join (asks_of globals locals _ row) (asks_of globals locals _ column) (of_inside _ row) (of_inside _ column))
    shape_inside (CallValue method args) = (tt, all_inside args)
    shape_inside (Negative operand) = of_inside _ operand
    shape_inside (Negation operand) = of_inside _ operand
    shape_inside (Binary op left right place) =
        join (asks_of globals locals (left_need op) left) (asks_of globals locals (right_need op (type_of globals locals left)) right) (of_inside _ left) (of_inside _ right)

    all_inside : (args : Arguments) → AreInside (asks_of_all globals locals args)
    all_inside no_more = tt
    all_inside (argument first others) = join (asks_of globals locals _ first) (asks_of_all globals locals others) (of_inside _ first) (all_inside others)

  same_inside : (returns : ReturnType) (first : Option NameFailure) (asks : List Ask) → AreInside asks
      → first_of_sites globals first (sites_at locals returns asks) ≡ first_of_asks globals locals first asks
  same_inside returns first [] h = refl
  same_inside returns first (uses name asks ∷ others) h = same_inside returns (first_from first (failures_here globals locals (uses name asks))) others h.1
  same_inside returns first (needs type value ∷ others) h = same_inside returns (first_from first (failures_here globals locals (needs type value))) others h.1
  same_inside returns first (declares name ∷ others) h = same_inside returns (first_from first (failures_here globals locals (declares name))) others h.1
  same_inside returns first (returns_value place ∷ others) h = absurd h.0
  same_inside returns first (returns_nothing place ∷ others) h = absurd h.0

  pub first_of_expression : (returns : ReturnType) (first : Option NameFailure) (type : Option LocalType) (value : Expression)
      → first_of_sites globals first (sites_at locals returns (asks_of globals locals type value)) ≡ first_of_asks globals locals first (asks_of globals locals type value)
  first_of_expression returns first type value = same_inside returns first (asks_of globals locals type value) (of_inside type value)

  pub first_of_arguments : (returns : ReturnType) (first : Option NameFailure) (args : Arguments)
      → first_of_sites globals first (sites_at locals returns (asks_of_all globals locals args)) ≡ first_of_asks globals locals first (asks_of_all globals locals args)
  first_of_arguments returns first args = same_inside returns first (asks_of_all globals locals args) (all_inside args)

pub first_of_sites-append : (globals : List GlobalName) (first : Option NameFailure) (xs ys : List Site)
    → first_of_sites globals first (xs ++ ys) ≡ first_of_sites globals (first_of_sites globals first xs) ys
first_of_sites-append globals first [] ys = refl
first_of_sites-append globals first (x ∷ xs) ys = first_of_sites-append globals (first_from first (failures_at globals x)) xs ys

pub first_at-append : (globals : List GlobalName) (locals : List LocalName) (returns : ReturnType) (first : Option NameFailure) (xs ys : List Ask)
    → first_of_sites globals first (sites_at locals returns (xs ++ ys)) ≡ first_of_sites globals (first_of_sites globals first (sites_at locals returns xs)) (sites_at locals returns ys)
first_at-append globals locals returns first [] ys = refl
first_at-append globals locals returns first (x ∷ xs) ys =
    first_at-append globals locals returns (first_from first (failures_at globals (record { locals = locals; returns = returns; ask = x }))) xs ys

pub ruleset sites = (first_of_expression, first_of_arguments, first_of_sites-append, first_at-append)

-- paths ask for no value that is returned
elem_inside : (elem : PathElem) → AreInside (asks_of_elem elem)
elem_inside elem = kind_inside elem.kind where
  kind_inside : (kind : PathElemKind) → AreInside (asks_of_kind kind elem.place)
  kind_inside (elem_kinds.Name text) = (tt, tt)
  kind_inside (elem_kinds.Index index) = tt
  kind_inside (elem_kinds.Variable name) = (tt, tt)
  kind_inside elem_kinds.AnyIndex = tt
  kind_inside elem_kinds.Star = tt

cell_elem_inside : (elem : CellElem) → AreInside (asks_of_cell_elem elem)
cell_elem_inside elem = kind_inside elem.kind where
  kind_inside : (kind : CellElemKind) → AreInside (asks_of_cell_kind kind elem.place)
  kind_inside (cell_kinds.Name text) = (tt, tt)
  kind_inside (cell_kinds.Index index) = tt

each_inside : {X : Type 0} (f : X → List Ask) → ((x : X) → AreInside (f x)) → (xs : List X) → AreInside (flat_map f xs)
each_inside f h [] = tt
each_inside f h (x ∷ xs) = join (f x) (flat_map f xs) (h x) (each_inside f h xs)

module _ (globals : List GlobalName) (locals : List LocalName) (returns : ReturnType) (first : Option NameFailure) where
  pub first_of_effects : (clauses : List Clause)
      → first_of_sites globals first (sites_at locals returns (flat_map asks_of_clause clauses)) ≡ first_of_asks globals locals first (flat_map asks_of_clause clauses)
  first_of_effects clauses =
      same_inside globals locals returns first (flat_map asks_of_clause clauses)
      (each_inside asks_of_clause (λ clause. each_inside asks_of_path (λ path. each_inside asks_of_elem elem_inside path.elems) clause.paths) clauses)

  pub first_of_cell_path : (elems : List CellElem)
      → first_of_sites globals first (sites_at locals returns (flat_map asks_of_cell_elem elems)) ≡ first_of_asks globals locals first (flat_map asks_of_cell_elem elems)
  first_of_cell_path elems = same_inside globals locals returns first (flat_map asks_of_cell_elem elems) (each_inside asks_of_cell_elem cell_elem_inside elems)

pub ruleset decl_sites = (first_of_effects, first_of_cell_path, first_of_sites-append)
