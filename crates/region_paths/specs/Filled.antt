-- Variables of a written path: whether it has any, their values under a valuation, and replacing them by arguments.
use Rattle.std.specs.Prelude.{ℕ, ℤ, Bool, true, false, ◌&&◌, List, [], ◌∷◌, length, map, nat_lt, slice_index_or, take_while}
use Rattle.region_paths.specs.declared.elements.Elem.{Elem}
use Rattle.region_paths.specs.declared.elements.Elem.TheVariants.{Name, Index, Var, AnyIndex}
use Rattle.region_paths.specs.Written.{WrittenPath}

-- no element is a variable
abbrev pub no_var : List Elem → Bool
no_var [] = true
no_var (Var k ∷ es) = false
no_var (_ ∷ es) = no_var es

-- the path has no variables
abbrev pub filled : WrittenPath → Bool
filled p = no_var p.elems && no_var p.tail

-- an integer for each variable
abbrev pub Valuation : Type 0
Valuation = ℕ → ℤ

-- a variable becomes the index that is its value; everything else stays
abbrev pub elem_under : Valuation → Elem → Elem
elem_under v (Name n) = Name n
elem_under v (Index i) = Index i
elem_under v (Var k) = Index (v k)
elem_under v AnyIndex = AnyIndex

-- the path with each variable replaced by its value
abbrev pub under : Valuation → WrittenPath → WrittenPath
under v p = record { elems = map (elem_under v) p.elems; star = p.star; tail = map (elem_under v) p.tail }

-- a variable that has an argument becomes this argument; everything else stays
abbrev pub fill_elem : List Elem → Elem → Elem
fill_elem args (Name n) = Name n
fill_elem args (Index i) = Index i
fill_elem args (Var k) = slice_index_or args k (Var k)
fill_elem args AnyIndex = AnyIndex

-- each variable's number is below n
abbrev pub vars_below : ℕ → List Elem → Bool
vars_below n [] = true
vars_below n (Var k ∷ es) = nat_lt k n && vars_below n es
vars_below n (_ ∷ es) = vars_below n es

-- there is an argument for each variable of the path
abbrev pub has_args : List Elem → WrittenPath → Bool
has_args args p = vars_below (length args) p.elems && vars_below (length args) p.tail

-- the path with each variable replaced by its argument, before the star and after it
abbrev pub fill : List Elem → WrittenPath → WrittenPath
fill args p = record { elems = map (fill_elem args) p.elems; star = p.star; tail = map (fill_elem args) p.tail }

-- a name or a literal index
abbrev pub is_solid : Elem → Bool
is_solid (Name n) = true
is_solid (Index i) = true
is_solid (Var k) = false
is_solid AnyIndex = false

-- the elements before the star and before the first that is neither a name nor a literal index
abbrev pub solid_prefix : WrittenPath → List Elem
solid_prefix p = take_while is_solid p.elems
