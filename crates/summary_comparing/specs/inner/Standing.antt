-- What the elements of a path stand for, if the parameters of a method stand for these elements.
use Rattle.std.specs.Prelude.{◌==◌, ◌&&◌, ℕ, zero, suc, Bool, true, false, not, List, [], ◌∷◌, ◌++◌, Option, None, Some, slice_index_or, if◌then◌else◌}
use Rattle.std.specs.Ordering.{int_eq}
use Rattle.std.specs.List.{list_any}
use Rattle.region_paths.specs.declared.elements.Elem.{Elem}
use Rattle.region_paths.specs.declared.elements.Elem.TheVariants.{Name, Index, Var, AnyIndex}
use Rattle.region_paths.specs.Filled.{fill_elem}
use Rattle.effect_infer.specs.declared.needs.need.Need.{Need}

-- the elements are equal
abbrev pub same_elem : Elem → Elem → Bool
same_elem (Name n) (Name m) = n == m
same_elem (Index i) (Index j) = int_eq i j
same_elem (Var k) (Var l) = k == l
same_elem AnyIndex AnyIndex = true
same_elem _ _ = false

-- What an element stands for: a parameter for its value, a local for any index, and everything else for itself. A parameter
-- without a value stands for something that is not looked for.
abbrev pub value_of : List (Option Elem) → Elem → Option Elem
value_of values (Name n) = Some (Name n)
value_of values (Index i) = Some (Index i)
value_of values (Var k) = slice_index_or values k (Some AnyIndex)
value_of values AnyIndex = Some AnyIndex

-- the value is this element
abbrev pub is_value : Option Elem → Elem → Bool
is_value None target = false
is_value (Some e) target = same_elem e target

-- the elements stand for these
abbrev pub stand_for : List (Option Elem) → List Elem → List Elem → Bool
stand_for values [] [] = true
stand_for values [] (t ∷ ts) = false
stand_for values (e ∷ es) [] = false
stand_for values (e ∷ es) (t ∷ ts) = is_value (value_of values e) t && stand_for values es ts

-- both are true, or both are false
abbrev pub same_truth : Bool → Bool → Bool
same_truth true b = b
same_truth false b = not b

-- the need stands for the one that is looked for
abbrev pub is_match : List (Option Elem) → Need → Need → Bool
is_match values need target = same_truth need.write target.write && stand_for values need.elems target.elems

-- the value, if it is one of these elements
abbrev pub kept_value : List Elem → Option Elem → Option Elem
kept_value targets None = None
kept_value targets (Some e) = if list_any (same_elem e) targets then Some e else None

-- what the parameters of a called method stand for, of which there are so many
abbrev pub callee_values : List (Option Elem) → List Elem → List Elem → ℕ → List (Option Elem)
callee_values values targets args zero = []
callee_values values targets args (suc n) =
    callee_values values targets args n ++ kept_value targets (value_of values (fill_elem args (Var n))) ∷ []

-- what the parameters of the first method stand for, of which there are so many: each for itself
abbrev pub own_values : ℕ → List (Option Elem)
own_values zero = []
own_values (suc n) = own_values n ++ Some (Var n) ∷ []

-- the values are equal
abbrev pub same_value : Option Elem → Option Elem → Bool
same_value None None = true
same_value (Some a) (Some b) = same_elem a b
same_value _ _ = false

-- the same of each of them
abbrev pub same_values : List (Option Elem) → List (Option Elem) → Bool
same_values [] [] = true
same_values (x ∷ xs) (y ∷ ys) = same_value x y && same_values xs ys
same_values _ _ = false
