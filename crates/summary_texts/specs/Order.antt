-- The order in which paths are written: element by element names by number, then literals by value, then parameters by number,
-- then any index. A path that another begins with comes first.
use Rattle.std.specs.Prelude.{◌≡◌, ℕ, suc, nat_lt, int_lt, Bool, true, false, not, ◌==◌, ◌&&◌, ◌||◌, List, [], ◌∷◌, insert, if◌then◌else◌}
use Rattle.region_paths.specs.declared.elements.Elem.{Elem}
use Rattle.region_paths.specs.declared.elements.Elem.TheVariants.{Name, Index, Var, AnyIndex}
use Rattle.effect_sets.specs.declared.effects.Effect.{Effect}

-- both are true, or both are false
abbrev pub is_same : Bool → Bool → Bool
is_same true b = b
is_same false b = not b

-- the place of an element's kind in the order
abbrev pub order_kind_of : Elem → ℕ
order_kind_of (Name n) = 0
order_kind_of (Index i) = 1
order_kind_of (Var k) = 2
order_kind_of AnyIndex = 3

-- the first element comes before the second
abbrev pub element_before : Elem → Elem → Bool
element_before (Name n) (Name m) = nat_lt n m
element_before (Index i) (Index j) = int_lt i j
element_before (Var k) (Var l) = nat_lt k l
element_before e f = nat_lt (order_kind_of e) (order_kind_of f)

-- the first path comes before the second
abbrev pub comes_before : List Elem → List Elem → Bool
comes_before [] [] = false
comes_before [] (f ∷ fs) = true
comes_before (e ∷ es) [] = false
comes_before (e ∷ es) (f ∷ fs) = element_before e f || (not (element_before f e) && comes_before es fs)

-- how many paths stand before the first that comes after this one
abbrev pub place_in : List (List Elem) → List Elem → ℕ
place_in [] path = 0
place_in (first ∷ paths) path = if comes_before path first then 0 else suc (place_in paths path)

-- the paths with one more, in its place
abbrev pub with_path : List (List Elem) → List Elem → List (List Elem)
with_path paths path = insert paths (place_in paths path) path

-- the paths with those of the effects that write, or of those that only read, each in its place
abbrev pub with_paths : Bool → List (List Elem) → List Effect → List (List Elem)
with_paths write paths [] = paths
with_paths write paths (effect ∷ effects) =
    with_paths write (if is_same effect.write write then with_path paths effect.path.elems else paths) effects

-- the paths that are written, or only read, in their order
abbrev pub summary_paths_of : Bool → List Effect → List (List Elem)
summary_paths_of write effects = with_paths write [] effects

-- each path comes before the next, so none is there twice
abbrev pub Ascend : List (List Elem) → Type 0
Ascend [] = Unit {0}
Ascend (path ∷ []) = Unit {0}
Ascend (path ∷ next ∷ paths) = (comes_before path next ≡ true) × Ascend (next ∷ paths)
