-- Arguments as integers, and how they relate to the arguments as written.
use Rattle.std.specs.Prelude.{◌≡◌, ◌<◌, ℕ, ℤ, List, IsTrue, Some, length, map, slice_get}
use Rattle.region_paths.specs.declared.elements.Elem.{Elem}
use Rattle.region_paths.specs.declared.elements.Elem.TheVariants.{Index}
use Rattle.region_paths.specs.Concrete.{number, each_stands}
use Rattle.region_paths.specs.Filled.{Valuation, elem_under}

-- the numbers as arguments
abbrev pub literals : List ℤ → List Elem
literals numbers = map (λ z. Index z) numbers

-- the valuation gives each variable that has a number in the list this number
abbrev pub GivesValue : Valuation → List ℤ → Type 0
GivesValue v numbers = (k : ℕ) → k < length numbers → slice_get numbers k ≡ Some (v k)

-- there is one written argument for each number, and it matches the number: it is any index, or it is a literal or a
-- variable with this value under the valuation
abbrev pub ArgumentsStand : Valuation → List Elem → List ℤ → Type 0
ArgumentsStand v args numbers = IsTrue (each_stands (map (elem_under v) args) (map (λ z. number z) numbers))
