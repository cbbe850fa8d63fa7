-- Needs that need not be kept: whatever covers what was found with few effects covers them too.
use Rattle.std.specs.Prelude.{◌≡◌, ◌≤◌, ℕ, Bool, true, false, List, length, All, Contains, IsTrue}
use Rattle.std.specs.List.{list_all}
use Rattle.twe_base.specs.Language.{max_effects}
use Rattle.region_paths.specs.declared.elements.Elem.{Elem}
use Rattle.region_paths.specs.declared.elements.Elem.TheVariants.{Name, Index, Var, AnyIndex}
use Rattle.effect_infer.specs.declared.needs.need.Need.{Need}
use Rattle.effect_infer.specs.declared.found.FoundNeed.{FoundNeed}
use Rattle.effect_infer.specs.needs.Needs.{Widens}
use Rattle.effect_infer.specs.Kept.{method_rank, some_cover}

-- the element is no parameter
abbrev pub is_constant : Elem → Bool
is_constant (Name n) = true
is_constant (Index i) = true
is_constant (Var k) = false
is_constant AnyIndex = true

-- the need is the same in each caller, whatever the arguments
abbrev pub is_constant_need : Need → Bool
is_constant_need need = list_all is_constant need.elems

-- each need that was found of the method, that is the same in each caller and of this rank or a higher one, is covered
abbrev pub CoversFixed : List FoundNeed → ℕ → ℕ → List Need → Type 0
CoversFixed all m rank cover =
    (other : FoundNeed) → Contains all other → other.method ≡ m → IsTrue (is_constant_need other.need)
    → rank ≤ method_rank other.need → IsTrue (some_cover cover other.need)

-- as many needs as a summary may have cover what was found of the method only if they cover this need, too, or one that
-- is wider
abbrev pub IsCrowded : List FoundNeed → FoundNeed → Type 0
IsCrowded all found =
    (wide : Need) × IsTrue (is_constant_need wide) × Widens wide found.need
    × ((cover : List Need) → length cover ≤ max_effects → CoversFixed all found.method (method_rank wide) cover
    → IsTrue (some_cover cover wide))

-- a need that was found of the method, the same in each caller, and of this rank or a higher one
abbrev pub IsWitness : List FoundNeed → ℕ → ℕ → Need → Type 0
IsWitness all m rank need =
    Contains all (record { method = m; need = need }) × IsTrue (is_constant_need need) × (rank ≤ method_rank need)

-- such needs
abbrev pub AreWitnesses : List FoundNeed → ℕ → ℕ → List Need → Type 0
AreWitnesses all m rank needs = All (IsWitness all m rank) needs
