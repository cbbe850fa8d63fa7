-- The widest of the needs that were found.
use Rattle.std.specs.Prelude.{◌≡◌, ◌⊎◌, ◌<◌, ◌≤◌, ℕ, ◌+◌, nat_lt, not, ◌&&◌, Bool, true, false, List, [], ◌∷◌, length, Contains, IsTrue, if◌then◌else◌}
use Rattle.std.specs.List.{list_any}
use Rattle.region_paths.specs.declared.elements.Elem.{Elem}
use Rattle.region_paths.specs.declared.elements.Elem.TheVariants.{Name, Index, Var, AnyIndex}
use Rattle.effect_sets.specs.Covers.{effect_covers}
use Rattle.effect_infer.specs.declared.needs.need.Need.{Need}
use Rattle.effect_infer.specs.needs.Needs.{effect_of, Widens}
use Rattle.effect_infer.specs.declared.found.FoundNeed.{FoundNeed}
use Rattle.effect_infer.specs.Rows.{row}

-- the element is any index
abbrev pub is_any : Elem → Bool
is_any (Name n) = false
is_any (Index i) = false
is_any (Var k) = false
is_any AnyIndex = true

-- how many elements are any index
abbrev pub any_indexes : List Elem → ℕ
any_indexes [] = 0
any_indexes (e ∷ es) = (if is_any e then 1 else 0) + any_indexes es

-- a need that covers another has a higher rank, unless the two are equal
abbrev pub method_rank : Need → ℕ
method_rank need = any_indexes need.elems + (if need.write then 1 else 0)

-- one of the needs covers it
abbrev pub some_cover : List Need → Need → Bool
some_cover needs need = list_any (λ wide. effect_covers (effect_of wide) (effect_of need)) needs

-- no need is in the list twice
abbrev pub AreDistinct : List Need → Type 0
AreDistinct [] = Unit {0}
AreDistinct (need ∷ needs) = (¬ Contains needs need) × AreDistinct needs

-- how many needs of a method are kept at most, which is one more than a summary may have
abbrev pub most_kept : ℕ
most_kept = 9

-- there is room for the need, and none that was kept covers it
abbrev pub is_wanted : List Need → Need → Bool
is_wanted needs need = nat_lt (length needs) most_kept && not (some_cover needs need)

-- of the needs that were found and are done with, the table has the widest of each method, or too many of them
pub record KeepsNeeds (methods : ℕ) (all : List FoundNeed) (table : List (List Need)) (IsDone : FoundNeed → Type 0) : Type 0 where
  pub long : length table ≡ methods
  pub found : (m : ℕ) (need : Need) → Contains (row table m) need → Contains all (record { method = m; need = need })
  pub widest : (m : ℕ) (need : Need) (other : FoundNeed) → Contains (row table m) need
      → Contains all other → other.method ≡ m
      → Widens other.need need → other.need ≡ need
  pub ahead : (m : ℕ) (need : Need) (other : FoundNeed) → Contains (row table m) need
      → Contains all other → other.method ≡ m
      → method_rank need < method_rank other.need → IsTrue (some_cover (row table m) other.need)
  pub once : (m : ℕ) → AreDistinct (row table m)
  pub few : (m : ℕ) → length (row table m) ≤ most_kept
  pub all_done : (need : FoundNeed) → Contains all need → IsDone need → need.method < methods
      → (length (row table need.method) ≡ most_kept) ⊎ IsTrue (some_cover (row table need.method) need.need)
