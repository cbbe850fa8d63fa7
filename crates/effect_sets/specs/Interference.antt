-- When two effects interfere.
use Rattle.std.specs.Prelude.{Bool, not, ◌&&◌, ◌||◌, List, IsTrue, Any}
use Rattle.std.specs.List.{list_any}
use Rattle.region_paths.specs.Apart.{apart}
use Rattle.region_paths.specs.Sets.{SetsMeet}
use Rattle.effect_sets.specs.declared.effects.Effect.{Effect}
use Rattle.effect_sets.specs.declared.effects.Summary.{Summary}

-- one of the two effects writes
abbrev pub one_writes : Effect → Effect → Bool
one_writes a b = a.write || b.write

-- two written effects interfere: one writes, and their paths are not apart
abbrev pub statically_interferes : Effect → Effect → Bool
statically_interferes a b = one_writes a b && not (apart a.path b.path)

-- two filled effects interfere: one writes, and some concrete path is in both sets
abbrev pub Interferes : Effect → Effect → Type 0
Interferes a b = IsTrue (one_writes a b) × SetsMeet a.path b.path

-- some written effect of one summary interferes with some written effect of the other
abbrev pub statically_interfere : Summary → Summary → Bool
statically_interfere s t = list_any (λ a. list_any (λ b. statically_interferes a b) t.effects) s.effects

-- some effect of one list interferes with some effect of the other
abbrev pub SomeInterfere : List Effect → List Effect → Type 0
SomeInterfere s t = Any (λ a. Any (λ b. Interferes a b) t) s
