-- Accesses: which effects cover an access, which effects interfere with it, and when two accesses conflict.
use Rattle.std.specs.Prelude.{◌≡◌, Bool, ◌||◌, IsTrue, List, Any}
use Rattle.region_paths.specs.Concrete.{ConcretePath, InSet}
use Rattle.effect_sets.specs.declared.effects.Effect.{Effect}

-- a read or a write of one concrete path
pub record PathAccess : Type 0 where
  pub write : Bool
  pub path : ConcretePath

-- the effect covers the access: the access's path is in the effect's set, and the effect writes if the access does
abbrev pub CoversAccess : Effect → PathAccess → Type 0
CoversAccess e a = (IsTrue a.write → IsTrue e.write) × InSet e.path a.path

-- one of the effects covers the access
abbrev pub SomeCoversAccess : List Effect → PathAccess → Type 0
SomeCoversAccess es a = Any (λ e. CoversAccess e a) es

-- the access interferes with the effect: one of the two writes, and the access's path is in the effect's set
abbrev pub AccessInterferes : PathAccess → Effect → Type 0
AccessInterferes a e = IsTrue (a.write || e.write) × InSet e.path a.path

-- the access interferes with one of the effects
abbrev pub AccessInterferesWithSome : PathAccess → List Effect → Type 0
AccessInterferesWithSome a es = Any (λ e. AccessInterferes a e) es

-- the accesses conflict: they have the same concrete path, and one of them writes
abbrev pub Conflict : PathAccess → PathAccess → Type 0
Conflict a b = IsTrue (a.write || b.write) × (a.path ≡ b.path)
