-- Lists that grow at their front: what a seat knows, the latest first.
use Rattle.std.specs.Prelude.{◌≡◌, ◌++◌, List}
use Rattle.floor_laws.specs.admission.admission_core.States.{IsAmong}

-- the second list is the first one with more in front of it, or the same
abbrev pub HasGrown : {X : Type 0} → List X → List X → Type 0
HasGrown {X} before after = (added : List X) × (after ≡ added ++ before)

-- the second list is the first one with more in front of it, and this is among that
abbrev pub IsAdded : {X : Type 0} → X → List X → List X → Type 0
IsAdded {X} x before after = (added : List X) × (after ≡ added ++ before) × IsAmong x added
