-- Paths that others begin with.
use Rattle.std.specs.Prelude.{◌≡◌, List, [], ◌∷◌}

-- the second path begins with all elements of the first
abbrev pub IsPrefix : {A : Type 0} → List A → List A → Type 0
IsPrefix [] path = Unit {0}
IsPrefix (e ∷ es) [] = ⊥
IsPrefix (e ∷ es) (f ∷ fs) = (e ≡ f) × IsPrefix es fs
