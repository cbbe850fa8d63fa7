-- Stacks, seen as lists whose first item is the top.
use Rattle.std.specs.Prelude.{List, [], ◌∷◌}

-- the first item, or `other` if there is none
abbrev pub top : {T : Type 0} → List T → T → T
top [] other = other
top (first ∷ others) other = first

-- the items after the first
abbrev pub below : {T : Type 0} → List T → List T
below [] = []
below (first ∷ others) = others
