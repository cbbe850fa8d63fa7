-- From the last node of a heaviest chain back to its first.
use Rattle.std.specs.Prelude.{◌≡◌, ℕ, List, [], ◌∷◌, Option, None, Some, slice_get}
use Rattle.span_profile.specs.declared.heaviest_chain.top.Best.{Best}

-- the list has this node, the last but one of the heaviest chain that ends there, and so on
abbrev pub Follows : List Best → Option ℕ → List ℕ → Type 0
Follows bests None [] = Unit {0}
Follows bests None (first ∷ others) = ⊥
Follows bests (Some node) [] = ⊥
Follows bests (Some node) (first ∷ others) =
    (first ≡ node) × ((best : Best) × (slice_get bests node ≡ Some best) × Follows bests best.previous others)
