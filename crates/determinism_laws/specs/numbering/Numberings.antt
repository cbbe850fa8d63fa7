-- Numberings that a list of numbers gives.
use Rattle.std.specs.Prelude.{◌≡◌, ◌<◌, ◌+◌, ◌==◌, ℕ, zero, suc, true, List, [], ◌∷◌}
use Rattle.std.specs.List.{list_any}
use Rattle.determinism_laws.specs.numbering.Renumbering.{Numbering}

-- the k-th number of the list, counted from 0; after the end of the list the numbers from `beyond` on
abbrev pub numbering_of : ℕ → List ℕ → Numbering
numbering_of beyond [] k = beyond + k
numbering_of beyond (first ∷ others) zero = first
numbering_of beyond (first ∷ others) (suc k) = numbering_of beyond others k

-- no number stands twice in the list
abbrev pub AllDiffer : List ℕ → Type 0
AllDiffer [] = Unit {0}
AllDiffer (first ∷ others) = (¬ (list_any (λ n. n == first) others ≡ true)) × AllDiffer others

-- each number of the list is below the bound
abbrev pub AllBelow : ℕ → List ℕ → Type 0
AllBelow bound [] = Unit {0}
AllBelow bound (first ∷ others) = (first < bound) × AllBelow bound others
