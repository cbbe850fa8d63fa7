-- Chains of the elements of a list, each of which leads to the next, and the heaviest of them. Elements are known by their
-- places in the list, counted from 0.
use Rattle.std.specs.Prelude.{◌≡◌, ◌<◌, ◌≤◌, ◌⊎◌, ◌++◌, ℕ, List, [], ◌∷◌, Option, None, Some, length, slice_get, sum_by}

-- The element at the first place leads to the one at the second, which comes later.
pub record Leads {X : Type 0} (LeadsTo : X → X → Type 0) (xs : List X) (i j : ℕ) : Type 0 where
  pub before : i < j
  pub first : X
  pub second : X
  pub at_first : slice_get xs i ≡ Some first
  pub at_second : slice_get xs j ≡ Some second
  pub leads : LeadsTo first second

-- the numbers are a chain: each leads to the next by this relation, and all are below the count
abbrev pub IsChain : (ℕ → ℕ → Type 0) → ℕ → List ℕ → Type 0
IsChain LeadsOn count [] = Unit {0}
IsChain LeadsOn count (i ∷ []) = i < count
IsChain LeadsOn count (i ∷ j ∷ others) = LeadsOn i j × IsChain LeadsOn count (j ∷ others)

-- the elements at these places are a chain: each leads to the next
abbrev pub IsChainOf : {X : Type 0} → (X → X → Type 0) → List X → List ℕ → Type 0
IsChainOf LeadsTo xs chain = IsChain (Leads LeadsTo xs) (length xs) chain

-- the weight of an element, and 0 if there is none
abbrev pub weight_of_found : {X : Type 0} → (X → ℕ) → Option X → ℕ
weight_of_found weight None = 0
weight_of_found weight (Some x) = weight x

-- the weight of the element at a place
abbrev pub weight_at : {X : Type 0} → (X → ℕ) → List X → ℕ → ℕ
weight_at weight xs i = weight_of_found weight (slice_get xs i)

-- the weight of a chain is the sum of the weights of its elements
abbrev pub chain_weight : {X : Type 0} → (X → ℕ) → List X → List ℕ → ℕ
chain_weight weight xs chain = sum_by (weight_at weight xs) chain

-- At the last position, counted from the end, up to which two lists of numbers agree, the first has the lower number.
pub record IsLowerFromEnd (chain other : List ℕ) : Type 0 where
  pub lower : ℕ
  pub higher : ℕ
  pub less : lower < higher
  pub front : List ℕ
  pub other_front : List ℕ
  pub common : List ℕ
  pub this_is : chain ≡ front ++ lower ∷ common
  pub other_is : other ≡ other_front ++ higher ∷ common

-- The work is the sum of all weights. The chain is one, its weight is the span, and no chain is heavier. Of the chains of
-- this weight it is the one whose last place is the lowest, then whose last but one is the lowest, and so on.
pub record IsHeaviest {X : Type 0} (LeadsTo : X → X → Type 0) (weight : X → ℕ) (xs : List X)
    (work span : ℕ) (chain : List ℕ) : Type 0 where
  pub work_is : work ≡ sum_by weight xs
  pub chain_is : IsChainOf LeadsTo xs chain
  pub span_is : chain_weight weight xs chain ≡ span
  pub heaviest : (other : List ℕ) → IsChainOf LeadsTo xs other → chain_weight weight xs other ≤ span
  pub lowest : (other : List ℕ) → IsChainOf LeadsTo xs other → chain_weight weight xs other ≡ span
      → (chain ≡ other) ⊎ IsLowerFromEnd chain other
