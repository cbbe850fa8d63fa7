-- The highest of the nodes with a property: its heaviest chain is the heaviest, and of several it has the lowest number.
use Rattle.std.specs.Prelude.{◌≡◌, ◌<◌, ◌≤◌, ◌+◌, ◌⊎◌, ◌==◌, ◌&&◌, ◌||◌, ℕ, Bool, List, Option, None, Some, length, nat_lt, if◌then◌else◌, slice_get}
use Rattle.span_profile.specs.declared.heaviest_chain.top.Best.{Best}
use Rattle.span_profile.specs.declared.heaviest_chain.top.Top.{Top}

-- the second is higher: it is heavier, or as heavy and of a lower number
abbrev pub is_topped : Top → Top → Bool
is_topped a b = nat_lt a.weight b.weight || ((a.weight == b.weight) && nat_lt b.node a.node)

-- the higher of two, either of which may be missing
abbrev pub higher : Option Top → Option Top → Option Top
higher None b = b
higher (Some a) None = Some a
higher (Some a) (Some b) = if is_topped a b then Some b else Some a

-- the weight of the heaviest chain that was found, and 0 if none was
abbrev pub weight_of_best : Option Best → ℕ
weight_of_best None = 0
weight_of_best (Some best) = best.weight

-- the weight of the heaviest chain that ends at a node
abbrev pub best_at : List Best → ℕ → ℕ
best_at bests node = weight_of_best (slice_get bests node)

-- the heaviest chain that ends at a node is lighter than this one, or as heavy, and the node's number is no lower
abbrev pub IsNoHigher : List Best → Top → ℕ → Type 0
IsNoHigher bests top node = (best_at bests node < top.weight) ⊎ ((best_at bests node ≡ top.weight) × (top.node ≤ node))

-- This is the highest node with the property.
pub record IsTopOf (bests : List Best) (Has : ℕ → Type 0) (top : Top) : Type 0 where
  pub has : Has top.node
  pub weight_is : best_at bests top.node ≡ top.weight
  pub highest : (node : ℕ) → Has node → IsNoHigher bests top node

-- this is the highest node with the property, or there is none
abbrev pub IsTop : List Best → (ℕ → Type 0) → Option Top → Type 0
IsTop bests Has None = (node : ℕ) → ¬ Has node
IsTop bests Has (Some top) = IsTopOf bests Has top

-- this is the highest of all nodes, or there is none
abbrev pub IsHighest : List Best → Option Top → Type 0
IsHighest bests top = IsTop bests (λ node. node < length bests) top

-- the weight of the heaviest chain before a node, if this is the highest node that leads to it
abbrev pub weight_before : Option Top → ℕ
weight_before None = 0
weight_before (Some top) = top.weight

-- the heaviest chain that ends at a node of this weight, if this is the highest node that leads to it
abbrev pub best_after : Option Top → ℕ → Best
best_after None weight = record { weight = weight; previous = None }
best_after (Some top) weight = record { weight = top.weight + weight; previous = Some top.node }

-- the weight of the heaviest chain up to a node before another one, and 0 if there is none before it
abbrev pub start_after : List Best → Option ℕ → ℕ
start_after bests None = 0
start_after bests (Some node) = best_at bests node

-- the last node but one of each of these chains comes before its last
abbrev pub PreviousAreLower : List Best → Type 0
PreviousAreLower bests =
    (node previous : ℕ) (best : Best) → slice_get bests node ≡ Some best → best.previous ≡ Some previous → previous < node
