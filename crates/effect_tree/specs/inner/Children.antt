-- The lists of the nodes right below each node.
use Rattle.std.specs.Prelude.{◌≡◌, ℕ, ◌<◌, ◌↔◌, List, [], ◌∷◌, ◌++◌, length, map, Contains, slice_index_or, slice_set}
use Rattle.std.specs.List.Sorted.{IsStrictlyIncreasing}
use Rattle.std.specs.declared.vec.Vec.{Vec}
use Rattle.std.specs.declared.alloc.Global.{Global}
use Rattle.prefix_tree.specs.Nodes.{IsParent}

-- the items of each of these lists
abbrev pub items_of : Vec (Vec ℕ Global) Global → List (List ℕ)
items_of lists = map (λ (v : Vec ℕ Global). v.items) lists.items

-- the lists once a number was put after the others of list n
abbrev pub with_pushed : List (List ℕ) → ℕ → ℕ → List (List ℕ)
with_pushed lists n number = slice_set lists n (slice_index_or lists n [] ++ number ∷ [])

-- for each node there is a list of those right below it, of the nodes with a number below the bound
pub record HasChildrenBelow {A : Type 0} (nodes : List (List A)) (lists : List (List ℕ)) (bound : ℕ) : Type 0 where
  pub counted : length lists ≡ length nodes
  pub each : (n m : ℕ) → Contains (slice_index_or lists n []) m ↔ ((m < bound) × IsParent nodes n m)
  pub in_order : (n : ℕ) → IsStrictlyIncreasing (slice_index_or lists n [])

-- for each node there is a list of all that are right below it
abbrev pub HasChildren : {A : Type 0} → List (List A) → List (List ℕ) → Type 0
HasChildren nodes lists = HasChildrenBelow nodes lists (length nodes)
