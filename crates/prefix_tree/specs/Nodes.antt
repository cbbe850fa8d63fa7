-- The nodes of a tree, as the list of their paths: the path of node n stands at place n.
use Rattle.std.specs.Prelude.{◌≡◌, ℕ, ◌<◌, List, [], ◌∷◌, ◌++◌, length, slice_index_or}
use Rattle.prefix_tree.specs.Prefix.{IsPrefix}

-- the path of node n
abbrev pub path_of : {A : Type 0} → List (List A) → ℕ → List A
path_of nodes n = slice_index_or nodes n []

-- the path is that of a node
abbrev pub IsNode : {A : Type 0} → List (List A) → List A → Type 0
IsNode nodes path = (n : ℕ) × (n < length nodes) × (path_of nodes n ≡ path)

-- n lies right below m: its path is that of m and one element more
abbrev pub IsParent : {A : Type 0} → List (List A) → ℕ → ℕ → Type 0
IsParent {A} nodes m n = (m < length nodes) × (n < length nodes) × ((e : A) × (path_of nodes n ≡ path_of nodes m ++ e ∷ []))

-- node 0 is the root, no path is that of two nodes, and above each node there is one for each prefix of its path
pub record IsTreeOfPaths {A : Type 0} (nodes : List (List A)) : Type 0 where
  pub some : 0 < length nodes
  pub root : path_of nodes 0 ≡ []
  pub once : (m n : ℕ) → m < length nodes → n < length nodes → path_of nodes m ≡ path_of nodes n → m ≡ n
  pub closed : (path prefix : List A) → IsPrefix prefix path → IsNode nodes path → IsNode nodes prefix
