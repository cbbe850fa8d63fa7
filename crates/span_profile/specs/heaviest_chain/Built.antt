-- What chains hold of the nodes that were added.
use Rattle.std.specs.Prelude.{◌≡◌, ◌<◌, ◌≤◌, ◌+◌, ◌^◌, ℕ, List, Option, Some, length, slice_get, sum_by}
use Rattle.std.specs.List.{Contains}
use Rattle.span_profile.specs.declared.heaviest_chain.key.Key.{Key}
use Rattle.span_profile.specs.declared.heaviest_chain.top.Best.{Best}
use Rattle.span_profile.specs.declared.heaviest_chain.top.Top.{Top}
use Rattle.span_profile.specs.heaviest_chain.BestChains.{BestChains, giver_of}
use Rattle.span_profile.specs.heaviest_chain.Chains.{Leads}
use Rattle.span_profile.specs.heaviest_chain.Nodes.{Node, SharesKey, weight_of}
use Rattle.span_profile.specs.heaviest_chain.inner.Tops.{IsTop, best_after}

-- the node of this number gives the key
abbrev pub GivesKey : List Node → Key → ℕ → Type 0
GivesKey nodes key number = (node : Node) × (slice_get nodes number ≡ Some node) × Contains node.gives key

-- This is the heaviest chain that ends at the node of this number: it goes on from the highest of those that lead there.
pub record IsBest (nodes : List Node) (bests : List Best) (number : ℕ) (best : Best) : Type 0 where
  pub node : Node
  pub there : slice_get nodes number ≡ Some node
  pub some : 0 < node.weight
  pub top : Option Top
  pub is_top : IsTop bests (λ before. Leads SharesKey nodes before number) top
  pub best_is : best ≡ best_after top node.weight

-- The chains hold these nodes.
pub record FrontHolds (nodes : List Node) (chains : BestChains) : Type 0 where
  pub work : chains.work ≡ sum_by weight_of nodes
  pub count : length chains.bests ≡ length nodes
  pub bests : (number : ℕ) (best : Best) → slice_get chains.bests number ≡ Some best → IsBest nodes chains.bests number best
  pub within : (number : ℕ) (best : Best) → slice_get chains.bests number ≡ Some best → best.weight ≤ chains.work
  pub givers : (key : Key) → IsTop chains.bests (GivesKey nodes key) (giver_of chains.givers key)

-- the chains hold some nodes
abbrev pub IsBuilt : BestChains → Type 0
IsBuilt chains = (nodes : List Node) × FrontHolds nodes chains

-- and one more of this weight may be added
abbrev pub HasRoom : BestChains → ℕ → Type 0
HasRoom chains weight = (nodes : List Node) × FrontHolds nodes chains × (sum_by weight_of nodes + weight < 2 ^ 64)
