-- Nodes, and when one leads to another.
use Rattle.std.specs.Prelude.{ℕ, List}
use Rattle.std.specs.List.{Contains}
use Rattle.span_profile.specs.declared.heaviest_chain.key.Key.{Key}

-- a node: its weight, the keys that it asks for from earlier nodes, and those that it gives to later ones
pub record Node : Type 0 where
  pub weight : ℕ
  pub asks : List Key
  pub gives : List Key

-- nodes in the order in which they come
abbrev pub Nodes : Type 0
Nodes = List Node

-- the weight of a node
abbrev pub weight_of : Node → ℕ
weight_of node = node.weight

-- the first node gives a key that the second asks for
abbrev pub SharesKey : Node → Node → Type 0
SharesKey first second = (key : Key) × Contains first.gives key × Contains second.asks key
