-- What is kept of nodes to find their heaviest chain.
use Rattle.std.specs.Prelude.{◌==◌, ℕ, Bool, false, List, [], ◌∷◌, Option, None, Some, if◌then◌else◌}
use Rattle.span_profile.specs.declared.heaviest_chain.key.Key.{Key}
use Rattle.span_profile.specs.declared.heaviest_chain.key.Key.TheVariants.{Task, Value, Write, Access}
use Rattle.span_profile.specs.declared.heaviest_chain.top.Best.{Best}
use Rattle.span_profile.specs.declared.heaviest_chain.top.Top.{Top}

-- a key, and the highest of the nodes that gave it
pub record Giver : Type 0 where
  pub key : Key
  pub top : Top

-- The weights of all nodes together, for each node the heaviest chain that ends there, and for each key that a node gave the
-- highest of the nodes that gave it.
pub record BestChains : Type 0 where
  pub work : ℕ
  pub bests : List Best
  pub givers : List Giver

-- whether two keys are equal
abbrev pub key_eq : Key → Key → Bool
key_eq (Task a) (Task b) = a == b
key_eq (Value a) (Value b) = a == b
key_eq (Write a) (Write b) = a == b
key_eq (Access a) (Access b) = a == b
key_eq _ _ = false

-- the highest of the nodes that gave a key, if one did
abbrev pub giver_of : List Giver → Key → Option Top
giver_of [] key = None
giver_of (giver ∷ givers) key = if key_eq key giver.key then Some giver.top else giver_of givers key
