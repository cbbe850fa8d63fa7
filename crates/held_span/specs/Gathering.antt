-- What is known of lists of effects that are gathered.
use Rattle.std.specs.Prelude.{◌≡◌, ◌<◌, ◌^◌, ℕ, List, Some, IsTrue, length, slice_get}
use Rattle.std.specs.List.{AllZip, Contains}
use Rattle.effect_sets.specs.declared.effects.Effect.{Effect}
use Rattle.prefix_tree.specs.Nodes.{IsTreeOfPaths, path_of}
use Rattle.prefix_tree.specs.Prefix.{IsPrefix}
use Rattle.effect_tree.specs.Place.{IsPlace}
use Rattle.held_span.specs.Rivals.{AreFilled, AreNumbersOf, EffectList, IsNumberOf, is_rival}
use Rattle.held_span.specs.Tables.{IsListed}
use Rattle.held_span.specs.declared.gathered.Gathered.{Gathered}
use Rattle.held_span.specs.declared.placed.Placed.{Placed}

-- the effect of this number is placed at this node
abbrev pub IsPlacedAt : Placed → ℕ → ℕ → Type 0
IsPlacedAt placed number node = slice_get placed.places number ≡ Some node

-- Each distinct effect is placed at its node, and listed there.
pub record ArePlaced (placed : Placed) : Type 0 where
  pub tree : IsTreeOfPaths placed.shape
  pub nodes : length placed.at_nodes ≡ length placed.shape
  pub places : length placed.places ≡ length placed.effects
  pub few : length placed.effects < 2 ^ 32
  pub filled : AreFilled placed.effects
  pub there : (number node : ℕ) → IsPlacedAt placed number node → node < length placed.shape
  pub placed_at : (number node : ℕ) (effect : Effect) → IsNumberOf placed.effects number effect → IsPlacedAt placed number node
      → IsPlace placed.shape effect.path (path_of placed.shape node)
  pub listed : (number node : ℕ) → IsPlacedAt placed number node → IsListed placed.at_nodes node number

-- These are the effects that interfere with this one, among those that are placed at this node or above it, and no others
-- that don't interfere with it.
pub record AreRivalsFrom (placed : Placed) (effect : Effect) (node : ℕ) (rivals : List ℕ) : Type 0 where
  pub sound : (number : ℕ) → Contains rivals number → IsTrue (is_rival placed.effects effect number)
  pub complete : (number place : ℕ) → IsPlacedAt placed number place
      → IsPrefix (path_of placed.shape place) (path_of placed.shape node) → IsTrue (is_rival placed.effects effect number)
      → Contains rivals number

-- These lists were gathered.
pub record AreGathered (lists : List EffectList) (gathered : Gathered) : Type 0 where
  pub placed : ArePlaced gathered.placed
  pub lists_are : AllZip (AreNumbersOf gathered.placed.effects) gathered.lists lists

-- some lists were gathered
abbrev pub IsGathering : Gathered → Type 0
IsGathering gathered = (lists : List EffectList) × AreGathered lists gathered
