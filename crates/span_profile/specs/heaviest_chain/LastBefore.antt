-- What each node waits for the longest.
use Rattle.std.specs.Prelude.{◌≡◌, ◌≤◌, ℕ, List, Option, None, Some, length, slice_get, slice_index}
use Rattle.span_profile.specs.heaviest_chain.Chains.{Leads}
use Rattle.span_profile.specs.heaviest_chain.Nodes.{Node, SharesKey}

-- the node of this number starts as another one ends that leads to it, or at 0, if there is none
abbrev pub StartsAfter : List Node → List ℕ → List ℕ → ℕ → Option ℕ → Type 0
StartsAfter nodes starts ends number None = slice_index starts number ≡ 0
StartsAfter nodes starts ends number (Some before) =
    Leads SharesKey nodes before number × (slice_index ends before ≡ slice_index starts number)

-- For each of these nodes, with these times, this is one after which it starts, and the first of those.
pub record AreLastBefore (nodes : List Node) (starts ends : List ℕ) (found : List (Option ℕ)) : Type 0 where
  pub count : length found ≡ length nodes
  pub each : (number : ℕ) (before : Option ℕ) → slice_get found number ≡ Some before → StartsAfter nodes starts ends number before
  pub first : (number before other : ℕ) → slice_get found number ≡ Some (Some before) → Leads SharesKey nodes other number
      → slice_index ends other ≡ slice_index starts number → before ≤ other
