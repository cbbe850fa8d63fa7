-- What a stand has of the content of a node that it has locked. While the content is handed out, nothing lies in the node's slot.
use Rattle.std.specs.Prelude.{◌≡◌, ℕ, List, ◌∷◌, None, Some}
use Rattle.twe_base.specs.Limits.{Bounds}
use Rattle.floor_laws.specs.admission.admission_core.States.{Record}
use Rattle.floor_laws.specs.declared.table.nodes.slot.TreeSlot.{TreeSlot}
use Rattle.floor_laws.specs.declared.table.nodes.slot.TreeSlot.TheVariants as kinds
use Rattle.floor_laws.specs.table.nodes.Layout.{content_place}
use Rattle.floor_laws.specs.table.nodes.Seats.{TreeSeat}
use Rattle.floor_laws.specs.table.nodes.TreeOf.{content_in}

-- what is in the slot of a node whose content was handed out
abbrev pub nothing : TreeSlot
nothing = kinds.Task None

-- the latest slot that the stand has out is that of node n, whose content was handed out
abbrev pub IsHandedOut : Bounds → TreeSeat → ℕ → List (ℕ × TreeSlot) → Type 0
IsHandedOut lim me n rest = me.1 ≡ (content_place lim n, nothing) ∷ rest

-- the stand was handed the content of node n, which is the one that it knows
pub record HasTakenContent (lim : Bounds) (before : TreeSeat) (n : ℕ) (content : List Record) (rest : List (ℕ × TreeSlot))
    (after : TreeSeat) : Type 0 where
  pub known : content_in before.0.kept n ≡ Some content
  pub seat : after ≡ (before.0, (content_place lim n, nothing) ∷ rest)

-- the content lies in the slot of node n again
abbrev pub HasGivenContent : Bounds → TreeSeat → ℕ → List Record → List (ℕ × TreeSlot) → TreeSeat → Type 0
HasGivenContent lim before n content rest after = after ≡ (before.0, (content_place lim n, kinds.Node content) ∷ rest)

-- this content of node n was handed out, and is the one that the stand knows; the node's slot is the latest that the stand has
-- out
pub record HasInHand (lim : Bounds) (me : TreeSeat) (n : ℕ) (content : List Record) (rest : List (ℕ × TreeSlot)) : Type 0 where
  pub known : content_in me.0.kept n ≡ Some content
  pub slot : IsHandedOut lim me n rest

-- the same, but the stand has taken this slot after that of node n
pub record HasBehind (lim : Bounds) (me : TreeSeat) (n : ℕ) (content : List Record) (latest : ℕ × TreeSlot)
    (rest : List (ℕ × TreeSlot)) : Type 0 where
  pub known : content_in me.0.kept n ≡ Some content
  pub slots : me.1 ≡ latest ∷ (content_place lim n, nothing) ∷ rest
