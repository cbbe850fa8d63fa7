-- What a stand has and knows while it goes down the tree. Each definition speaks of the stand's seat: its view, and the slots
-- that it has out, the latest first.
use Rattle.std.specs.Prelude.{◌≡◌, ◌≢◌, ℕ, List, ◌∷◌, Option, Some, None}
use Rattle.twe_base.specs.Limits.{Bounds}
use Rattle.floor_laws.specs.declared.rule.view.DoneFact.{DoneFact}
use Rattle.floor_laws.specs.admission.admission_core.States.{Activity, IsAmong, Record}
use Rattle.floor_laws.specs.rule.nodes.Trees.{WaitFact}
use Rattle.floor_laws.specs.declared.table.nodes.slot.TreeSlot.{TreeSlot}
use Rattle.floor_laws.specs.declared.table.nodes.slot.TreeSlot.TheVariants as kinds
use Rattle.floor_laws.specs.table.Added.{HasGrown}
use Rattle.floor_laws.specs.declared.table.nodes.view.TreeView.{TreeView}
use Rattle.floor_laws.specs.table.nodes.Layout.{content_place}
use Rattle.floor_laws.specs.table.nodes.Seats.{TreeSeat, locked_view}
use Rattle.floor_laws.specs.table.nodes.TreeOf.{content_in}

-- the seat does nothing in the tree, and has the content of no node
pub record IsOutside (v : TreeView) : Type 0 where
  pub idle : v.activity ≡ None
  pub none : (n : ℕ) → content_in v.kept n ≡ None

-- The second view has learned of waits and of tasks that are done, and has had contents of nodes and looked. Of the floor and of
-- the records it knows what the first one knew.
pub record HasOnlyLearned (v w : TreeView) : Type 0 where
  pub floor : w.floor ≡ record v.floor { done = w.floor.done }
  pub done : (fact : DoneFact) → IsAmong fact v.floor.done → IsAmong fact w.floor.done
  pub waits : (fact : WaitFact) → IsAmong fact v.waits → IsAmong fact w.waits
  pub placed : w.placed ≡ v.placed
  pub removed : w.removed ≡ v.removed
  pub fresh : w.fresh ≡ v.fresh
  pub clear : w.clear ≡ v.clear
  -- it knows which contents it had, and what it looked at
  pub kept : HasGrown v.kept w.kept
  pub looks : HasGrown v.looks w.looks

-- the seat followed waits, and did nothing else
pub record HasOnlyFollowed (before after : TreeSeat) : Type 0 where
  pub activity : after.0.activity ≡ before.0.activity
  pub kept : after.0.kept ≡ before.0.kept
  pub slots : after.1 ≡ before.1
  pub learned : HasOnlyLearned before.0 after.0

-- The seat has locked node n, and its content is in hand: nothing lies in the node's slot, which is the latest that it has out.
-- It does this in the tree. Of the other nodes it has the contents that an earlier view had, and it has only learned since then.
pub record HasNode (lim : Bounds) (earlier : TreeView) (rest : List (ℕ × TreeSlot)) (a : Activity) (n : ℕ) (content : List Record)
    (me : TreeSeat) : Type 0 where
  pub active : me.0.activity ≡ Some a
  pub known : content_in me.0.kept n ≡ Some content
  pub others : (m : ℕ) → m ≢ n → content_in me.0.kept m ≡ content_in earlier.kept m
  pub slots : me.1 ≡ (content_place lim n, kinds.Task None) ∷ rest
  pub learned : HasOnlyLearned earlier me.0

-- The seat has given back what it had locked since it had the earlier view. This is what is left to do for it in the tree.
pub record HasLeft (earlier : TreeView) (rest : List (ℕ × TreeSlot)) (activity : Option Activity) (me : TreeSeat) : Type 0 where
  pub left : me.0.activity ≡ activity
  pub kept : (m : ℕ) → content_in me.0.kept m ≡ content_in earlier.kept m
  pub slots : me.1 ≡ rest
  pub learned : HasOnlyLearned earlier me.0

-- the seat has locked node n, does this from then on, and has this content in hand
abbrev pub HasLocked : Bounds → TreeSeat → ℕ → Activity → List Record → TreeSeat → Type 0
HasLocked lim before n next content after =
    after ≡ (locked_view before.0 n content next, (content_place lim n, kinds.Task None) ∷ before.1)
