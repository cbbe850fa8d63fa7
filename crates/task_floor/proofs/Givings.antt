-- Contents that are taken out of the slots of nodes, and given back.
use Rattle.std.proofs.Common.{◌≡◌, ℕ, List, [], ◌∷◌, ◌++◌, Option, Some, sym, ap, subst, ◌∙◌}
use Rattle.atomic_table.specs.Table.{rest, turned}
use Rattle.twe_base.specs.Limits.{Bounds}
use Rattle.floor_laws.specs.declared.rule.view.TaskSlot.{TaskSlot}
use Rattle.floor_laws.specs.admission.admission_core.States.{Activity, Record}
use Rattle.floor_laws.specs.declared.table.nodes.slot.Errand.{Errand}
use Rattle.floor_laws.specs.declared.table.nodes.slot.TreeSlot.{TreeSlot}
use Rattle.floor_laws.specs.declared.table.nodes.slot.TreeSlot.TheVariants as kinds
use Rattle.floor_laws.specs.declared.table.nodes.view.TreeView.{TreeView}
use Rattle.floor_laws.specs.table.nodes.Layout.{content_place}
use Rattle.floor_laws.specs.table.nodes.Seats.{GaveNode, HasContent, TreeSeat, unlocked_view}
use Rattle.floor_laws.specs.table.nodes.TreeOf.{content_in}
use Rattle.task_floor.specs.Contents.{HasBehind, HasGivenContent, HasInHand, HasTakenContent, nothing}

-- What lies in a slot.

node_one : (a b : List Record) → kinds.Node a ≡ kinds.Node b → a ≡ b
node_one a b h = cc

pub no_task : (a : List Record) (x : Option TaskSlot) → kinds.Node a ≡ kinds.Task x → ⊥
no_task a x h = cc

pub no_errand : (a : List Record) (x : Errand) → kinds.Node a ≡ kinds.Errand x → ⊥
no_errand a x h = cc

abbrev first_of : TreeSlot → List (ℕ × TreeSlot) → TreeSlot
first_of x [] = x
first_of x (z ∷ zs) = z.1

-- the slot is the latest that is out
pub out_is : (lim : Bounds) (me : TreeSeat) (n slot : ℕ) (x : TreeSlot) (others : List (ℕ × TreeSlot)) → slot ≡ content_place lim n
    → me.1 ≡ (content_place lim n, x) ∷ others → me.1 ≡ (slot, x) ∷ rest me.1
out_is lim me n slot x others place is = is ∙ (λ k. (sym place k, x) ∷ sym (ap rest is) k)

-- it holds something else
pub exchanged : (lim : Bounds) (me after : TreeSeat) (n slot : ℕ) (x y : TreeSlot) (others : List (ℕ × TreeSlot)) → slot ≡ content_place lim n
    → me.1 ≡ (content_place lim n, x) ∷ others
    → after ≡ (me.0, (slot, y) ∷ rest me.1) → after ≡ (me.0, (content_place lim n, y) ∷ others)
exchanged lim me after n slot x y others place is seat = seat ∙ (λ k. (me.0, (place k, y) ∷ ap rest is k))

-- what comes out of it is the content
pub content_is : (lim : Bounds) (me : TreeSeat) (n slot : ℕ) (x : TreeSlot) (others : List (ℕ × TreeSlot)) (has : HasContent lim me n others)
    → me.1 ≡ (slot, x) ∷ rest me.1 → x ≡ kinds.Node has.content
content_is lim me n slot x others has is = ap (first_of x) (sym is ∙ has.slot)

pub has_taken : (lim : Bounds) (me after : TreeSeat) (n slot : ℕ) (x : TreeSlot) (content : List Record) (others : List (ℕ × TreeSlot))
    → slot ≡ content_place lim n → HasContent lim me n others
    → me.1 ≡ (slot, x) ∷ rest me.1 → x ≡ kinds.Node content → after ≡ (me.0, (slot, nothing) ∷ rest me.1) → HasTakenContent lim me n content others after
has_taken lim me after n slot x content others place has first is seat = record {
  known = has.has ∙ ap Some (node_one has.content content (sym (content_is lim me n slot x others has first) ∙ is));
  seat = exchanged lim me after n slot (kinds.Node has.content) nothing others place has.slot seat;
}

-- Unlocking.

-- the view stays while a content is given back
pub same_view : (lim : Bounds) (me mid : TreeSeat) (n : ℕ) (content : List Record) (others : List (ℕ × TreeSlot))
    → HasGivenContent lim me n content others mid → mid.0 ≡ me.0
same_view lim me mid n content others given = ap (λ (m : TreeSeat). m.0) given

abbrev pub has_content : (lim : Bounds) (me mid : TreeSeat) (n : ℕ) (content : List Record) (others : List (ℕ × TreeSlot)) → HasInHand lim me n content others
    → HasGivenContent lim me n content others mid
    → HasContent lim mid n others
has_content lim me mid n content others hand given =
    record { content = content; has = ap (λ (m : TreeSeat). content_in m.0.kept n) given ∙ hand.known; slot = ap (λ (m : TreeSeat). m.1) given }

pub gave_from : (me mid after : TreeSeat) (n : ℕ) (next : Option Activity) (others : List (ℕ × TreeSlot)) → mid.0 ≡ me.0
    → GaveNode mid n next others after → GaveNode me n next others after
gave_from me mid after n next others view gave = gave ∙ ap (λ (v : TreeView). (unlocked_view v n next, others)) view

-- Hand over hand.

pub turned_hand : (lim : Bounds) (me mid : TreeSeat) (n : ℕ) (content : List Record) (latest : ℕ × TreeSlot) (others : List (ℕ × TreeSlot))
    → HasBehind lim me n content latest others → mid ≡ (me.0, turned me.1)
    → HasInHand lim mid n content (others ++ latest ∷ [])
turned_hand lim me mid n content latest others behind is =
    subst (λ (m : TreeSeat). HasInHand lim m n content (others ++ latest ∷ [])) (sym is) (record { known = behind.known; slot = ap turned behind.slots })

abbrev behind_of : List (ℕ × TreeSlot) → List (ℕ × TreeSlot)
behind_of [] = []
behind_of (x ∷ []) = []
behind_of (x ∷ y ∷ zs) = zs

pub same_behind : (lim : Bounds) (me : TreeSeat) (n : ℕ) (content : List Record) (latest other : ℕ × TreeSlot) (others more : List (ℕ × TreeSlot))
    → HasBehind lim me n content latest others
    → HasBehind lim me n content other more → others ≡ more
same_behind lim me n content latest other others more one two = ap behind_of (sym one.slots ∙ two.slots)
