-- Who has locked a node and taken its content out of its slot has it in hand.
use Rattle.std.proofs.Common.{◌≡◌, ℕ, List, ◌∷◌, Some, None, sym, ap, subst, ◌∙◌}
use Rattle.twe_base.specs.Limits.{Bounds}
use Rattle.floor_laws.proofs.rule.Puts.{some_one}
use Rattle.floor_laws.specs.admission.admission_core.States.{Activity, Record}
use Rattle.floor_laws.specs.declared.table.nodes.slot.TreeSlot.TheVariants as kinds
use Rattle.floor_laws.specs.table.nodes.Layout.{content_place}
use Rattle.floor_laws.specs.table.nodes.Seats.{HasContent, HasOwn, TookNode, TreeSeat, locked_view}
use Rattle.floor_laws.specs.table.nodes.TreeOf.{content_in}
use Rattle.task_floor.specs.Contents.{HasTakenContent}
use Rattle.tree_admit.specs.Going.{HasLocked}
use Rattle.tree_admit.proofs.Contents.{content_here}

module _ (lim : Bounds) (before : TreeSeat) (n : ℕ) (next : Activity) (mid : TreeSeat) (took : TookNode lim before n next mid) where
  pub took_known : content_in mid.0.kept n ≡ Some took.records
  took_known = subst (λ (me : TreeSeat). content_in me.0.kept n ≡ Some took.records) (sym took.seat) (content_here n (Some took.records) before.0.kept)

  pub took_content : HasContent lim mid n before.1
  took_content = record { content = took.records; has = took_known; slot = ap (λ (me : TreeSeat). me.1) took.seat }

  pub took_locked : (content : List Record) (after : TreeSeat) → HasTakenContent lim mid n content before.1 after → HasLocked lim before n next content after
  took_locked content after taken =
      let same : took.records ≡ content = some_one (sym took_known ∙ taken.known) in
      taken.seat
      ∙ (ap (λ (me : TreeSeat). (me.0, (content_place lim n, kinds.Task None) ∷ before.1)) took.seat
      ∙ ap (λ (records : List Record). (locked_view before.0 n records next, (content_place lim n, kinds.Task None) ∷ before.1)) same)

  -- what the seat has placed at the node is there
  pub took_own : (content : List Record) (after : TreeSeat) → HasTakenContent lim mid n content before.1 after → HasOwn before.0 n content
  took_own content after taken = subst (λ (l : List Record). HasOwn before.0 n l) (some_one (sym took_known ∙ taken.known)) took.own
