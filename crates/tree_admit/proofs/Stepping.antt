-- One step down, from a node to its child.
use Rattle.std.proofs.Common.{◌≡◌, ℕ, List, ◌∷◌, Option, Some, None, refl, sym, subst}
use mathlib.Core.Option as core
use Rattle.region_paths.specs.declared.elements.Elem.{Elem}
use Rattle.effect_sets.specs.declared.effects.Effect.{Effect}
use Rattle.twe_base.specs.Limits.{Bounds}
use Rattle.twe_program.specs.Program.{Program}
use Rattle.floor_laws.specs.admission.admission_core.States.{Activity, Record, Steps}
use Rattle.floor_laws.specs.declared.table.nodes.slot.TreeSlot.{TreeSlot}
use Rattle.floor_laws.specs.declared.table.nodes.slot.TreeSlot.TheVariants as kinds
use Rattle.floor_laws.specs.declared.table.nodes.view.TreeView.{TreeView}
use Rattle.floor_laws.specs.table.Added.{HasGrown, IsAdded}
use Rattle.floor_laws.proofs.table.Added.{added_then, grown_by, grown_same}
use Rattle.floor_laws.specs.table.nodes.Layout.{content_place}
use Rattle.floor_laws.specs.table.nodes.TreeOf.{content_in}
use Rattle.floor_laws.specs.table.nodes.Seats.{GaveNode, MayGoOn, MayLock, TreeSeat, unlocked_view}
use Rattle.task_floor.specs.Contents.{HasBehind, HasInHand}
use Rattle.tree_admit.specs.declared.bars.Bar.{Bar}
use Rattle.tree_admit.specs.Bars.{IsBarIn, WasBarred}
use Rattle.tree_admit.specs.Going.{HasLocked, HasNode, HasOnlyLearned}
use Rattle.floor_laws.specs.table.nodes.Seats.{stage_at}
use Rattle.tree_admit.specs.Descents.{MayStepDown}
use Rattle.tree_admit.proofs.Alone.{learned_served}
use Rattle.tree_admit.proofs.Contents.{content_added}
use Rattle.tree_admit.proofs.Entering.{has_come}
use Rattle.tree_admit.proofs.Learning.{KnowsAll, bar_kept, bar_since}
use Rattle.tree_admit.proofs.Steps.{child_alone, may_go_down, may_leave_parent, parent_known, parent_slots}

module _ (nodes : List (List Elem)) (lim : Bounds) (earlier : TreeView) (rest : List (ℕ × TreeSlot)) (a : Activity) (n : ℕ) (content : List Record) (c : ℕ) (me : TreeSeat)
    (step : MayStepDown nodes lim earlier rest a n content c me) where
  abbrev pub first : Activity
  first = record a { stage = Steps n c }

  abbrev pub next : Activity
  next = record a { stage = stage_at a.place c }

  pub step_may : MayLock nodes me.0 core.none c first
  step_may = may_go_down lim earlier rest a n content me step.has nodes c step.stage step.child step.way step.pass

  module _ (below : List Record) (after : TreeSeat) (locked : HasLocked lim me c first below after) where
    pub step_leaves : MayGoOn nodes after.0 n next
    step_leaves = may_leave_parent lim earlier rest a n content me step.has nodes c (stage_at a.place c) below after locked (has_come a.place c)

    pub step_behind : HasBehind lim after n content (content_place lim c, kinds.Task None) rest
    step_behind = record {
      known = parent_known lim earlier rest a n content me step.has c first below after step.differs locked;
      slots = parent_slots lim earlier rest a n content me step.has c first below after locked;
    }

    pub step_came : (final : TreeSeat) → GaveNode after n (Some next) ((content_place lim c, kinds.Task None) ∷ rest) final → HasNode lim earlier rest next c below final
    step_came final gave = child_alone lim earlier rest a n content me step.has c first next below after final step.differs step.none locked gave

-- Giving back the last node.
module _ (lim : Bounds) (earlier : TreeView) (rest : List (ℕ × TreeSlot)) (a : Activity) (n : ℕ) (content : List Record) (me : TreeSeat) (h : HasNode lim earlier rest a n content me) where
  pub in_hand : HasInHand lim me n content rest
  in_hand = record { known = h.known; slot = h.slots }

  -- who gives back a node at which a bar stands was barred, since it has had the node
  pub barred_after : (p : Program) (from : TreeSeat) (t : ℕ) (e : Effect) (bar : Bar) (goes : Option Activity) (final : TreeSeat) → content_in earlier.kept n ≡ None → HasOnlyLearned earlier from.0 → bar.node ≡ n
      → IsBarIn p lim from.0 me.0 t e content bar → GaveNode me n goes rest final → WasBarred p lim earlier final.0 t e bar
  barred_after p from t e bar goes final none learned at (r, among, is) gave =
      let left = unlocked_view me.0 n goes in
      let more : HasGrown me.0.kept left.kept = grown_by (record { node = n; content = None }) me.0.kept left.kept refl in
      let knows : KnowsAll me.0 left = record { waits = λ fact known. known; kept = more; looks = grown_same me.0.looks } in
      let had = content_added earlier.kept me.0.kept n content h.learned.kept none h.known in
      let added = added_then (record { node = n; content = Some content }) earlier.kept me.0.kept left.kept had more in
      let here : IsAdded (record { node = bar.node; content = Some content }) earlier.kept left.kept =
      subst (λ (m : ℕ). IsAdded (record { node = m; content = Some content }) earlier.kept left.kept) (sym at) added in
      subst (λ (w : TreeSeat). WasBarred p lim earlier w.0 t e bar) (sym gave)
      (content, here, (r, among, bar_kept p lim t e earlier me.0 left r bar knows (bar_since p lim t e earlier from.0 me.0 r bar learned.looks (learned_served t earlier from.0 learned) is)))
