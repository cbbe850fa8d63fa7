-- Records whose tasks are known to wait for a task, since the task of one of them decides for the others.
use Rattle.std.proofs.Common.{◌≡◌, ◌⊎◌, ℕ, zero, suc, List, [], ◌∷◌, length, Option, Some, IsTrue, refl, sym, ap, subst, ◌∙◌, inl, inr, ⊎_elim, arith}
use Rattle.std.specs.Prelude.{slice_get}
use Rattle.effect_sets.specs.declared.effects.Effect.{Effect}
use Rattle.floor_laws.specs.admission.admission_core.States.{Admit, IsAmong, Record}
use Rattle.floor_laws.specs.rule.nodes.LockSteps.{IsKnownToPass, own, waiting}
use Rattle.floor_laws.specs.rule.nodes.Trees.{WaitFact}
use Rattle.floor_laws.proofs.rule.Puts.{some_one}
use Rattle.floor_laws.specs.declared.table.nodes.view.TreeView.{TreeView}
use Rattle.floor_laws.specs.table.nodes.Deciders.{AllWaitFor, decided_view, learned_of, led_there}
use Rattle.floor_laws.specs.table.nodes.Layout.{decider_at}
use Rattle.floor_laws.specs.table.nodes.Seats.{TreeSeat}
use Rattle.floor_laws.specs.table.nodes.TreeOf.{content_in}
use Rattle.floor_laws.proofs.table.Added.{grown_same}
use Rattle.floor_laws.proofs.table.nodes.Deciders.{led_own, waits_each}
use Rattle.task_floor.proofs.Gathered.{among_left, among_right}
use Rattle.tree_admit.specs.Errands.{AllPass}
use Rattle.tree_admit.specs.Going.{HasOnlyFollowed, HasOnlyLearned}
use Rattle.tree_admit.specs.Passing.{EachBetween, EaseOrWaits, OwnOrWaits, is_own_or_meets}
use Rattle.tree_admit.proofs.Between.{at_is_among, both_between, each_among}
use Rattle.tree_admit.proofs.Following.{followed_refl}
use Rattle.tree_admit.proofs.PassedOver.{meets_waits, seen_passes}

-- the seat once it has looked at the decider word of task w and found this
abbrev learned_seat : TreeSeat → ℕ → ℕ → TreeSeat
learned_seat before w found = (learned_of before.0 w found, before.1)

learned_only : (before : TreeSeat) (w found : ℕ) → HasOnlyFollowed before (learned_seat before w found)
learned_only before w zero = followed_refl before
learned_only before w (suc n) = record {
  activity = refl;
  kept = refl;
  slots = refl;
  learned = record {
    floor = refl;
    done = λ fact among. among;
    waits = λ fact among. among_right fact (led_there w (content_in before.0.kept n)) before.0.waits among;
    placed = refl;
    removed = refl;
    fresh = refl;
    clear = refl;
    kept = grown_same before.0.kept;
    looks = grown_same before.0.looks;
  };
}

-- whoever looked at a decider word has only learned of waits
pub looked_up : (before after : TreeSeat) (w found : ℕ) → after ≡ (learned_of before.0 w found, before.1) → HasOnlyFollowed before after
looked_up before after w found is = subst (HasOnlyFollowed before) (sym is) (learned_only before w found)

-- if the latest record is of a task that decides, all others' tasks are known to wait for that one
decided_all : (v : TreeView) (n : ℕ) (content : List Record) (r : Record) → content_in v.kept n ≡ Some content → slice_get content 0 ≡ Some r → (s : Record) → IsAmong s content
    → (s.task ≡ r.task) ⊎ IsAmong (record { waiter = s.task; awaited = r.task }) (decided_view v r.task n).waits
decided_all v n [] r kept at s among = absurd among
decided_all v n (x ∷ xs) r kept at s (inl first) = inl (ap (λ (y : Record). y.task) (first ∙ some_one at))
decided_all v n (x ∷ xs) r kept at s (inr later) =
    let fact : WaitFact = record { waiter = s.task; awaited = r.task } in
    let led = subst (IsAmong fact) (sym (led_own r.task x xs (ap (λ (y : Record). y.task) (some_one at)))) (waits_each r.task xs s later) in
    inr
    (among_left fact (led_there r.task (content_in v.kept n)) v.waits
    (subst (λ (o : Option (List Record)). IsAmong fact (led_there r.task o)) (sym kept) led))

-- The latest record is of a task that decides at the node, and from there the waits lead to task t: so they do from the tasks of all records.
pub decided_waits : (before after : TreeSeat) (last : TreeView) (t n : ℕ) (content : List Record) (r : Record) (by found : ℕ) → after ≡ (learned_of before.0 by found, before.1)
    → by ≡ r.task → found ≡ decider_at n → content_in before.0.kept n ≡ Some content → slice_get content 0 ≡ Some r → IsAmong (record { waiter = r.task; awaited = t }) last.waits
    → ((s : ℕ) → IsAmong (record { waiter = s; awaited = r.task }) after.0.waits → IsAmong (record { waiter = s; awaited = t }) last.waits)
    → EachBetween (OwnOrWaits last.waits t) content 0 (length content)
decided_waits before after last t n content r by found is task decides kept at known led = λ k s first below here.
    ⊎_elim
    (λ (same : s.task ≡ r.task). inr (subst (λ (u : ℕ). IsAmong (record { waiter = u; awaited = t }) last.waits) (sym same) known))
    (λ (waits : IsAmong (record { waiter = s.task; awaited = r.task }) (decided_view before.0 r.task n).waits).
    inr (led s.task (subst (λ (me : TreeSeat). IsAmong (record { waiter = s.task; awaited = r.task }) me.0.waits) (sym now) waits)))
    (decided_all before.0 n content r kept at s (at_is_among content k s here))
  where
    now : after ≡ learned_seat before r.task (decider_at n)
    now = is ∙ (ap (λ (w : ℕ). learned_seat before w found) task ∙ ap (λ (k : ℕ). learned_seat before r.task k) decides)

-- it is known while the stand learns more
pub decided_kept : (v w : TreeView) (t : ℕ) (content : List Record) (k n : ℕ) → HasOnlyLearned v w → EachBetween (OwnOrWaits v.waits t) content k n
    → EachBetween (OwnOrWaits w.waits t) content k n
decided_kept v w t content k n h decided = λ j r from before at.
    ⊎_elim (λ (same : r.task ≡ t). inl same) (λ (known : IsAmong (record { waiter = r.task; awaited = t }) v.waits). inr (h.waits (record { waiter = r.task; awaited = t }) known)) (decided j r from before at)

-- The first records of a content were looked at, and the others are decided: all pass, and all their tasks wait for t if each of the first may interfere.
module _ (v : TreeView) (t : ℕ) (e : Effect) (content : List Record) (first : ℕ) (seen : EachBetween (EaseOrWaits v.waits t e) content 0 first)
    (decided : EachBetween (OwnOrWaits v.waits t) content first (length content)) where
  pub looked_pass : AllPass v.waits (Admit t e) content
  looked_pass =
      each_among (IsKnownToPass v.waits t e) content 0 (omega arith)
      (both_between (IsKnownToPass v.waits t e) content 0 first (length content) (λ j r from before at. seen_passes v.waits t e r (seen j r from before at))
      (λ j r from before at.
      ⊎_elim (λ (same : r.task ≡ t). own same) (λ (known : IsAmong (record { waiter = r.task; awaited = t }) v.waits). waiting known) (decided j r from before at)))

  pub looked_waits : EachBetween (λ r. IsTrue (is_own_or_meets t e r)) content 0 first → AllWaitFor v.waits t content
  looked_waits meets =
      each_among (OwnOrWaits v.waits t) content 0 (omega arith)
      (both_between (OwnOrWaits v.waits t) content 0 first (length content) (λ j r from before at. meets_waits v.waits t e r (meets j r from before at) (seen j r from before at)) decided)
