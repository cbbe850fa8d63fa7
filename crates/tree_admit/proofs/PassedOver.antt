-- Records that a walk along the waits passed over: their tasks lead to the task that it came to, or they pass whatever is known.
use Rattle.std.proofs.Common.{◌≡◌, ◌≢◌, ◌⊎◌, ◌||◌, ℕ, Bool, true, false, not, List, IsTrue, refl, ap, subst, inl, inr, ⊎_elim, eq-eqb}
use Rattle.std.specs.Prelude.{◌==◌}
use Rattle.std.proofs.lemmas.Bool.{eqb-true, not-true, or_cases}
use Rattle.effect_sets.specs.declared.effects.Effect.{Effect}
use Rattle.effect_sets.specs.Interference.{statically_interferes}
use Rattle.twe_base.specs.Limits.{Bounds}
use Rattle.floor_laws.specs.declared.rule.view.Phase.TheVariants.{Waits}
use Rattle.floor_laws.specs.table.Layout.{word_of_phase}
use Rattle.floor_laws.specs.admission.admission_core.States.{Record}
use Rattle.floor_laws.specs.rule.nodes.LockSteps.{IsKnownToPass, apart, own, waiting}
use Rattle.floor_laws.specs.rule.nodes.Trees.{WaitFact}
use Rattle.floor_laws.specs.declared.table.nodes.view.TreeView.{TreeView}
use Rattle.floor_laws.specs.table.nodes.Follows.{FollowedPhase}
use Rattle.floor_laws.specs.table.nodes.Seats.{TreeSeat}
use Rattle.tree_admit.proofs.ways.ApartLemmas.{apart_effects}
use Rattle.floor_laws.specs.rule.nodes.FactSteps.{IsKnownToWait}
use Rattle.tree_admit.specs.Going.{HasOnlyLearned}
use Rattle.tree_admit.specs.Passing.{EachBetween, EaseOrWaits, OwnOrWaits, is_at_ease, is_own_or_meets, is_passed_over}
use Rattle.tree_admit.proofs.Between.{both_between}
use Rattle.tree_admit.proofs.Following.{follows_only, led_further}

pub ease_passes : (waits : List WaitFact) (t : ℕ) (e : Effect) (r : Record) → is_at_ease t e r ≡ true → IsKnownToPass waits t e r
ease_passes waits t e r is =
    ⊎_elim
    (λ same. own (eqb-true r.task t same))
    (λ away. apart (apart_effects r.effect e (not-true (statically_interferes r.effect e) away)))
    (or_cases (r.task == t) (not (statically_interferes r.effect e)) is)

-- a record that does not
pub uneasy : (t : ℕ) (e : Effect) (r : Record) → is_at_ease t e r ≡ false → (r.task ≢ t) × IsTrue (statically_interferes r.effect e)
uneasy t e r is = by (r.task == t) (statically_interferes r.effect e) refl refl is
  where
    by : (same meets : Bool) → (r.task == t) ≡ same → statically_interferes r.effect e ≡ meets → (same || not meets) ≡ false → (r.task ≢ t) × (statically_interferes r.effect e ≡ true)
    by true meets one two none = absurd (cc (none))
    by false true one two none = ((λ at. let yes = eq-eqb r.task t at in cc (one, yes)), two)
    by false false one two none = absurd (cc (none))

-- a record that is at ease, or whose task is known to wait, passes
pub seen_passes : (waits : List WaitFact) (t : ℕ) (e : Effect) (r : Record) → EaseOrWaits waits t e r → IsKnownToPass waits t e r
seen_passes waits t e r (inl ease) = ease_passes waits t e r ease
seen_passes waits t e r (inr known) = waiting known

-- it goes on to be so while the stand learns of waits
seen_kept : (v w : TreeView) (t : ℕ) (e : Effect) (r : Record) → HasOnlyLearned v w → EaseOrWaits v.waits t e r → EaseOrWaits w.waits t e r
seen_kept v w t e r h (inl ease) = inl ease
seen_kept v w t e r h (inr known) = inr (h.waits (record { waiter = r.task; awaited = t }) known)

pub all_seen_kept : (v w : TreeView) (t : ℕ) (e : Effect) (content : List Record) (k n : ℕ) → HasOnlyLearned v w
    → EachBetween (EaseOrWaits v.waits t e) content k n → EachBetween (EaseOrWaits w.waits t e) content k n
all_seen_kept v w t e content k n h seen = λ j r from before at. seen_kept v w t e r h (seen j r from before at)

own_ease : (t : ℕ) (e : Effect) (r : Record) → r.task ≡ t → is_at_ease t e r ≡ true
own_ease t e r same = ap (λ (b : Bool). b || not (statically_interferes r.effect e)) (eq-eqb r.task t same)

-- a record whose effect may interfere is at ease only if it is of the task itself
pub meets_waits : (waits : List WaitFact) (t : ℕ) (e : Effect) (r : Record) → is_own_or_meets t e r ≡ true → EaseOrWaits waits t e r → OwnOrWaits waits t r
meets_waits waits t e r meets (inr known) = inr known
meets_waits waits t e r meets (inl ease) = inl (eqb-true r.task t (both (r.task == t) (statically_interferes r.effect e) meets ease))
  where
    both : (same may : Bool) → (same || may) ≡ true → (same || not may) ≡ true → same ≡ true
    both true may one two = refl
    both false true one two = absurd (cc (two))
    both false false one two = absurd (cc (one))

-- The record is at ease for effect e of task t, or its task leads to task u.
abbrev pub PassesOrLeads : TreeView → ℕ → Effect → ℕ → Record → Type 0
PassesOrLeads v t e u r = EaseOrWaits v.waits t e r ⊎ IsKnownToWait v.waits r.task u

over_leads : (v : TreeView) (t : ℕ) (e : Effect) (u : ℕ) (r : Record) → is_passed_over t e u r ≡ true → PassesOrLeads v t e u r
over_leads v t e u r is =
    ⊎_elim
    (λ same. inr (inl (eqb-true r.task u same)))
    (λ ease. inl (inl ease)) (or_cases (r.task == u) (is_at_ease t e r) is)

leads_on : (lim : Bounds) (before : TreeSeat) (u w : ℕ) (after : TreeSeat) (t : ℕ) (e : Effect) (r : Record)
    → FollowedPhase lim before u (word_of_phase (Waits w)) after → PassesOrLeads before.0 t e u r → PassesOrLeads after.0 t e w r
leads_on lim before u w after t e r found passed =
    ⊎_elim
    (λ (seen : EaseOrWaits before.0.waits t e r).
    let only = follows_only lim before u (Waits w) after found in
    inl (seen_kept before.0 after.0 t e r only.learned seen))
    (λ (led : IsKnownToWait before.0.waits r.task u). inr (inr (led_further lim before r.task u w after led found))) passed

-- One step of the walk, from task u to task w: more records are passed over, and all tasks that led to u lead on to w.
pub walked_on : (lim : Bounds) (before : TreeSeat) (u w : ℕ) (after : TreeSeat) (t : ℕ) (e : Effect) (content : List Record) (k m n : ℕ)
    → FollowedPhase lim before u (word_of_phase (Waits w)) after → EachBetween (λ r. IsTrue (is_passed_over t e u r)) content k m
    → EachBetween (PassesOrLeads before.0 t e u) content m n → EachBetween (PassesOrLeads after.0 t e w) content k n
walked_on lim before u w after t e content k m n found over passed = λ j r from before_n at.
    let led : EachBetween (PassesOrLeads before.0 t e u) content k m = λ i s above below here. over_leads before.0 t e u s (over i s above below here) in
    leads_on lim before u w after t e r found (both_between (PassesOrLeads before.0 t e u) content k m n led passed j r from before_n at)

arrived_seen : (v : TreeView) (t : ℕ) (e : Effect) (r : Record) → PassesOrLeads v t e t r → EaseOrWaits v.waits t e r
arrived_seen v t e r passed = ⊎_elim (λ seen. seen) (λ led. ⊎_elim (λ same. inl (own_ease t e r same)) (λ known. inr known) led) passed

-- all are so once the walk has come to t
pub arrived_all : (v : TreeView) (t : ℕ) (e : Effect) (u : ℕ) (content : List Record) (k n : ℕ) → u ≡ t
    → EachBetween (PassesOrLeads v t e u) content k n → EachBetween (EaseOrWaits v.waits t e) content k n
arrived_all v t e u content k n is passed = λ j r from before at.
    arrived_seen v t e r (subst (λ (w : ℕ). PassesOrLeads v t e w r) is (passed j r from before at))
