-- What a seat knows once it has followed a wait.
use Rattle.std.proofs.Common.{◌≡◌, ◌⊎◌, ℕ, ℤ, Bool, true, false, List, [], ◌∷◌, if◌then◌else◌, refl, sym, ap, subst, ◌∙◌, inl, inr, ⊎_elim}
use Rattle.std.specs.Prelude.{◌==◌}
use Rattle.std.proofs.lemmas.Bool.Decides.{Decides-eqb, not_from_Decides}
use Rattle.twe_base.specs.Limits.{Bounds}
use Rattle.floor_laws.specs.declared.rule.view.Phase.{Phase}
use Rattle.floor_laws.specs.declared.rule.view.Phase.TheVariants.{Absent, Made, Running, Waits, Done, Faulted}
use Rattle.floor_laws.specs.table.Layout.{phase_of_word, word_of_phase}
use Rattle.floor_laws.specs.admission.admission_core.States.{IsAmong}
use Rattle.floor_laws.specs.rule.nodes.Trees.{WaitFact}
use Rattle.floor_laws.proofs.table.Added.{grown_by, grown_same}
use Rattle.floor_laws.specs.declared.table.nodes.view.Look.{Look}
use Rattle.floor_laws.specs.declared.table.nodes.view.Look.TheVariants.{AtPhase}
use Rattle.floor_laws.specs.table.nodes.Looks.{looked_seat}
use Rattle.floor_laws.specs.table.nodes.Follows.{FollowedPhase, Learns, done_view, led_on, waits_view}
use Rattle.floor_laws.specs.table.nodes.Seats.{TreeSeat}
use Rattle.floor_laws.specs.rule.nodes.FactSteps.{IsKnownToWait}
use Rattle.tree_admit.specs.Going.{HasOnlyFollowed}
use Rattle.tree_admit.proofs.Learning.{learned_refl, learned_trans}

-- whoever followed nothing has followed only
pub followed_refl : (me : TreeSeat) → HasOnlyFollowed me me
followed_refl me = record { activity = refl; kept = refl; slots = refl; learned = learned_refl me.0 }

pub followed_same : (before after : TreeSeat) → after ≡ before → HasOnlyFollowed before after
followed_same before after is = subst (HasOnlyFollowed before) (sym is) (followed_refl before)

pub followed_trans : (a b c : TreeSeat) → HasOnlyFollowed a b → HasOnlyFollowed b c → HasOnlyFollowed a c
followed_trans a b c h k = record {
  activity = k.activity ∙ h.activity;
  kept = k.kept ∙ h.kept;
  slots = k.slots ∙ h.slots;
  learned = learned_trans a.0 b.0 c.0 h.learned k.learned;
}

-- what was known of waits is known, and whoever waited for u is known to wait for t
led_keeps : (u t : ℕ) (x : WaitFact) (facts : List WaitFact) → IsAmong x facts → IsAmong x (led_on u t facts)
led_keeps u t x [] among = absurd among
led_keeps u t x (fact ∷ facts) among = by (led_keeps u t x facts) (fact.awaited == u) among
  where
    by : (IsAmong x facts → IsAmong x (led_on u t facts)) → (b : Bool) → (x ≡ fact) ⊎ IsAmong x facts → IsAmong x (if b then record { waiter = fact.waiter; awaited = t } ∷ fact ∷ led_on u t facts else fact ∷ led_on u t facts)
    by rest true (inl first) = inr (inl first)
    by rest true (inr later) = inr (inr (rest later))
    by rest false (inl first) = inl first
    by rest false (inr later) = inr (rest later)

led_adds : (u t s : ℕ) (facts : List WaitFact) → IsAmong (record { waiter = s; awaited = u }) facts → IsAmong (record { waiter = s; awaited = t }) (led_on u t facts)
led_adds u t s [] among = absurd among
led_adds u t s (fact ∷ facts) among = by (led_adds u t s facts) (fact.awaited == u) refl among
  where
    by : (IsAmong (record { waiter = s; awaited = u }) facts → IsAmong (record { waiter = s; awaited = t }) (led_on u t facts)) → (b : Bool) → (fact.awaited == u) ≡ b → (record { waiter = s; awaited = u } ≡ fact) ⊎ IsAmong (record { waiter = s; awaited = u }) facts
        → IsAmong (record { waiter = s; awaited = t }) (if b then record { waiter = fact.waiter; awaited = t } ∷ fact ∷ led_on u t facts else fact ∷ led_on u t facts)
    by rest true is (inl first) = inl (ap (λ (f : WaitFact). record { waiter = f.waiter; awaited = t }) first)
    by rest true is (inr later) = inr (inr (rest later))
    by rest false is (inl first) = absurd (not_from_Decides (fact.awaited == u) (Decides-eqb fact.awaited u) is (ap (λ (f : WaitFact). f.awaited) (sym first)))
    by rest false is (inr later) = inr (rest later)

done_followed : (before : TreeSeat) (u : ℕ) (value : ℤ) → HasOnlyFollowed before (done_view before.0 u value, before.1)
done_followed before u value = record {
  activity = refl;
  kept = refl;
  slots = refl;
  learned = record { floor = refl; done = λ fact among. inr among; waits = λ fact among. among; placed = refl; removed = refl; fresh = refl; clear = refl; kept = grown_same before.0.kept; looks = grown_same before.0.looks };
}

look_followed : (before : TreeSeat) (look : Look) → HasOnlyFollowed before (looked_seat before look)
look_followed before look = record {
  activity = refl;
  kept = refl;
  slots = refl;
  learned = record {
    floor = refl;
    done = λ fact among. among;
    waits = λ fact among. among;
    placed = refl;
    removed = refl;
    fresh = refl;
    clear = refl;
    kept = grown_same before.0.kept;
    looks = grown_by look before.0.looks (look ∷ before.0.looks) refl;
  };
}

waits_followed : (before : TreeSeat) (u t : ℕ) → HasOnlyFollowed before (waits_view before.0 u t, before.1)
waits_followed before u t = record {
  activity = refl;
  kept = refl;
  slots = refl;
  learned = record {
    floor = refl;
    done = λ fact among. among;
    waits = λ fact among. inr (led_keeps u t fact before.0.waits among);
    placed = refl;
    removed = refl;
    fresh = refl;
    clear = refl;
    kept = grown_same before.0.kept;
    looks = grown_same before.0.looks;
  };
}

learns_only : (phase : Phase) (before : TreeSeat) (u : ℕ) (after : TreeSeat) → Learns phase before u after → HasOnlyFollowed before after
learns_only Absent before u after is = followed_same before after is
learns_only Made before u after is = followed_same before after is
learns_only Running before u after is = followed_same before after is
learns_only (Waits t) before u after is = subst (HasOnlyFollowed before) (sym is) (waits_followed before u t)
learns_only Done before u after is = subst (HasOnlyFollowed before) (sym is.1) (done_followed before u is.0)
learns_only Faulted before u after is = followed_same before after is

pub follows_only : (lim : Bounds) (before : TreeSeat) (u : ℕ) (phase : Phase) (after : TreeSeat) → FollowedPhase lim before u (word_of_phase phase) after → HasOnlyFollowed before after
follows_only lim before u phase after found =
    let look = AtPhase u (word_of_phase phase) in
    followed_trans before (looked_seat before look) after (look_followed before look) (learns_only (phase_of_word (word_of_phase phase)) (looked_seat before look) u after found.3)

-- whoever was led to u is led on to the task for which u waits
pub led_further : (lim : Bounds) (before : TreeSeat) (s u t : ℕ) (after : TreeSeat) → IsKnownToWait before.0.waits s u → FollowedPhase lim before u (word_of_phase (Waits t)) after
    → IsAmong (record { waiter = s; awaited = t }) after.0.waits
led_further lim before s u t after led found =
    subst (λ (me : TreeSeat). IsAmong (record { waiter = s; awaited = t }) me.0.waits) (sym found.3)
    (⊎_elim
    (λ (same : s ≡ u). inl (ap (λ (x : ℕ). record { waiter = x; awaited = t }) same))
    (λ (known : IsAmong (record { waiter = s; awaited = u }) before.0.waits). inr (led_adds u t s before.0.waits known)) led)
