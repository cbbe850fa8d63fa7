-- A verdict says what the effects of the two tasks do.
use Rattle.std.proofs.Common.{◌≡◌, ◌⊎◌, ◌↔◌, ℕ, suc, Bool, true, false, IsTrue, List, [], ◌∷◌, None, Some, Option, inl, inr, refl, sym, ap, ◌∙◌, subst, if◌then◌else◌}
use Rattle.std.specs.List.{Contains}
use Rattle.std.specs.Prelude.{slice_get}
use Rattle.std.proofs.lemmas.Bool.{false≢true}
use Rattle.twe_base.proofs.Members.{IsIn, contains-in, in-contains}
use Rattle.region_paths.specs.Filled.{Valuation}
use Rattle.effect_sets.specs.declared.effects.Effect.{Effect}
use Rattle.effect_meeting.specs.declared.equality.Equality.{Equality}
use Rattle.effect_meeting.specs.declared.all_meetings.Meeting.{Meeting}
use Rattle.effect_meeting.specs.Equalities.{equalities_hold}
use Rattle.effect_meeting.specs.Meetings.{AreMeetings, SomeInterfereUnder}
use Rattle.effect_meeting.specs.MeetingsOf.{meetings_of}
use Rattle.effect_meeting.proofs.Meetings.{are-meetings}
use Rattle.twe_annotate.specs.Texts.{always_place, first_always, holds_always}
use Rattle.twe_annotate.specs.Verdicts.{AlwaysMeet, SomeMeet, SomeMeetingHolds}

-- the first of two meetings, or the one that is found after it
chosen : (b : Bool) (m meeting : Meeting) (ms : List Meeting) (place : ℕ) → slice_get (m ∷ ms) (if b then 0 else suc place) ≡ Some meeting
    → ((b ≡ true) × (m ≡ meeting)) ⊎ (slice_get ms place ≡ Some meeting)
chosen true m meeting ms place is = let same : m ≡ meeting = cc in inl (refl, same)
chosen false m meeting ms place is = inr is

-- the first meeting without equalities is one of them, and has none
first_is : (meetings : List Meeting) (meeting : Meeting) → first_always meetings ≡ Some meeting
    → IsIn meeting meetings × (holds_always meeting.equalities ≡ true)
first_is [] meeting is = absurd (cc)
first_is (m ∷ ms) meeting is = elim (chosen (holds_always m.equalities) m meeting ms (always_place ms) is) [
  | inl here ↦ (inl (sym here.1), subst (λ (n : Meeting). holds_always n.equalities ≡ true) here.1 here.0)
  | inr later ↦ let found = first_is ms meeting later in (inr found.0, found.1)
]

-- no equality can fail that is not there
nothing_to_hold : (equalities : List Equality) → holds_always equalities ≡ true → (v w : Valuation) → IsTrue (equalities_hold v w equalities)
nothing_to_hold [] is v w = refl
nothing_to_hold (e ∷ es) is v w = absurd (false≢true is)

module _ (first second : List Effect) where
  some_meeting : (v w : Valuation) → SomeMeetingHolds v w (meetings_of first second) → SomeInterfereUnder v w first second
  some_meeting v w some =
      let is = (are-meetings first second).each some.0 some.1 in
      (is.0, is.1, is.2, is.3, (is.5 v w).0 some.2)

  pub values-meet : (v w : Valuation) → SomeInterfereUnder v w first second ↔ SomeMeetingHolds v w (meetings_of first second)
  values-meet v w = ((are-meetings first second).all v w, some_meeting v w)

  pub none-meet : meetings_of first second ≡ [] → ¬ SomeMeet first second
  none-meet none some =
      let holds = (are-meetings first second).all some.0 some.1 some.2 in
      contains-in [] holds.0 (subst (λ (ms : List Meeting). Contains ms holds.0) none holds.1)

  none_from : (found : List Meeting) → meetings_of first second ≡ found → ¬ SomeMeet first second → found ≡ []
  none_from [] is none = refl
  none_from (meeting ∷ others) is none =
      let there : Contains (meetings_of first second) meeting = subst (λ (ms : List Meeting). Contains ms meeting) (sym is) (in-contains (meeting ∷ others) meeting (inl refl)) in
      let possible = (are-meetings first second).possible meeting there in
      absurd (none (possible.0, possible.1, some_meeting possible.0 possible.1 (meeting, there, possible.2)))

  pub none-found : ¬ SomeMeet first second → meetings_of first second ≡ []
  none-found none = none_from (meetings_of first second) refl none

  pub always-meet : (meeting : Meeting) → first_always (meetings_of first second) ≡ Some meeting → AlwaysMeet first second meeting
  always-meet meeting is =
      let found = first_is (meetings_of first second) meeting is in
      let each = (are-meetings first second).each meeting (in-contains _ meeting found.0) in
      (each.0, each.1, each.2, each.3, each.4, λ v w. (each.5 v w).0 (nothing_to_hold meeting.equalities found.1 v w))
