-- The meetings that are found are all there are.
use Rattle.std.proofs.Common.{◌≡◌, ◌↔◌, Bool, true, false, IsTrue, List, [], ◌∷◌, if◌then◌else◌, inl, inr, refl, sym, ap, ◌∙◌, subst}
use Rattle.std.specs.List.{Contains}
use Rattle.std.proofs.lemmas.Bool.{false≢true, cases_Bool}
use Rattle.twe_base.proofs.Members.{IsIn, contains-in, in-contains, flat_map-in, in-flat_map}
use Rattle.region_paths.specs.Filled.{Valuation}
use Rattle.effect_sets.specs.declared.effects.Effect.{Effect}
use Rattle.effect_meeting.specs.declared.all_meetings.Meeting.{Meeting}
use Rattle.effect_meeting.specs.Equalities.{equalities_hold}
use Rattle.effect_meeting.specs.Meetings.{InterfereUnder, AreMeetings}
use Rattle.effect_meeting.specs.PathEqualities.{effect_equalities}
use Rattle.effect_meeting.specs.Solving.{can_hold, telling}
use Rattle.effect_meeting.specs.MeetingsOf.{meeting_of, meetings_from, meetings_of}
use Rattle.effect_meeting.proofs.Exactness.{interfere-exact}
use Rattle.effect_meeting.proofs.Solutions.{can-hold, cannot-hold, telling-same}

-- the meeting of two effects
abbrev found_meeting : Effect → Effect → Meeting
found_meeting a b = record { path = a.path; equalities = telling (effect_equalities a b) }

in-chosen : (b : Bool) (m x : Meeting) → IsIn x (if b then m ∷ [] else []) → (b ≡ true) × (x ≡ m)
in-chosen true m x (inl e) = (refl, e)
in-chosen true m x (inr none) = absurd none
in-chosen false m x h = absurd h

chosen-in : (b : Bool) (m : Meeting) → b ≡ true → IsIn m (if b then m ∷ [] else [])
chosen-in true m h = inl refl
chosen-in false m h = absurd (false≢true h)

module _ (first second : List Effect) where
  -- a meeting that was found is that of two effects
  from-two : (meeting : Meeting) → Contains (meetings_of first second) meeting
      → (a : Effect) × (b : Effect) × IsIn a first × IsIn b second × (can_hold (effect_equalities a b) ≡ true) × (meeting ≡ found_meeting a b)
  from-two meeting there =
      let outer = flat_map-in (meetings_from second) first meeting (contains-in _ meeting there) in
      let inner = flat_map-in (meeting_of outer.0) second meeting outer.2 in
      let is = in-chosen (can_hold (effect_equalities outer.0 inner.0)) (found_meeting outer.0 inner.0) meeting inner.2 in
      (outer.0, inner.0, outer.1, inner.1, is.0, is.1)

  exactly : (v w : Valuation) (a b : Effect) → IsTrue (equalities_hold v w (telling (effect_equalities a b))) ↔ InterfereUnder v w a b
  exactly v w a b =
      let same = telling-same v w (effect_equalities a b) in
      let exact = interfere-exact v w a b in
      (λ h. exact.0 (sym same ∙ h), λ i. same ∙ exact.1 i)

  pub are-meetings : AreMeetings first second (meetings_of first second)
  are-meetings = record {
    each = λ meeting there.
        let t = from-two meeting there in (
          t.0,
          t.1,
          in-contains first t.0 t.2,
          in-contains second t.1 t.3,
          ap (λ (m : Meeting). m.path) t.5,
          λ v w. subst (λ (m : Meeting). IsTrue (equalities_hold v w m.equalities) ↔ InterfereUnder v w t.0 t.1) (sym t.5) (exactly v w t.0 t.1),
        );
    possible = λ meeting there.
        let t = from-two meeting there in
        let some = can-hold (effect_equalities t.0 t.1) t.4 in (
          some.0,
          some.1,
          subst (λ (m : Meeting). IsTrue (equalities_hold some.0 some.1 m.equalities)) (sym t.5)
              (telling-same some.0 some.1 (effect_equalities t.0 t.1) ∙ some.2),
        );
    all = λ v w some.
        let a = some.0 in
        let b = some.1 in
        let holds = (interfere-exact v w a b).1 some.4 in
        let can : can_hold (effect_equalities a b) ≡ true = elim (cases_Bool (can_hold (effect_equalities a b))) [
          | inl holding ↦ holding
          | inr failing ↦ absurd (cannot-hold (effect_equalities a b) failing v w holds)
        ] in
        let inner = in-flat_map (meeting_of a) second b (found_meeting a b) (contains-in second b some.3) (chosen-in (can_hold (effect_equalities a b)) (found_meeting a b) can) in
        let outer = in-flat_map (meetings_from second) first a (found_meeting a b) (contains-in first a some.2) inner in
        (found_meeting a b, in-contains _ (found_meeting a b) outer, telling-same v w (effect_equalities a b) ∙ holds);
  }
