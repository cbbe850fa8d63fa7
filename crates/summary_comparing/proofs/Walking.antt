-- From an access that was found back to the first state.
use Rattle.std.proofs.Common.{◌≡◌, ◌<◌, ◌+◌, ℕ, suc, true, List, [], ◌∷◌, ◌++◌, length, Option, Some, inl, inr, refl, sym, ap, ◌∙◌, subst, arith}
use Rattle.std.specs.Prelude.{option_to_list, slice_get}
use Rattle.std.proofs.lemmas.Option.{same_Some, slice_get_within}
use Rattle.twe_base.specs.declared.place.Place.{Place}
use Rattle.region_paths.specs.declared.elements.Elem.{Elem}
use Rattle.twe_program.specs.declared.program.Decl.{Decl}
use Rattle.twe_program.specs.Program.{Program}
use Rattle.effect_infer.specs.declared.needs.need.Need.{Need}
use Rattle.effect_infer.specs.declared.needs.need.BodyStep.{BodyStep}
use Rattle.effect_infer.specs.declared.needs.need.BodyStep.TheVariants.{Touch, Call}
use Rattle.effect_infer.specs.needs.Needs.{IsNeed, own, called, filled_need, settled}
use Rattle.summary_comparing.specs.declared.bodies.BodySteps.{BodySteps}
use Rattle.summary_comparing.specs.declared.states.SearchState.{SearchState}
use Rattle.summary_comparing.specs.Placed.{HasStepAt, all_bodies, body_steps}
use Rattle.summary_comparing.specs.Chains.{LeadsToNeed}
use Rattle.summary_comparing.specs.inner.Standing.{callee_values, is_match, own_values}
use Rattle.summary_comparing.specs.inner.Search.{AreLinked, IsDeep, IsFoundAt, IsStarted}
use Rattle.summary_comparing.specs.inner.Walking.{place_in_body, place_of_step}
use Rattle.summary_comparing.proofs.Carried.{AreSaid, match-carried, match-settled, own-match}
use Rattle.summary_comparing.proofs.Places.{body-place, step-at}
use Rattle.summary_comparing.proofs.Linked.{at-mapped, mapped-at, values-long}
use Rattle.summary_comparing.proofs.Complete.{need-said}
use Rattle.summary_comparing.proofs.Depths.{one-depth}
use Rattle.std.specs.List.{Contains}
use Rattle.twe_base.proofs.Members.{in-contains}
use Rattle.effect_infer.proofs.needs.Relation.{get-in}

at-contains : {X : Type 0} (xs : List X) (x : X) (k : ℕ) → slice_get xs k ≡ Some x → Contains xs x
at-contains xs x k there = in-contains xs x (get-in xs k x there)

-- a chain leads to a need
pub lead-need : (p : Program) (m : ℕ) (need : Need) (places : List Place) → LeadsToNeed p m need places → IsNeed p m need
lead-need p m need places (LeadsToNeed.access n decl inner place is at) = own n decl inner (is, at-contains _ _ at.number at.step_there)
lead-need p m need places (LeadsToNeed.call n decl callee args inner place rest is at leads) =
    called n decl callee args inner (is, at-contains _ _ at.number at.step_there) (lead-need p callee inner rest leads)

-- The places so far lead from the method of this state to what stands for the need there. They are those of the calls from this
-- state to the one that was found, and that of the access.
pub record HasCome (p : Program) (target : Need) (states : List SearchState) (found now : ℕ) (back : List Place) : Type 0 where
  pub state : SearchState
  pub state_there : slice_get states now ≡ Some state
  pub need : Need
  pub leads : LeadsToNeed p state.method need back
  pub matches : is_match state.values need target ≡ true
  pub calls : (depth all : ℕ) → IsDeep states now depth → IsDeep states found all → length back + depth ≡ all + 1

module _ (p : Program) (target : Need) (method : ℕ) (states : List SearchState) (started : IsStarted (all_bodies p) method states) (linked : AreLinked (all_bodies p) target states) where
  -- the step of a state's method, with its place
  placed : (at : ℕ) (state : SearchState) (decl : Decl) (k : ℕ) (step : BodyStep) → slice_get states at ≡ Some state → slice_get p.methods state.method ≡ Some decl
      → slice_get (body_steps p decl).steps k ≡ Some step → (place : Place) × (place_of_step (all_bodies p) (slice_get states at) k ≡ Some place) × HasStepAt p decl step place
  placed at state decl k step there is step_there =
      let found = body-place p decl k step step_there in
      let body : slice_get (all_bodies p) state.method ≡ Some (body_steps p decl) = mapped-at (body_steps p) p.methods state.method decl is in (
        found.place,
        ap (λ (o : Option SearchState). place_of_step (all_bodies p) o k) there ∙ (ap (λ (o : Option BodySteps). place_in_body o k) body ∙ found.place_there),
        step-at p decl k step found.place step_there found.place_there,
      )

  -- the access that was found
  pub come-start : (at step : ℕ) → IsFoundAt (all_bodies p) target states at step → HasCome p target states at at (option_to_list (place_of_step (all_bodies p) (slice_get states at) step) ++ [])
  come-start at step found =
      let state = found.0 in
      let decl = at-mapped (body_steps p) p.methods state.method found.1 found.3 in
      let match_at = found.4 in
      let there = subst (λ (b : BodySteps). slice_get b.steps step ≡ Some (Touch match_at.0)) decl.2 match_at.1 in
      let at_place = placed at state decl.0 step (Touch match_at.0) found.2 decl.1 there in
      let long = values-long (all_bodies p) target method states started linked at state found.1 found.2 found.3 ∙ ap (λ (b : BodySteps). b.params) decl.2 in
      record {
        state = state;
        state_there = found.2;
        need = settled decl.0.params match_at.0;
        leads = subst (λ (o : Option Place). LeadsToNeed p state.method (settled decl.0.params match_at.0) (option_to_list o ++ [])) (sym at_place.1)
            (LeadsToNeed.access state.method decl.0 match_at.0 at_place.0 decl.1 at_place.2);
        matches = match-settled state.values decl.0.params match_at.0 target long ∙ match_at.2;
        calls = λ depth all deep far.
            let same : depth ≡ all = one-depth states at depth all deep far in
            let one : length (at_place.0 ∷ []) ≡ 1 = refl in
            let here : length (at_place.0 ∷ []) + depth ≡ all + 1 = omega (arith, same, one) in
            subst (λ (o : Option Place). length (option_to_list o ++ []) + depth ≡ all + 1) (sym at_place.1) here;
      }

  -- one call back
  pub come-back : (found now : ℕ) (back : List Place) (state : SearchState) → HasCome p target states found now back → slice_get states now ≡ Some state → 0 < now
      → HasCome p target states found state.from (option_to_list (place_of_step (all_bodies p) (slice_get states state.from) state.step) ++ back)
  come-back found now back state come there above = elim (linked now state there) [
    | inl first ↦ absurd (omega (arith, above, first))
    | inr link ↦
        let same : come.state ≡ state = same_Some _ _ (sym come.state_there ∙ there) in
        let leads : LeadsToNeed p state.method come.need back = subst (λ (s : SearchState). LeadsToNeed p s.method come.need back) same come.leads in
        let matches : is_match state.values come.need target ≡ true = subst (λ (s : SearchState). is_match s.values come.need target ≡ true) same come.matches in
        let caller = link.caller in
        let decl = at-mapped (body_steps p) p.methods caller.method link.body link.body_there in
        let callee = at-mapped (body_steps p) p.methods state.method link.called.0 link.called.1 in
        let call_there = subst (λ (b : BodySteps). slice_get b.steps state.step ≡ Some (Call state.method link.args)) decl.2 link.calls in
        let at_place = placed state.from caller decl.0 state.step (Call state.method link.args) link.caller_there decl.1 call_there in
        let long = values-long (all_bodies p) target method states started linked state.from caller link.body link.caller_there link.body_there
        ∙ ap (λ (b : BodySteps). b.params) decl.2 in
        let said = need-said p state.method come.need callee.0 (lead-need p state.method come.need back leads) callee.1 in
        let values : state.values ≡ callee_values caller.values target.elems link.args callee.0.params =
        link.called.2 ∙ ap (λ (b : BodySteps). callee_values caller.values target.elems link.args b.params) callee.2 in
        let need = settled decl.0.params (filled_need link.args come.need) in
        record {
          state = caller;
          state_there = link.caller_there;
          need = need;
          leads = subst (λ (ps : List Place). LeadsToNeed p caller.method need ps)
              (sym (ap (λ (o : Option Place). option_to_list o ++ back) at_place.1))
              (LeadsToNeed.call caller.method decl.0 state.method link.args come.need at_place.0 back decl.1 at_place.2 leads);
          matches = sym (match-carried caller.values link.args decl.0.params callee.0.params come.need target long said)
              ∙ (ap (λ (vs : List (Option Elem)). is_match vs come.need target) (sym values) ∙ matches);
          calls = λ depth all deep far.
              let before : length back + suc depth ≡ all + 1 = come.calls (suc depth) all (above, state, there, deep) far in
              let one : length (at_place.0 ∷ back) ≡ suc (length back) = refl in
              let here : length (at_place.0 ∷ back) + depth ≡ all + 1 = omega (arith, before, one) in
              subst (λ (o : Option Place). length (option_to_list o ++ back) + depth ≡ all + 1) (sym at_place.1) here;
        }
  ]

  -- at the first state
  pub come-home : (found now : ℕ) (back : List Place) → now ≡ 0 → HasCome p target states found now back → LeadsToNeed p method target back
  come-home found now back first come =
      let same : come.state ≡ started.state = same_Some _ _ (sym come.state_there ∙ (ap (slice_get states) first ∙ started.state_there)) in
      let leads : LeadsToNeed p method come.need back =
      subst (λ (m : ℕ). LeadsToNeed p m come.need back) (ap (λ (s : SearchState). s.method) same ∙ started.method_is) come.leads in
      let decl = at-mapped (body_steps p) p.methods method started.body started.body_there in
      let said = subst (λ (b : BodySteps). AreSaid b.params come.need.elems) (sym decl.2)
      (need-said p method come.need decl.0 (lead-need p method come.need back leads) decl.1) in
      let matches : is_match (own_values started.body.params) come.need target ≡ true =
      ap (λ (vs : List (Option Elem)). is_match vs come.need target) (sym (ap (λ (s : SearchState). s.values) same ∙ started.values_are)) ∙ come.matches in
      subst (λ (n : Need). LeadsToNeed p method n back) (own-match started.body.params come.need target said matches) leads

  -- the state from which another comes stands before it
  pub comes-earlier : (now : ℕ) (state : SearchState) → slice_get states now ≡ Some state → 0 < now → (state.from < now) × (state.from < length states)
  comes-earlier now state there above = elim (linked now state there) [
    | inl first ↦ absurd (omega (arith, above, first))
    | inr link ↦ (link.earlier, slice_get_within states state.from link.caller link.caller_there)
  ]
