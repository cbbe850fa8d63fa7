-- The chain that a search finds is a shortest one.
use Rattle.std.proofs.Common.{◌≡◌, ◌≤◌, ◌+◌, ℕ, suc, true, List, [], ◌∷◌, length, Option, Some, inl, inr, refl, sym, ap, ◌∙◌, subst, arith}
use Rattle.std.specs.Prelude.{slice_get}
use Rattle.std.proofs.lemmas.Bool.{cases_lt, false≢true}
use Rattle.std.proofs.lemmas.Option.{same_Some}
use Rattle.twe_base.specs.declared.place.Place.{Place}
use Rattle.region_paths.specs.declared.elements.Elem.{Elem}
use Rattle.twe_program.specs.declared.program.Decl.{Decl}
use Rattle.twe_program.specs.Program.{Program}
use Rattle.effect_infer.specs.declared.needs.need.Need.{Need}
use Rattle.effect_infer.proofs.needs.Leastness.{need-decl}
use Rattle.summary_comparing.specs.declared.bodies.BodySteps.{BodySteps}
use Rattle.summary_comparing.specs.declared.states.SearchState.{SearchState}
use Rattle.summary_comparing.specs.Placed.{all_bodies, body_steps}
use Rattle.summary_comparing.specs.Chains.{LeadsToNeed}
use Rattle.summary_comparing.specs.inner.Standing.{is_match}
use Rattle.summary_comparing.specs.inner.Search.{AreLinked, IsDeep, IsFirstFound, IsStarted}
use Rattle.summary_comparing.proofs.Elements.{callee-length, own-length}
use Rattle.summary_comparing.proofs.Carried.{AreSaid, match-carried, match-settled, self-match}
use Rattle.summary_comparing.proofs.Linked.{mapped-at}
use Rattle.summary_comparing.proofs.Complete.{need-said}
use Rattle.summary_comparing.proofs.Depths.{deeper, one-further, some-depth}
use Rattle.summary_comparing.proofs.Walking.{lead-need}

module _ (p : Program) (target : Need) (states : List SearchState) (linked : AreLinked (all_bodies p) target states) (found depth : ℕ)
    (deep : IsDeep states found depth) (first : IsFirstFound (all_bodies p) target states found) where
  -- the body of a method in a state
  body-there : (m : ℕ) (decl : Decl) (state : SearchState) → slice_get p.methods m ≡ Some decl → state.method ≡ m
      → slice_get (all_bodies p) state.method ≡ Some (body_steps p decl)
  body-there m decl state is method = ap (slice_get (all_bodies p)) method ∙ mapped-at (body_steps p) p.methods m decl is

  -- no chain from the method of a state has fewer places than lead from there to the state that was found
  no-shorter : (m : ℕ) (need : Need) (places : List Place) → LeadsToNeed p m need places → (decl : Decl) → slice_get p.methods m ≡ Some decl
      → (at : ℕ) (state : SearchState) (calls : ℕ) → slice_get states at ≡ Some state → IsDeep states at calls → state.method ≡ m
      → length state.values ≡ decl.params → is_match state.values need target ≡ true → depth + 1 ≤ length places + calls
  no-shorter m need places (LeadsToNeed.access n its step place has here) decl is at state calls there far method long matches =
      elim (cases_lt at found) [
        | inl before ↦
            let same : its ≡ decl = same_Some _ _ (sym has ∙ is) in
            let none = (first.done at state before there (body_steps p its) (body-there n its state has method)).0 here.number step here.step_there in
            let settled_is = match-settled state.values its.params step target (long ∙ ap (λ (d : Decl). d.params) (sym same)) in
            absurd (false≢true (sym none ∙ (sym settled_is ∙ matches)))
        | inr past ↦
            let less = deeper states first.in_order found at depth calls (omega (arith, past)) deep far in
            let one : length (place ∷ []) ≡ 1 = refl in
            omega (arith, less, one)
      ]
  no-shorter m need places (LeadsToNeed.call n its callee args inner place rest has here leads) decl is at state calls there far method long matches =
      elim (cases_lt at found) [
        | inl before ↦
            let same : its ≡ decl = same_Some _ _ (sym has ∙ is) in
            let needed = lead-need p callee inner rest leads in
            let callee_decl = need-decl p callee inner needed in
            let body = body_steps p callee_decl.0 in
            let listed = (first.done at state before there (body_steps p its) (body-there n its state has method)).1 here.number callee args here.step_there
            body (mapped-at (body_steps p) p.methods callee callee_decl.0 callee_decl.1) in
            let params = callee_decl.0.params in
            let carried = match-carried state.values args its.params params inner target (long ∙ ap (λ (d : Decl). d.params) (sym same))
            (need-said p callee inner callee_decl.0 needed callee_decl.1) in
            let some = some-depth (all_bodies p) target states linked (suc listed.0) listed.0 listed.1 (omega arith) listed.2 in
            let near = one-further states first.in_order listed.0 at some.0 calls listed.1 listed.2 listed.5 some.1 far in
            let rest_long = no-shorter callee inner rest leads callee_decl.0 callee_decl.1 listed.0 listed.1 some.0 listed.2 some.1 listed.3
            (ap (λ (vs : List (Option Elem)). length vs) listed.4 ∙ callee-length state.values target.elems args params)
            (ap (λ (vs : List (Option Elem)). is_match vs inner target) listed.4 ∙ (carried ∙ matches)) in
            let one : length (place ∷ rest) ≡ suc (length rest) = refl in
            omega (arith, rest_long, near, one)
        | inr past ↦
            let less = deeper states first.in_order found at depth calls (omega (arith, past)) deep far in
            let one : length (place ∷ rest) ≡ suc (length rest) = refl in
            omega (arith, less, one)
      ]

  -- none from the method itself has fewer places
  pub shortest-found : (method : ℕ) → IsStarted (all_bodies p) method states → (others : List Place) → LeadsToNeed p method target others
      → depth + 1 ≤ length others
  shortest-found method started others leads =
      let needed = lead-need p method target others leads in
      let decl = need-decl p method target needed in
      let body_is : started.body ≡ body_steps p decl.0 = same_Some _ _ (sym started.body_there ∙ mapped-at (body_steps p) p.methods method decl.0 decl.1) in
      let params : started.body.params ≡ decl.0.params = ap (λ (b : BodySteps). b.params) body_is in
      let all = no-shorter method target others leads decl.0 decl.1 0 started.state 0 started.state_there refl started.method_is
      (ap (λ (vs : List (Option Elem)). length vs) started.values_are ∙ (own-length started.body.params ∙ params))
      (ap (λ (vs : List (Option Elem)). is_match vs target target) started.values_are
      ∙ self-match started.body.params target (subst (λ (n : ℕ). AreSaid n target.elems) (sym params) (need-said p method target decl.0 needed decl.1))) in
      omega (arith, all)
