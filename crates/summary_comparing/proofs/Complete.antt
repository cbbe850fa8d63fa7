-- If all states are done with, and nothing was found, the method does not need what was looked for.
use Rattle.std.proofs.Common.{◌≡◌, ℕ, true, List, map, length, Option, None, Some, refl, sym, ap, ◌∙◌, subst}
use Rattle.std.specs.Prelude.{slice_get}
use Rattle.std.specs.List.{Contains}
use Rattle.std.proofs.lemmas.Bool.{false≢true}
use Rattle.std.proofs.lemmas.Option.{same_Some, slice_get_read}
use Rattle.region_paths.specs.declared.elements.Elem.{Elem}
use Rattle.twe_program.specs.declared.program.Decl.{Decl}
use Rattle.twe_program.specs.Program.{Program}
use Rattle.effect_infer.specs.declared.needs.need.Need.{Need}
use Rattle.effect_infer.specs.declared.needs.need.BodyStep.TheVariants.{Touch, Call}
use Rattle.effect_infer.specs.needs.Steps.{steps_in_all}
use Rattle.effect_infer.specs.needs.Needs.{IsNeed, own, called, filled_need, settled_elem}
use Rattle.effect_infer.proofs.needs.Leastness.{need-decl}
use Rattle.summary_comparing.specs.declared.bodies.BodySteps.{BodySteps}
use Rattle.summary_comparing.specs.declared.states.SearchState.{SearchState}
use Rattle.summary_comparing.specs.Placed.{all_bodies, body_steps}
use Rattle.summary_comparing.specs.inner.Standing.{is_match}
use Rattle.summary_comparing.specs.inner.Search.{IsDoneWith, IsStarted}
use Rattle.summary_comparing.proofs.Elements.{callee-length, own-length}
use Rattle.summary_comparing.proofs.Carried.{AreSaid, match-carried, match-settled, self-match, settled-said}
use Rattle.summary_comparing.proofs.Linked.{mapped-at}

-- an element that a list contains stands somewhere in it
pub contained-at : {X : Type 0} (xs : List X) (x : X) → Contains xs x → (k : ℕ) × (slice_get xs k ≡ Some x)
contained-at xs x c = (c.0, slice_get_read xs (length xs) c.0 x refl c.1 (sym c.2))

-- what a method needs speaks of its parameters alone
pub need-said : (p : Program) (m : ℕ) (need : Need) (decl : Decl) → IsNeed p m need → slice_get p.methods m ≡ Some decl → AreSaid decl.params need.elems
need-said p m need decl (own n its step has) there =
    let same : its ≡ decl = same_Some _ _ (sym has.0 ∙ there) in
    subst (λ (d : Decl). AreSaid d.params (map (settled_elem its.params) step.elems)) same (settled-said its.params step.elems)
need-said p m need decl (called n its callee args inner has needed) there =
    let same : its ≡ decl = same_Some _ _ (sym has.0 ∙ there) in
    subst (λ (d : Decl). AreSaid d.params (map (settled_elem its.params) (filled_need args inner).elems)) same (settled-said its.params (filled_need args inner).elems)

module _ (p : Program) (target : Need) (states : List SearchState)
    (done : (at : ℕ) (state : SearchState) → slice_get states at ≡ Some state → IsDoneWith (all_bodies p) target states at state) where
  -- the body of a method in a state
  here-done : (m : ℕ) (decl : Decl) (at : ℕ) (state : SearchState) → slice_get p.methods m ≡ Some decl → slice_get states at ≡ Some state → state.method ≡ m
      → slice_get (all_bodies p) state.method ≡ Some (body_steps p decl)
  here-done m decl at state is there method = ap (slice_get (all_bodies p)) method ∙ mapped-at (body_steps p) p.methods m decl is

  pub never-matches : (m : ℕ) (need : Need) → IsNeed p m need → (decl : Decl) → slice_get p.methods m ≡ Some decl
      → (at : ℕ) (state : SearchState) → slice_get states at ≡ Some state → state.method ≡ m → length state.values ≡ decl.params
      → is_match state.values need target ≡ true → ⊥
  never-matches m need (own n its step has) decl is at state there method long matches =
      let same : its ≡ decl = same_Some _ _ (sym has.0 ∙ is) in
      let among = contained-at (steps_in_all p.cells its.body.block) (Touch step) has.1 in
      let none = (done at state there (body_steps p its) (here-done m its at state has.0 there method)).0 among.0 step among.1 in
      let settled_is = match-settled state.values its.params step target (long ∙ ap (λ (d : Decl). d.params) (sym same)) in
      false≢true (sym none ∙ (sym settled_is ∙ matches))
  never-matches m need (called n its callee args inner has needed) decl is at state there method long matches =
      let same : its ≡ decl = same_Some _ _ (sym has.0 ∙ is) in
      let among = contained-at (steps_in_all p.cells its.body.block) (Call callee args) has.1 in
      let callee_decl = need-decl p callee inner needed in
      let body = body_steps p callee_decl.0 in
      let listed = (done at state there (body_steps p its) (here-done m its at state has.0 there method)).1 among.0 callee args among.1
      body (mapped-at (body_steps p) p.methods callee callee_decl.0 callee_decl.1) in
      let params = callee_decl.0.params in
      let carried = match-carried state.values args its.params params inner target (long ∙ ap (λ (d : Decl). d.params) (sym same))
      (need-said p callee inner callee_decl.0 needed callee_decl.1) in
      never-matches callee inner needed callee_decl.0 callee_decl.1 listed.0 listed.1 listed.2 listed.3
      (ap (λ (vs : List (Option Elem)). length vs) listed.4 ∙ callee-length state.values target.elems args params)
      (ap (λ (vs : List (Option Elem)). is_match vs inner target) listed.4 ∙ (carried ∙ matches))

-- in the first state the need stands for itself
pub not-needed : (p : Program) (method : ℕ) (target : Need) (states : List SearchState) → IsStarted (all_bodies p) method states
    → ((at : ℕ) (state : SearchState) → slice_get states at ≡ Some state → IsDoneWith (all_bodies p) target states at state) → ¬ IsNeed p method target
not-needed p method target states started done needed =
    let decl = need-decl p method target needed in
    let body_is : started.body ≡ body_steps p decl.0 = same_Some _ _ (sym started.body_there ∙ mapped-at (body_steps p) p.methods method decl.0 decl.1) in
    let params : started.body.params ≡ decl.0.params = ap (λ (b : BodySteps). b.params) body_is in
    never-matches p target states done method target needed decl.0 decl.1 0 started.state started.state_there started.method_is
    (ap (λ (vs : List (Option Elem)). length vs) started.values_are ∙ (own-length started.body.params ∙ params))
    (ap (λ (vs : List (Option Elem)). is_match vs target target) started.values_are
    ∙ self-match started.body.params target (subst (λ (n : ℕ). AreSaid n target.elems) (sym params) (need-said p method target decl.0 needed decl.1)))

-- a method that is not there needs nothing
pub none-needed : (p : Program) (method : ℕ) (target : Need) → slice_get (all_bodies p) method ≡ None → ¬ IsNeed p method target
none-needed p method target none needed =
    let decl = need-decl p method target needed in
    none-some (sym none ∙ mapped-at (body_steps p) p.methods method decl.0 decl.1) where
      none-some : {X : Type 0} {x : X} → ◌≡◌ {A = Option X} None (Some x) → ⊥
      none-some e = absurd (cc)
