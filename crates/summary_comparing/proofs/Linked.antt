-- The list of states grows, and each state comes from an earlier one.
use Rattle.std.proofs.Common.{◌≡◌, ◌⊎◌, ◌<◌, ◌≤◌, ℕ, zero, suc, ◌+◌, List, [], ◌∷◌, ◌++◌, map, length, Option, None, Some, inl, inr, refl, sym, ap, ◌∙◌, subst, arith, append_assoc}
use Rattle.std.specs.Prelude.{slice_get}
use Rattle.std.proofs.lemmas.Bool.{cases_lt}
use Rattle.std.proofs.lemmas.List.{length-append}
use Rattle.std.proofs.lemmas.Option.{same_Some, slice_get_within}
use Rattle.region_paths.specs.declared.elements.Elem.{Elem}
use Rattle.effect_infer.specs.declared.needs.need.Need.{Need}
use Rattle.effect_infer.specs.declared.needs.need.BodyStep.{BodyStep}
use Rattle.effect_infer.specs.declared.needs.need.BodyStep.TheVariants.{Touch, Call}
use Rattle.summary_comparing.specs.declared.bodies.BodySteps.{BodySteps}
use Rattle.summary_comparing.specs.declared.states.SearchState.{SearchState}
use Rattle.summary_comparing.specs.inner.Standing.{callee_values}
use Rattle.summary_comparing.specs.inner.Search.{AreCalledWith, AreDone, AreLinked, CallsListed, ComeInOrder, IsDoneWith, IsLinked, IsListed, IsStarted, IsStateAt, StatesGrow}
use Rattle.summary_comparing.proofs.Elements.{callee-length, own-length}

nil-right : {X : Type 0} (xs : List X) → xs ++ [] ≡ xs
nil-right [] = refl
nil-right (x ∷ xs) = ap (λ ys. x ∷ ys) (nil-right xs)

-- an element stays where it is
pub still-at : {X : Type 0} (xs more : List X) (k : ℕ) (x : X) → slice_get xs k ≡ Some x → slice_get (xs ++ more) k ≡ Some x
still-at [] more k x there = absurd (cc)
still-at (y ∷ ys) more zero x there = there
still-at (y ∷ ys) more (suc k) x there = still-at ys more k x there

pub at-before : {X : Type 0} (xs more : List X) (k : ℕ) (x : X) → k < length xs → slice_get (xs ++ more) k ≡ Some x → slice_get xs k ≡ Some x
at-before [] more k x below there = absurd (omega (arith, below))
at-before (y ∷ ys) more zero x below there = there
at-before (y ∷ ys) more (suc k) x below there = at-before ys more k x (omega (arith, below)) there

-- it was there, or it is the new one
pub at-push : {X : Type 0} (xs : List X) (new : X) (k : ℕ) (x : X) → slice_get (xs ++ new ∷ []) k ≡ Some x → (slice_get xs k ≡ Some x) ⊎ ((k ≡ length xs) × (x ≡ new))
at-push [] new zero x there = inr (refl, sym (same_Some _ _ there))
at-push [] new (suc k) x there = absurd (cc)
at-push (y ∷ ys) new zero x there = inl there
at-push (y ∷ ys) new (suc k) x there = elim (at-push ys new k x there) [
  | inl before ↦ inl before
  | inr last ↦ inr (ap suc last.0, last.1)
]

pub at-end : {X : Type 0} (xs : List X) (new : X) → slice_get (xs ++ new ∷ []) (length xs) ≡ Some new
at-end [] new = refl
at-end (y ∷ ys) new = at-end ys new

-- an element of a list that is mapped
pub at-mapped : {X Y : Type 0} (f : X → Y) (xs : List X) (k : ℕ) (y : Y) → slice_get (map f xs) k ≡ Some y → (x : X) × (slice_get xs k ≡ Some x) × (y ≡ f x)
at-mapped f [] k y there = absurd (cc)
at-mapped f (x ∷ xs) zero y there = (x, refl, sym (same_Some _ _ there))
at-mapped f (x ∷ xs) (suc k) y there = at-mapped f xs k y there

pub mapped-at : {X Y : Type 0} (f : X → Y) (xs : List X) (k : ℕ) (x : X) → slice_get xs k ≡ Some x → slice_get (map f xs) k ≡ Some (f x)
mapped-at f [] k x there = absurd (cc)
mapped-at f (y ∷ xs) zero x there = ap (λ w. Some (f w)) (same_Some y x there)
mapped-at f (y ∷ xs) (suc k) x there = mapped-at f xs k x there

-- a state more, which comes from the last one that others come from
pub order-push : (states : List SearchState) (new : SearchState) (upto : ℕ) → ComeInOrder states upto → new.from ≡ upto → ComeInOrder (states ++ new ∷ []) upto
order-push states new upto order from = record {
  in_order = λ at further state other above below there here. elim (at-push states new further other here) [
    | inl old ↦ order.in_order at further state other above below (before-push at further other old below state there) old
    | inr last ↦ elim (at-push states new at state there) [
      | inl old ↦ let within = order.within at state old in let same = ap (λ (s : SearchState). s.from) last.1 in omega (arith, within, same, from)
      | inr same ↦ let one = ap (λ (s : SearchState). s.from) same.1 in let two = ap (λ (s : SearchState). s.from) last.1 in omega (arith, one, two)
    ]
  ];
  within = λ at state there. elim (at-push states new at state there) [
    | inl old ↦ order.within at state old
    | inr last ↦ let same = ap (λ (s : SearchState). s.from) last.1 in omega (arith, same, from)
  ];
} where
  before-push : (at further : ℕ) (other : SearchState) → slice_get states further ≡ Some other → at ≤ further → (state : SearchState)
      → slice_get (states ++ new ∷ []) at ≡ Some state → slice_get states at ≡ Some state
  before-push at further other old below state there =
      let inside = slice_get_within states further other old in
      at-before states (new ∷ []) at state (omega (arith, inside, below)) there

module _ (bodies : List BodySteps) (target : Need) where
  -- a link stays one
  link-stays : (states more : List SearchState) (at : ℕ) (state : SearchState) → IsLinked bodies target states at state → IsLinked bodies target (states ++ more) at state
  link-stays states more at state link = record {
    earlier = link.earlier;
    caller = link.caller;
    caller_there = still-at states more state.from link.caller link.caller_there;
    body = link.body;
    body_there = link.body_there;
    args = link.args;
    calls = link.calls;
    called = link.called;
  }

  pub grow-same : (states : List SearchState) → StatesGrow bodies target states states
  grow-same states = record { longer = ([], sym (nil-right states)); linked = λ linked. linked }

  pub grow-further : (first second third : List SearchState) → StatesGrow bodies target first second → StatesGrow bodies target second third → StatesGrow bodies target first third
  grow-further first second third g h = record {
    longer = (g.longer.0 ++ h.longer.0, h.longer.1 ∙ ap (λ (ss : List SearchState). ss ++ h.longer.0) g.longer.1 ∙ append_assoc first g.longer.0 h.longer.0);
    linked = λ linked. h.linked (g.linked linked);
  }

  -- one more, which comes from an earlier one
  pub grow-push : (states : List SearchState) (state : SearchState) → IsLinked bodies target states (length states) state → StatesGrow bodies target states (states ++ state ∷ [])
  grow-push states state link = record {
    longer = (state ∷ [], refl);
    linked = λ linked at other there. elim (at-push states state at other there) [
      | inl before ↦ elim (linked at other before) [
        | inl first ↦ inl first
        | inr old ↦ inr (link-stays states (state ∷ []) at other old)
      ]
      | inr last ↦ inr (link-stays states (state ∷ []) at other
          (subst (λ (i : ℕ). IsLinked bodies target states i other) (sym last.0)
          (subst (λ (s : SearchState). IsLinked bodies target states (length states) s) (sym last.1) link)))
    ];
  }

  -- what is listed stays so
  pub listed-stays : (old new : List SearchState) (caller : ℕ) (values : List (Option Elem)) (callee : ℕ) (args : List Elem) → StatesGrow bodies target old new
      → IsListed bodies target old caller values callee args → IsListed bodies target new caller values callee args
  listed-stays old new caller values callee args grows listed body there =
      let found = listed body there in
      (found.0, found.1, subst (λ (ss : List SearchState). slice_get ss found.0 ≡ Some found.1) (sym grows.longer.1) (still-at old grows.longer.0 found.0 found.1 found.2), found.3, found.4, found.5)

  pub state-stays : (old new : List SearchState) (at : ℕ) (values : List (Option Elem)) (steps : List BodyStep) → StatesGrow bodies target old new
      → IsStateAt bodies old at values steps → IsStateAt bodies new at values steps
  state-stays old new at values steps grows here = record {
    state = here.state;
    state_there = subst (λ (ss : List SearchState). slice_get ss at ≡ Some here.state) (sym grows.longer.1) (still-at old grows.longer.0 at here.state here.state_there);
    body = here.body;
    body_there = here.body_there;
    values_are = here.values_are;
    steps_are = here.steps_are;
  }

  -- the state in which a method is called so, found or added
  pub listed-at : (states : List SearchState) (caller : ℕ) (values : List (Option Elem)) (callee : ℕ) (args : List Elem) (body : BodySteps) (at : ℕ) (state : SearchState)
      → slice_get bodies callee ≡ Some body → slice_get states at ≡ Some state → state.method ≡ callee
      → state.values ≡ callee_values values target.elems args body.params → state.from ≤ caller → IsListed bodies target states caller values callee args
  listed-at states caller values callee args body at state is there method same earlier other other_is =
      let one : body ≡ other = same_Some _ _ (sym is ∙ other_is) in
      (at, state, there, method, subst (λ (b : BodySteps). state.values ≡ callee_values values target.elems args b.params) one same, earlier)

  pub listed-none : (states : List SearchState) (caller : ℕ) (values : List (Option Elem)) (callee : ℕ) (args : List Elem) → slice_get bodies callee ≡ None → IsListed bodies target states caller values callee args
  listed-none states caller values callee args none body is = absurd (none-some (sym none ∙ is)) where
    none-some : {X : Type 0} {x : X} → ◌≡◌ {A = Option X} None (Some x) → ⊥
    none-some e = absurd (cc)

  -- the states of one step more
  pub listed-more : (old new : List SearchState) (caller : ℕ) (values : List (Option Elem)) (steps : List BodyStep) (at callee : ℕ) (args : List Elem) → StatesGrow bodies target old new
      → CallsListed bodies target old caller values steps at → slice_get steps at ≡ Some (Call callee args) → IsListed bodies target new caller values callee args
      → CallsListed bodies target new caller values steps (at + 1)
  listed-more old new caller values steps at callee args grows listed is one k other others below there = elim (cases_lt k at) [
    | inl before ↦ listed-stays old new caller values other others grows (listed k other others before there)
    | inr past ↦
        let last : k ≡ at = omega (arith, past, below) in
        let same : Call callee args ≡ Call other others = same_Some _ _ (sym is ∙ (ap (slice_get steps) (sym last) ∙ there)) in
        let number : callee ≡ other = cc in
        let elems : args ≡ others = cc in
        subst (λ (xs : List Elem). IsListed bodies target new caller values other xs) elems (subst (λ (i : ℕ). IsListed bodies target new caller values i args) number one)
  ]

  pub listed-skip : (states : List SearchState) (caller : ℕ) (values : List (Option Elem)) (steps : List BodyStep) (at : ℕ) (need : Need)
      → CallsListed bodies target states caller values steps at → slice_get steps at ≡ Some (Touch need) → CallsListed bodies target states caller values steps (at + 1)
  listed-skip states caller values steps at need listed is k other others below there = elim (cases_lt k at) [
    | inl before ↦ listed k other others before there
    | inr past ↦
        let last : k ≡ at = omega (arith, past, below) in
        let same : Touch need ≡ Call other others = same_Some _ _ (sym is ∙ (ap (slice_get steps) (sym last) ∙ there)) in
        absurd (cc)
  ]

  pub grow-length : (old new : List SearchState) → StatesGrow bodies target old new → length old ≤ length new
  grow-length old new grows =
      let long = ap (λ (ss : List SearchState). length ss) grows.longer.1 ∙ length-append old grows.longer.0 in
      omega (arith, long)

  -- one state more is done with
  pub done-more : (old new : List SearchState) (at : ℕ) → StatesGrow bodies target old new → at < length old → AreDone bodies target old at
      → ((state : SearchState) → slice_get old at ≡ Some state → IsDoneWith bodies target new at state) → AreDone bodies target new (at + 1)
  done-more old new at grows inside done one k state below there =
      let before : slice_get old k ≡ Some state =
      at-before old grows.longer.0 k state (omega (arith, below, inside)) (subst (λ (ss : List SearchState). slice_get ss k ≡ Some state) grows.longer.1 there) in
      elim (cases_lt k at) [
        | inl earlier ↦ λ body is.
            let so = done k state earlier before body is in
            (so.0, λ j callee args calls. listed-stays old new k state.values callee args grows (so.1 j callee args calls))
        | inr past ↦
            let last : k ≡ at = omega (arith, past, below) in
            subst (λ (i : ℕ). IsDoneWith bodies target new i state) (sym last) (one state (ap (slice_get old) (sym last) ∙ before))
      ]

  -- those that are done with stay so
  pub done-grown : (old new : List SearchState) (at : ℕ) → StatesGrow bodies target old new → at < length old → AreDone bodies target old at → AreDone bodies target new at
  done-grown old new at grows inside done k state below there body is =
      let before : slice_get old k ≡ Some state =
      at-before old grows.longer.0 k state (omega (arith, below, inside)) (subst (λ (ss : List SearchState). slice_get ss k ≡ Some state) grows.longer.1 there) in
      let so = done k state below before body is in
      (so.0, λ j callee args calls. listed-stays old new k state.values callee args grows (so.1 j callee args calls))

  -- the only state is the first
  pub one-linked : (states : List SearchState) → length states ≡ 1 → AreLinked bodies target states
  one-linked states one at state there =
      let below : at < length states = slice_get_within states at state there in
      let first : at ≡ 0 = omega (arith, one, below) in
      inl first

  -- the first state stays
  pub start-stays : (method : ℕ) (old new : List SearchState) → StatesGrow bodies target old new → IsStarted bodies method old → IsStarted bodies method new
  start-stays method old new grows started = record {
    state = started.state;
    state_there = subst (λ (ss : List SearchState). slice_get ss 0 ≡ Some started.state) (sym grows.longer.1) (still-at old grows.longer.0 0 started.state started.state_there);
    method_is = started.method_is;
    body = started.body;
    body_there = started.body_there;
    values_are = started.values_are;
  }

-- the values of a state are as many as the parameters of its method
module _ (bodies : List BodySteps) (target : Need) (method : ℕ) (states : List SearchState) (started : IsStarted bodies method states) (linked : AreLinked bodies target states) where
  called-long : (values : List (Option Elem)) (args : List Elem) (state : SearchState) → AreCalledWith bodies target values state args
      → (body : BodySteps) → slice_get bodies state.method ≡ Some body → length state.values ≡ body.params
  called-long values args state called body is =
      let one : called.0 ≡ body = same_Some _ _ (sym called.1 ∙ is) in
      ap (λ (vs : List (Option Elem)). length vs) called.2 ∙ callee-length values target.elems args called.0.params ∙ ap (λ (b : BodySteps). b.params) one

  first-long : (body : BodySteps) → slice_get bodies started.state.method ≡ Some body → length started.state.values ≡ body.params
  first-long body is =
      let one : started.body ≡ body = same_Some _ _ (sym started.body_there ∙ (ap (slice_get bodies) (sym started.method_is) ∙ is)) in
      ap (λ (vs : List (Option Elem)). length vs) started.values_are ∙ own-length started.body.params ∙ ap (λ (b : BodySteps). b.params) one

  pub values-long : (at : ℕ) (state : SearchState) (body : BodySteps) → slice_get states at ≡ Some state → slice_get bodies state.method ≡ Some body → length state.values ≡ body.params
  values-long at state body there is = elim (linked at state there) [
    | inl first ↦
        let same : started.state ≡ state = same_Some _ _ (sym started.state_there ∙ (ap (slice_get states) (sym first) ∙ there)) in
        subst (λ (s : SearchState). slice_get bodies s.method ≡ Some body → length s.values ≡ body.params) same (first-long body) is
    | inr link ↦ called-long link.caller.values link.args state link.called body is
  ]
