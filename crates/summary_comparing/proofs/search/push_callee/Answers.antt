use Rattle.std.proofs.Common.{◌≡◌, ◌∷◌, [], ◌++◌, List, Option, Some, length, refl, sym, ap, ◌∙◌, subst, arith}
use Rattle.std.specs.Prelude.{slice_get}
use Rattle.std.proofs.lemmas.Option.{slice_get_read, slice_get_within}
use Rattle.std.proofs.lemmas.Result.{on_ok_weaker}
use Rattle.region_paths.specs.declared.elements.Elem.{Elem}
use Rattle.effect_infer.specs.declared.needs.need.BodyStep.{BodyStep}
use Rattle.effect_infer.specs.declared.needs.need.BodyStep.TheVariants.{Call}
use Rattle.summary_comparing.specs.declared.states.SearchState.{SearchState}
use Rattle.summary_comparing.specs.inner.Standing.{callee_values}
use Rattle.summary_comparing.specs.inner.Search.{ComeInOrder, IsLinked, IsListed, StatesGrow}
use Rattle.summary_comparing.proofs.Linked.{at-end, grow-push, listed-at, order-push}
use Rattle.summary_comparing.proofs.search.push_callee.Goals as goal

-- one state more, which comes from this one
pub returns-clause-grows : goal.returns-clause-grows
returns-clause-grows c =
    let bodies = c.args.bodies.now in
    let target = c.args.target.now in
    let states = c.args.states.now in
    let args = c.args.args.now in
    let here = c.requires.here in
    let body = c.in-Some.body.now in
    let look = c.in-Some.ensures.lookup in
    let there = slice_get_read bodies (length bodies) c.args.callee body refl look.3.0 look.1 in
    let new : SearchState = record { method = c.args.callee; values = c.in_ok-given.given; from = c.args.at; step = c.args.step } in
    let values : c.in_ok-given.given ≡ callee_values here.state.values target.elems args body.params =
    c.in_ok-given.ensures ∙ (ap (λ (ts : List Elem). callee_values c.args.values.now ts args body.params) c.as_slice.ensures
    ∙ ap (λ (vs : List (Option Elem)). callee_values vs target.elems args body.params) (sym here.values_are)) in
    let link : IsLinked bodies target states (length states) new = record {
      earlier = slice_get_within states c.args.at here.state here.state_there;
      caller = here.state;
      caller_there = here.state_there;
      body = here.body;
      body_there = here.body_there;
      args = args;
      calls = subst (λ (ss : List BodyStep). slice_get ss c.args.step ≡ Some (Call c.args.callee args)) (sym here.steps_are) c.requires.called;
      called = (body, there, values);
    } in
    on_ok_weaker c.push.result (λ is. subst (StatesGrow bodies target states) (sym is) (grow-push bodies target states new link)) c.push.ensures.ok

-- it is that of the call
pub returns-clause-listed : goal.returns-clause-listed
returns-clause-listed c =
    let bodies = c.args.bodies.now in
    let target = c.args.target.now in
    let states = c.args.states.now in
    let args = c.args.args.now in
    let body = c.in-Some.body.now in
    let look = c.in-Some.ensures.lookup in
    let there = slice_get_read bodies (length bodies) c.args.callee body refl look.3.0 look.1 in
    let new : SearchState = record { method = c.args.callee; values = c.in_ok-given.given; from = c.args.at; step = c.args.step } in
    let values : c.in_ok-given.given ≡ callee_values c.args.values.now target.elems args body.params =
    c.in_ok-given.ensures ∙ ap (λ (ts : List Elem). callee_values c.args.values.now ts args body.params) c.as_slice.ensures in
    on_ok_weaker c.push.result
    (λ is. subst (λ (ss : List SearchState). IsListed bodies target ss c.args.at c.args.values.now c.args.callee args) (sym is)
    (listed-at bodies target (states ++ new ∷ []) c.args.at c.args.values.now c.args.callee args body (length states) new there (at-end states new) refl values (omega arith)))
    c.push.ensures.ok

-- it comes from this one, and no other one from a later one
pub returns-clause-order : goal.returns-clause-order
returns-clause-order c =
    let states = c.args.states.now in
    let new : SearchState = record { method = c.args.callee; values = c.in_ok-given.given; from = c.args.at; step = c.args.step } in
    on_ok_weaker c.push.result (λ is. subst (λ (ss : List SearchState). ComeInOrder ss c.args.at) (sym is) (order-push states new c.args.at c.requires.order (omega arith))) c.push.ensures.ok
