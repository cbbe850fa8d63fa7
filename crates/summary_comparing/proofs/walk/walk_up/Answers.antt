use Rattle.std.proofs.Common.{◌≡◌, ◌<◌, ◌++◌, List, Some, length, sym, ap, ◌∙◌, subst, arith}
use Rattle.std.specs.Prelude.{option_to_list, slice_get}
use Rattle.std.proofs.lemmas.Option.{slice_get_read, slice_get_within}
use Rattle.twe_base.specs.declared.place.Place.{Place}
use Rattle.summary_comparing.specs.declared.bodies.BodySteps.{BodySteps}
use Rattle.summary_comparing.specs.declared.states.SearchState.{SearchState}
use Rattle.summary_comparing.specs.Placed.{all_bodies}
use Rattle.summary_comparing.specs.Chains.{LeadsToNeed}
use Rattle.summary_comparing.specs.inner.Search.{AreLinked, IsFoundAt, IsStarted}
use Rattle.summary_comparing.specs.inner.Walking.{place_of_step}
use Rattle.summary_comparing.proofs.Walking.{HasCome, come-back, come-home, come-start, comes-earlier}
use Rattle.summary_comparing.proofs.walk.walk_up.Goals as goal

-- the access that was found
pub loop-now-init : goal.loop-now-init
loop-now-init c =
    let p = c.args.p.now in
    let target = c.args.target.now in
    let method = c.args.method in
    let states = c.args.states.now in
    let all = c.requires.all in
    let started = subst (λ (bs : List BodySteps). IsStarted bs method states) all c.requires.started in
    let linked = subst (λ (bs : List BodySteps). AreLinked bs target states) all c.requires.linked in
    let found = subst (λ (bs : List BodySteps). IsFoundAt bs target states c.args.at c.args.step) all c.requires.found in
    let back = c.in_ok-push_place_of.ensures
    ∙ (ap (λ (bs : List BodySteps). option_to_list (place_of_step bs (slice_get states c.args.at) c.args.step) ++ c.new-back.result) all
    ∙ ap (λ (ps : List Place). option_to_list (place_of_step (all_bodies p) (slice_get states c.args.at) c.args.step) ++ ps) c.new-back.ensures) in
    record {
      inside = slice_get_within states c.args.at found.0 found.2;
      come = subst (HasCome p target states c.args.at c.args.at) (sym back) (come-start p target method states started linked c.args.at c.args.step found);
    }

-- the state at this place
pub loop-now-smaller : goal.loop-now-smaller
loop-now-smaller c =
    let p = c.args.p.now in
    let states = c.args.states.now in
    let all = c.requires.all in
    let started = subst (λ (bs : List BodySteps). IsStarted bs c.args.method states) all c.requires.started in
    let linked = subst (λ (bs : List BodySteps). AreLinked bs c.args.target.now states) all c.requires.linked in
    let state : SearchState = c.index-as_slice-now.result in
    let there = subst (λ (ss : List SearchState). slice_get ss c.loop-now.now ≡ Some state) c.as_slice.ensures
    (slice_get_read c.as_slice.result.now (length states) c.loop-now.now state (sym (ap (λ (ss : List SearchState). length ss) c.as_slice.ensures)) c.loop-now.invariant.inside c.index-as_slice-now.is) in
    let above : 0 < c.loop-now.now = let test = c.loop-now-test.true in omega (arith, test) in
    (comes-earlier p c.args.target.now c.args.method states started linked c.loop-now.now state there above).0

-- one call back
pub loop-now-preserved : goal.loop-now-preserved
loop-now-preserved c =
    let p = c.args.p.now in
    let target = c.args.target.now in
    let method = c.args.method in
    let states = c.args.states.now in
    let all = c.requires.all in
    let started = subst (λ (bs : List BodySteps). IsStarted bs method states) all c.requires.started in
    let linked = subst (λ (bs : List BodySteps). AreLinked bs target states) all c.requires.linked in
    let state : SearchState = c.index-as_slice-now.result in
    let there = subst (λ (ss : List SearchState). slice_get ss c.loop-now.now ≡ Some state) c.as_slice.ensures
    (slice_get_read c.as_slice.result.now (length states) c.loop-now.now state (sym (ap (λ (ss : List SearchState). length ss) c.as_slice.ensures)) c.loop-now.invariant.inside c.index-as_slice-now.is) in
    let above : 0 < c.loop-now.now = let test = c.loop-now-test.true in omega (arith, test) in
    let back = c.in_ok-push_place_of-2.ensures
    ∙ ap (λ (bs : List BodySteps). option_to_list (place_of_step bs (slice_get states state.from) state.step) ++ c.loop-now.back) all in
    record {
      inside = (comes-earlier p target method states started linked c.loop-now.now state there above).1;
      come = subst (HasCome p target states c.args.at state.from) (sym back)
          (come-back p target method states started linked c.args.at c.loop-now.now c.loop-now.back state c.loop-now.invariant.come there above);
    }

-- the first state
pub returns-clause-leads : goal.returns-clause-leads
returns-clause-leads c =
    let p = c.args.p.now in
    let target = c.args.target.now in
    let method = c.args.method in
    let states = c.args.states.now in
    let all = c.requires.all in
    let started = subst (λ (bs : List BodySteps). IsStarted bs method states) all c.requires.started in
    let linked = subst (λ (bs : List BodySteps). AreLinked bs target states) all c.requires.linked in
    let first : c.loop-now.now ≡ 0 = let test = c.loop-now-test.false in omega (arith, test) in
    subst (LeadsToNeed p method target) (sym c.into_list.ensures)
    (come-home p target method states started linked c.args.at c.loop-now.now c.loop-now.back first c.loop-now.invariant.come)

-- a place for each call, and one for the access
pub returns-clause-many : goal.returns-clause-many
returns-clause-many c =
    let first : c.loop-now.now ≡ 0 = let test = c.loop-now-test.false in omega (arith, test) in
    λ depth deep.
    let count = c.loop-now.invariant.come.calls 0 depth first deep in
    let long = ap (λ (ps : List Place). length ps) c.into_list.ensures in
    omega (arith, count, long)
