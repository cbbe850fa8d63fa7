use Rattle.std.proofs.Common.{ℕ, suc, List, Option, None, subst, arith}
use Rattle.std.specs.Prelude.{IfSome}
use Rattle.summary_comparing.specs.declared.bodies.BodySteps.{BodySteps}
use Rattle.summary_comparing.specs.Placed.{all_bodies}
use Rattle.summary_comparing.specs.inner.Search.{AreLinked, IsFirstFound, IsStarted, SearchEnds}
use Rattle.summary_comparing.proofs.Complete.{not-needed}
use Rattle.summary_comparing.proofs.Depths.{some-depth}
use Rattle.summary_comparing.proofs.Linked.{one-linked, start-stays}
use Rattle.summary_comparing.proofs.Shortest.{shortest-found}
use Rattle.summary_comparing.proofs.search.find_chain.Goals as goal

-- all states are done with
pub returns-in-None-clause-none : goal.returns-in-None-clause-none
returns-in-None-clause-none c =
    let target = c.args.target.now in
    let states = c.search.new.states in
    let started = start-stays c.args.bodies.now target c.args.method c.in_ok-states.states states c.in_ok-found.ensures.grows c.in_ok-states.ensures.started in
    let ends = subst (SearchEnds c.args.bodies.now target states) c.in-None.is c.in_ok-found.ensures.ends in
    not-needed c.args.p.now c.args.method target states (subst (λ (bs : List BodySteps). IsStarted bs c.args.method states) c.requires started)
    (subst (λ (bs : List BodySteps). SearchEnds bs target states None) c.requires ends)

pub walk_up-requires-clause-started : goal.walk_up-requires-clause-started
walk_up-requires-clause-started c =
    start-stays c.args.bodies.now c.args.target.now c.args.method c.in_ok-states.states c.search.new.states c.in_ok-found.ensures.grows c.in_ok-states.ensures.started

pub walk_up-requires-clause-linked : goal.walk_up-requires-clause-linked
walk_up-requires-clause-linked c =
    c.in_ok-found.ensures.grows.linked (one-linked c.args.bodies.now c.args.target.now c.in_ok-states.states c.in_ok-states.ensures.one)

-- the chain is a shortest one
pub returns-clause-found : goal.returns-clause-found
returns-clause-found c =
    let p = c.args.p.now in
    let target = c.args.target.now in
    let states = c.search.new.states in
    let at = c.in-Some-found.at in
    let bodies = c.args.bodies.now in
    let started = subst (λ (bs : List BodySteps). IsStarted bs c.args.method states) c.requires
    (start-stays bodies target c.args.method c.in_ok-states.states states c.in_ok-found.ensures.grows c.in_ok-states.ensures.started) in
    let linked = subst (λ (bs : List BodySteps). AreLinked bs target states) c.requires
    (c.in_ok-found.ensures.grows.linked (one-linked bodies target c.in_ok-states.states c.in_ok-states.ensures.one)) in
    let first = subst (λ (bs : List BodySteps). IsFirstFound bs target states at) c.requires
    (subst (λ (o : Option (ℕ × ℕ)). IfSome o (λ it. IsFirstFound bodies target states it.0)) c.in-Some-found.is c.in_ok-found.ensures.first) in
    let found = subst (SearchEnds bodies target states) c.in-Some-found.is c.in_ok-found.ensures.ends in
    let deep = some-depth (all_bodies p) target states linked (suc at) at found.0 (omega arith) found.2 in
    let many = c.in_ok-places-in-Some-found.ensures.many deep.0 deep.1 in
    record {
      leads = c.in_ok-places-in-Some-found.ensures.leads;
      shortest = λ others leads. let least = shortest-found p target states linked at deep.0 deep.1 first c.args.method started others leads in omega (arith, many, least);
    }
