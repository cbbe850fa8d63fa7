use Rattle.std.proofs.Common.{◌≡◌, ◌<◌, ◌≤◌, ℕ, List, Option, Some, length, sym, subst, arith}
use Rattle.std.specs.Prelude.{IfNone, slice_get}
use Rattle.std.proofs.lemmas.Option.{slice_get_within}
use Rattle.summary_comparing.specs.declared.states.SearchState.{SearchState}
use Rattle.summary_comparing.specs.inner.Search.{IsDoneWith}
use Rattle.summary_comparing.proofs.Depths.{order-weaker}
use Rattle.summary_comparing.proofs.Linked.{done-grown, done-more, grow-further, grow-length}
use Rattle.summary_comparing.proofs.search.search.Goals as goal

-- one state more
pub loop-at-preserved : goal.loop-at-preserved
loop-at-preserved c =
    let bodies = c.args.bodies.now in
    let target = c.args.target.now in
    let first = c.args.states.now in
    let old = c.loop-at.states in
    let new = c.look_at.new.states in
    let at = c.loop-at.at in
    let grows = c.in_ok-found.ensures.grows in
    let long = c.len.ensures in
    let inside : at < length old = let past = c.if-at-len.false in omega (arith, past, long) in
    let more = grow-length bodies target old new grows in
    record {
      grows = grow-further bodies target first old new c.loop-at.invariant.grows grows;
      done = done-more bodies target old new at grows inside c.loop-at.invariant.done
          (subst (λ (o : Option ℕ). IfNone o ((state : SearchState) → slice_get old at ≡ Some state → IsDoneWith bodies target new at state)) c.in_default.is c.in_ok-found.ensures.none);
      order = order-weaker new at c.in_ok-found.ensures.order;
      inside = omega (arith, inside, more);
    }

-- all places were looked at
pub of_uncountable-requires : goal.of_uncountable-requires
of_uncountable-requires c =
    let long : c.as_slice.result.now ≡ c.loop-at.states = c.as_slice.ensures in
    let inside = c.loop-at.invariant.inside in
    let end = c.loop-at-test.false in
    subst (λ (ss : List SearchState). 4294967295 ≤ length ss) (sym long) (omega (arith, inside, end))

-- no state is left
pub returns-then-at-len-clause-ends : goal.returns-then-at-len-clause-ends
returns-then-at-len-clause-ends c = λ at state there. c.loop-at.invariant.done at state (omega (arith, c.if-at-len.true, c.len.ensures, slice_get_within c.loop-at.states at state there)) there

-- an access was found, and states were added before
pub returns-in-Some-clause-grows : goal.returns-in-Some-clause-grows
returns-in-Some-clause-grows c =
    grow-further c.args.bodies.now c.args.target.now c.args.states.now c.loop-at.states c.look_at.new.states c.loop-at.invariant.grows c.in_ok-found.ensures.grows

-- those before it are done with
pub returns-in-Some-clause-first : goal.returns-in-Some-clause-first
returns-in-Some-clause-first c = record {
  done = done-grown c.args.bodies.now c.args.target.now c.loop-at.states c.look_at.new.states c.loop-at.at c.in_ok-found.ensures.grows
      (let past = c.if-at-len.false in let long = c.len.ensures in omega (arith, past, long)) c.loop-at.invariant.done;
  in_order = c.in_ok-found.ensures.order.in_order;
}
