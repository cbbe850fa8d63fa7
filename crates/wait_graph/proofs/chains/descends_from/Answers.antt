-- The chain begins with the task itself, and goes on by each unjoined parent. An ancestor isn't above the task.
use Rattle.std.proofs.Common.{◌≢◌, subst, arith}
use Rattle.std.proofs.lemmas.Bool.{eq-eqb, eqb-true, false≢true}
use Rattle.wait_graph.specs.Chain.{none}
use Rattle.wait_graph.specs.Waiting.{DescendsFrom}
use Rattle.wait_graph.proofs.ChainLemmas.{Chain-push, Chain-rest, Chain-stays}
use Rattle.wait_graph.proofs.WaitingLemmas.{SpawnedBy-one, DescendsFrom-down}
use Rattle.wait_graph.proofs.chains.descends_from.Goals as goal

pub loop-at-init : goal.loop-at-init
loop-at-init c = record { within = c.requires.there; chain = none; only = λ d. d }

pub returns : goal.returns
returns c = (
  λ h. subst (λ u. DescendsFrom c.args.links.now c.args.t u) (eqb-true _ _ h) c.loop-at.invariant.chain,
  λ d. let down = DescendsFrom-down c.requires.ordered (c.loop-at.invariant.only d) in eq-eqb _ _ (omega (arith, down)),
)

pub returns-in_default : goal.returns-in_default
returns-in_default c = (
  λ h. absurd (false≢true h),
  λ d.
      let away : c.loop-at.at ≢ c.args.u = omega arith in
      absurd (away (Chain-stays c.in_default.ensures.none (c.loop-at.invariant.only d))),
)

pub loop-at-preserved : goal.loop-at-preserved
loop-at-preserved c =
    let parent = c.in-Some.ensures.spawned in
    let away : c.loop-at.at ≢ c.args.u = omega arith in
    record {
      within = let below = c.in-Some.ensures.below in omega arith;
      chain = Chain-push c.loop-at.invariant.chain parent;
      only = λ d. Chain-rest (λ q p. SpawnedBy-one parent p) away (c.loop-at.invariant.only d);
    }
