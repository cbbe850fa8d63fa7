-- The chain begins with s itself, and goes on by each wait.
use Rattle.std.proofs.lemmas.Bool.{false≢true}
use Rattle.wait_graph.specs.Chain.{none}
use Rattle.wait_graph.proofs.ChainLemmas.{Chain-push}
use Rattle.wait_graph.proofs.WaitingLemmas.{YieldsTo-next, YieldsTo-alone}
use Rattle.wait_graph.proofs.chains.yields.Goals as goal

pub loop-at-init : goal.loop-at-init
loop-at-init c = record { within = c.requires.waiter; chain = none; only = λ y. y }

pub returns-in_default : goal.returns-in_default
returns-in_default c = (
  λ h. absurd (false≢true h),
  λ y. c.loop-at-test.ensures.1 (YieldsTo-alone c.in_default.ensures.none (c.loop-at.invariant.only y)),
)

pub loop-at-preserved : goal.loop-at-preserved
loop-at-preserved c =
    let wait = c.in-Some.ensures.waits in
    record {
      within = c.in-Some.ensures.above.1;
      chain = Chain-push c.loop-at.invariant.chain wait;
      only = λ y. YieldsTo-next wait (λ d. false≢true (c.loop-at-test.ensures.1 d)) (c.loop-at.invariant.only y);
    }
