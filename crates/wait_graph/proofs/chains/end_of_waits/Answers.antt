-- The chain begins with the task itself, and goes on by each wait.
use Rattle.wait_graph.specs.Chain.{none}
use Rattle.wait_graph.proofs.ChainLemmas.{Chain-push}
use Rattle.wait_graph.proofs.chains.end_of_waits.Goals as goal

pub loop-next-init : goal.loop-next-init
loop-next-init c = record { within = c.requires.there; chain = none }

pub loop-next-preserved : goal.loop-next-preserved
loop-next-preserved c = record {
  within = c.in-Some.ensures.above.1;
  chain = Chain-push c.loop-next.invariant.chain c.in-Some.ensures.waits;
}
