use Rattle.std.proofs.Common.{ℕ, subst}
use Rattle.std.proofs.lemmas.Bool.{eqb-true}
use Rattle.wait_graph.specs.Chain.{none}
use Rattle.wait_graph.specs.Waiting.{WaitsOn}
use Rattle.wait_graph.proofs.ChainLemmas.{Chain-push}
use Rattle.twe_machine.proofs.queue_bars.is_found_to_wait.Goals as goal

pub walking-init : goal.walking-init
walking-init c = none

pub walking-preserved : goal.walking-preserved
walking-preserved c = Chain-push c.walking.invariant c.in-Some.ensures.waits

pub returns : goal.returns
returns c = λ yes. subst (λ (u : ℕ). WaitsOn c.args.st.now.links c.args.s u) (eqb-true c.walking.at c.args.t yes) c.walking.invariant
