-- A wait ends at a task that isn't done.
use Rattle.std.proofs.Common.{ℕ, sym, subst}
use Rattle.wait_graph.specs.Waiting.{WaitsOn}
use Rattle.wait_graph.specs.Chain.{none}
use Rattle.wait_graph.proofs.ChainLemmas.{Chain-arrives}
use Rattle.wait_graph.proofs.WaitingLemmas.{WaitsFor-done}
use Rattle.wait_graph.proofs.laws.a_done_task_is_not_waited_for.Goals as goal

pub returns-clause-waits : goal.returns-clause-waits
returns-clause-waits c = λ links s t done. WaitsFor-done done

pub returns-clause-chains : goal.returns-clause-chains
returns-clause-chains c = λ links s t done. (
  λ chain. Chain-arrives (λ a. WaitsFor-done done) chain,
  λ e. subst (λ (x : ℕ). WaitsOn links x t) (sym e) none,
)
