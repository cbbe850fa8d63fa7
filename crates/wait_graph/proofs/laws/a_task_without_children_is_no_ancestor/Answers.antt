-- A chain of descent to that task has no last step.
use Rattle.std.proofs.Common.{ℕ, sym, subst}
use Rattle.wait_graph.specs.Waiting.{DescendsFrom}
use Rattle.wait_graph.specs.Chain.{none}
use Rattle.wait_graph.proofs.ChainLemmas.{Chain-arrives}
use Rattle.wait_graph.proofs.laws.a_task_without_children_is_no_ancestor.Goals as goal

pub returns : goal.returns
returns c = λ links t c alone. (
  λ chain. Chain-arrives alone chain,
  λ e. subst (λ (x : ℕ). DescendsFrom links x t) (sym e) none,
)
