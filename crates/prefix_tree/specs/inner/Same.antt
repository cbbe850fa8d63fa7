-- Which steps are the same, by which a map finds the node that a step leads to.
use Rattle.std.specs.Prelude.{Bool}
use Rattle.prefix_tree.specs.declared.step.Step.{Step}
use Rattle.prefix_tree.specs.contracts.step.StepPartialEq.TheImpl as step_equality

-- from the same node, by the same part
abbrev pub step_eq : Step → Step → Bool
step_eq = (step_equality.ghosts).eq
