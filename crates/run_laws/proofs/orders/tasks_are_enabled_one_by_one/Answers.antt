use Rattle.run_laws.proofs.orders.OneByOne.{never_both, one_after_another, some_first}
use Rattle.run_laws.proofs.orders.tasks_are_enabled_one_by_one.Goals as goal

pub returns : goal.returns
returns c = record {
  one_first = λ p well lim. some_first p lim well;
  never_both = λ p well lim. never_both p lim well;
  on_and_on = λ p well lim. one_after_another p lim well;
}
