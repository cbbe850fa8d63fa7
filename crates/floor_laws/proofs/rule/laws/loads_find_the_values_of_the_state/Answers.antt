use Rattle.floor_laws.proofs.rule.RuleSteps.{load, load_finds}
use Rattle.floor_laws.proofs.rule.laws.loads_find_the_values_of_the_state.Goals as goal

pub returns-clause-value : goal.returns-clause-value
returns-clause-value c p lim log f i t cell value well keeps rule found may = load_finds p well keeps lim log f rule i t cell value found may

pub returns-clause-rule : goal.returns-clause-rule
returns-clause-rule c p lim log f i t cell value well keeps rule found may = load p well keeps lim log f rule i t cell value found may
