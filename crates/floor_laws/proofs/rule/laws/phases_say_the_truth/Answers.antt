use Rattle.floor_laws.proofs.rule.RuleSteps.{find_done}
use Rattle.floor_laws.proofs.rule.laws.phases_say_the_truth.Goals as goal

pub returns-clause-fits : goal.returns-clause-fits
returns-clause-fits c p lim log f t rule = rule.fits.phases t

pub returns-clause-done : goal.returns-clause-done
returns-clause-done c p lim log f i t well keeps rule is = find_done p well keeps lim log f rule i t is
