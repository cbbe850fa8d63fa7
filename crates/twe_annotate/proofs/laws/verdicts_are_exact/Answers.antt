use Rattle.twe_annotate.proofs.Verdicts.{always-meet, none-found, none-meet, values-meet}
use Rattle.twe_annotate.proofs.laws.verdicts_are_exact.Goals as goal

-- without a meeting there are no such values
pub returns-clause-apart : goal.returns-clause-apart
returns-clause-apart c first second = (none-meet first second, none-found first second)

-- the equalities hold for these values
pub returns-clause-unless : goal.returns-clause-unless
returns-clause-unless c first second v w = values-meet first second v w

-- nothing has to hold
pub returns-clause-always : goal.returns-clause-always
returns-clause-always c first second meeting is = always-meet first second meeting is
