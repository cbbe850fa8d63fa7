-- Each part of the rule is a part of the invariant.
use Rattle.floor_laws.proofs.admission.admission_core.EventsKeep.{reached_kept, descents_saw, walks_saw}
use Rattle.floor_laws.proofs.admission.admission_core.events_keep_the_rule.Goals as goal

pub returns-clause-records : goal.returns-clause-records
returns-clause-records c = λ nodes s tree reached. (reached_kept nodes s tree reached).pairs

pub returns-clause-descents : goal.returns-clause-descents
returns-clause-descents c = λ nodes s tree reached. descents_saw nodes s (reached_kept nodes s tree reached)

pub returns-clause-walks : goal.returns-clause-walks
returns-clause-walks c = λ nodes s tree reached. walks_saw nodes s tree (reached_kept nodes s tree reached)

pub returns-clause-finished : goal.returns-clause-finished
returns-clause-finished c = λ nodes s tree reached. (reached_kept nodes s tree reached).shut

pub returns-clause-locks : goal.returns-clause-locks
returns-clause-locks c = λ nodes s tree reached. (reached_kept nodes s tree reached).owner

pub returns-clause-enabled : goal.returns-clause-enabled
returns-clause-enabled c = λ nodes s tree reached. (reached_kept nodes s tree reached).full

pub returns-clause-unplaced : goal.returns-clause-unplaced
returns-clause-unplaced c = λ nodes s tree reached. (reached_kept nodes s tree reached).born

pub returns-clause-conditions : goal.returns-clause-conditions
returns-clause-conditions c = λ nodes s tree reached. (reached_kept nodes s tree reached).given
