use Rattle.summary_comparing.proofs.Idle.{needed-by-body, needed-by-child, stays-under}
use Rattle.summary_comparing.proofs.laws.idle_effects_can_be_left_out.Goals as goal

-- what covers a need is needed
pub returns-clause-body : goal.returns-clause-body
returns-clause-body c body children declared need there h =
    stays-under body children need (λ e. needed-by-body body children need e there) declared h

pub returns-clause-children : goal.returns-clause-children
returns-clause-children c body children declared need there h =
    stays-under body children need (λ e. needed-by-child body children need e there) declared h
