use Rattle.std.proofs.Common.{length, ◌∙◌}
use Rattle.schedules.proofs.InTurn.{one_after_another}
use Rattle.span_profile.proofs.Speed.{sum_of_list}
use Rattle.span_profile.specs.heaviest_chain.Chains.{Leads, weight_at}
use Rattle.held_span.specs.Freed.{FollowsFreed, stage_weight, stages}
use Rattle.held_span.proofs.pace_laws.one_worker_keeps_admissions.Goals as goal

pub returns : goal.returns
returns c = λ p lim moves span workers some held.
    let entries = stages p lim held.journal in
    let found = one_after_another (Leads (FollowsFreed held.st.tasks) entries) (λ i j leads. leads.before) (weight_at stage_weight entries) (length entries) workers some in
    (found.0, found.1, found.2 ∙ sum_of_list stage_weight entries)
