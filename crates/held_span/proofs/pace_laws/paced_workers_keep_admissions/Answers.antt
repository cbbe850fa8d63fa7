use Rattle.std.proofs.Common.{◌≤◌, ◌+◌, ◌*◌, ℕ, length, subst}
use Rattle.schedules.proofs.PacedTimes.{short, timetable}
use Rattle.span_profile.proofs.Speed.{sum_of_list}
use Rattle.span_profile.specs.heaviest_chain.Chains.{Leads, weight_at}
use Rattle.held_span.specs.Freed.{FollowsFreed, stage_weight, stages}
use Rattle.held_span.proofs.pace_laws.paced_workers_keep_admissions.Goals as goal

pub returns-clause-keeps : goal.returns-clause-keeps
returns-clause-keeps c = λ p lim moves span workers time starts ends holds profile is.
    let entries = stages p lim profile.held.journal in
    (is.slots, timetable (Leads (FollowsFreed profile.held.st.tasks) entries) (weight_at stage_weight entries) (length entries) span starts ends profile.times workers time is, is.time_is)

pub returns-clause-short : goal.returns-clause-short
returns-clause-short c = λ p lim moves span workers time starts ends holds profile is.
    let entries = stages p lim profile.held.journal in
    subst (λ (work : ℕ). workers * time ≤ work + workers * span) (sum_of_list stage_weight entries)
    (short (Leads (FollowsFreed profile.held.st.tasks) entries) (weight_at stage_weight entries) (length entries) span starts ends profile.times workers time is)
