use Rattle.std.proofs.Common.{refl}
use Rattle.machine_state.specs.Runs.{state_after}
use Rattle.run_theorem.proofs.OneStatus.{one_status}
use Rattle.run_theorem.proofs.answers.deterministic_mains_have_one_status.Goals as goal

pub returns : goal.returns
returns c text p workers crew asked also lim answer other short accepted flag limits one second =
    let law = c.accepted_programs_are_well_formed.ensures in
    one_status p lim text (λ q is. c.one_program.ensures text q p is accepted) (λ refusal. c.refused_or_accepted.ensures.never_both text p refusal accepted)
    (λ journal another legal legal_too. c.ended_runs_end_as_the_execution.ensures.alike p (law.well_formed text p short accepted) (law.keeps text p accepted) flag lim limits
    (state_after p lim journal) (state_after p lim another) (record { journal = journal; legal = legal; same = refl }) (record { journal = another; legal = legal_too; same = refl }))
    workers crew asked also one.0 second.0 answer other one.1 second.1
