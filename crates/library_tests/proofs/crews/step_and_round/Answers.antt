use Rattle.std.proofs.Common.{ap, ◌∙◌}
use Rattle.twe_rounds.specs.Crews.{CrewRun}
use Rattle.library_tests.proofs.RunOfCrew.{reached, same_program}
use Rattle.library_tests.proofs.crews.step_and_round.Goals as goal

-- the journal that the crew leaves leads to the state
pub outcome-requires : goal.outcome-requires
outcome-requires g c =
    let begun = ap (λ (crew : CrewRun). crew.prog) c.in_ok-crew.ensures in
    let stepped = same_program c.in_ok-crew.crew c.quiet_step.new.self c.in_ok-_found._found c.in_ok-_found.ensures.ok in
    let gone_on = ap (λ (crew : CrewRun). crew.prog) c.in_ok-round.ensures.ok.is in
    let end = c.in_ok-journal in
    reached c.in_ok-p.p c.round.new.self end.journal end.state (gone_on ∙ (stepped ∙ begun)) end.ensures.legal end.ensures.state
