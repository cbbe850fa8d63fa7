use Rattle.std.proofs.Common.{◌∙◌, sym}
use Rattle.twe_advise.proofs.Causes.{advice_given}
use Rattle.twe_advise.proofs.answering.advice_answer.Goals as goal

-- the times are as many
pub advised_answer-requires-clause-both : goal.advised_answer-requires-clause-both
advised_answer-requires-clause-both c =
    let earliest = c.in_ok-advice.ensures.earliest.earliest in
    earliest.ends_count ∙ sym earliest.starts_count

pub advised_answer-requires-clause-with_admissions : goal.advised_answer-requires-clause-with_admissions
advised_answer-requires-clause-with_admissions c =
    let times = c.in_ok-held.ensures.held.times in
    times.ends_count ∙ sym times.starts_count

-- the advice is written
pub returns-clause-given : goal.returns-clause-given
returns-clause-given c =
    let request = c.args.request.now in
    advice_given request.wanted request.items c.args.p.now c.args.lim c.args.moves.now c.in_ok-advice.advice c.in_ok-held.held c.in_ok-pairs.pairs c.as_slice-3.result.now
    c.as_slice.result.now c.as_slice-2.result.now c.in_ok-answer.answer c.in_ok-advice.ensures.advised
    c.in_ok-advice.ensures.steps c.in_ok-advice.ensures.tasks c.in_ok-advice.ensures.earliest
    c.in_ok-held.ensures.held c.as_slice.ensures c.as_slice-2.ensures c.in_ok-pairs.ensures c.as_slice-3.ensures c.in_ok-answer.ensures
