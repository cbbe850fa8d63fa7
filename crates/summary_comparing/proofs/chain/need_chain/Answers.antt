use Rattle.std.proofs.Common.{length, refl, arith}
use Rattle.std.proofs.lemmas.Option.{slice_get_read}
use Rattle.summary_comparing.proofs.Chained.{number-needs, number-within}
use Rattle.summary_comparing.proofs.chain.need_chain.Goals as goal

-- some step needs it
pub returns-in-None : goal.returns-in-None
returns-in-None c =
    let within = number-within c.args.p.now c.args.decl.now c.args.effect.now c.args.summaries.now c.args.steps.now c.args.numbers.now
    c.requires.steps c.requires.each c.requires.needed c.in_ok-at.at c.in_ok-at.ensures in
    let past = c.in-None.ensures.lookup.3 in
    absurd (omega (arith, within, past))

-- the step that was found needs it
pub numbered_chain-requires-clause-there : goal.numbered_chain-requires-clause-there
numbered_chain-requires-clause-there c =
    let numbers = c.args.numbers.now in
    let at = c.in_ok-at.at in
    let number = c.in-Some.number.now in
    let look = c.in-Some.ensures.lookup in
    number-needs c.args.p.now c.args.decl.now c.args.effect.now c.args.summaries.now c.args.steps.now numbers
    c.requires.steps c.requires.each c.requires.needed at number c.in_ok-at.ensures
    (slice_get_read numbers (length numbers) at number refl look.3.0 look.1)
