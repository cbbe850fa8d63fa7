use Rattle.std.proofs.Common.{◌≤◌, length, arith}
use Rattle.summary_comparing.proofs.Chained.{called-within}
use Rattle.summary_comparing.proofs.chain.called_chain.Goals as goal

-- the method is there
pub returns-in-None : goal.returns-in-None
returns-in-None c =
    let past : length c.args.summaries.now ≤ c.args.method = c.in-None.ensures.lookup.3 in
    let within = called-within c.args.params c.args.args.now c.args.summaries.now c.args.method c.args.effect.now c.requires.there in
    absurd (omega (arith, past, within))
