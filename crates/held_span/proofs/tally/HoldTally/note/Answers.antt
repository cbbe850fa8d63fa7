use Rattle.std.proofs.Common.{◌∙◌, sym}
use Rattle.std.proofs.lemmas.Result.{on_ok_weaker}
use Rattle.held_span.proofs.Tallied.{tallied_more}
use Rattle.held_span.proofs.tally.HoldTally.note.Goals as goal

pub returns-in-Some-clause-tally : goal.returns-in-Some-clause-tally
returns-in-Some-clause-tally c = λ before tallied.
    on_ok_weaker c.add.result
    (λ more. tallied_more c.args.rows.now before c.args.hold.now c.args.self.now c.add.new.self c.in-Some.pair (sym c.pair_of.ensures ∙ c.in-Some.is) more tallied)
    c.add.ensures.more
