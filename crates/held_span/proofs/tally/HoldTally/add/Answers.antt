use Rattle.std.proofs.Common.{arith, rules}
use Rattle.held_span.proofs.Tallied.{small_more}
use Rattle.held_span.proofs.tally.HoldTally.add.Goals as goal

pub returns-clause-small : goal.returns-clause-small
returns-clause-small c = λ n small.
    small_more c.args.self.now (record { pairs = c.insert.new.self }) c.args.pair c.args.time (omega arith) (search rules) n small
