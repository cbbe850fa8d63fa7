use Rattle.std.proofs.Common.{arith}
use Rattle.twe_lexer.proofs.Comments.{first_close, no_close}
use Rattle.twe_lexer.proofs.extent.close_at.Goals as goal

-- the bytes at at - 1 and at are `*/`, and none ended before
pub returns-then-body-at-eq47-clause-first : goal.returns-then-body-at-eq47-clause-first
returns-then-body-at-eq47-clause-first c =
    first_close c.args.body.now c.loop-at.at c.loop-at.auto.at (omega arith) c.loop-at.invariant c.if-body-at-eq42.true c.if-body-at-eq47.true

pub returns-clause-none : goal.returns-clause-none
returns-clause-none c = no_close c.args.body.now c.loop-at.at (omega arith) c.loop-at.invariant
