use Rattle.std.proofs.Common.{Bool, true, false, IfNone, IfSome, sym, subst}
use Rattle.refusal_causes.specs.Ways.{IsOnNone, IsWay}
use Rattle.refusal_causes.proofs.Whole.{answer-some, answer-none}
use Rattle.refusal_causes.proofs.answer.way_to.Goals as goal

pub returns-then-out-clause-some : goal.returns-then-out-clause-some
returns-then-out-clause-some c =
    subst (λ (b : Bool). IfSome c.ways_to-found.result.out (IsWay c.args.body.now c.args.point c.args.future b)) (sym c.if-out.true)
    (answer-some c.args.body.now c.args.future c.args.point c.ways_to-found.result c.ways_to-found.ensures true)

pub returns-then-out-clause-none : goal.returns-then-out-clause-none
returns-then-out-clause-none c =
    subst (λ (b : Bool). IfNone c.ways_to-found.result.out (IsOnNone c.args.body.now c.args.point c.args.future b)) (sym c.if-out.true)
    (answer-none c.args.body.now c.args.future c.args.point c.ways_to-found.result c.ways_to-found.ensures true)

pub returns-else-out-clause-some : goal.returns-else-out-clause-some
returns-else-out-clause-some c =
    subst (λ (b : Bool). IfSome c.ways_to-found.result.not_out (IsWay c.args.body.now c.args.point c.args.future b)) (sym c.if-out.false)
    (answer-some c.args.body.now c.args.future c.args.point c.ways_to-found.result c.ways_to-found.ensures false)

pub returns-else-out-clause-none : goal.returns-else-out-clause-none
returns-else-out-clause-none c =
    subst (λ (b : Bool). IfNone c.ways_to-found.result.not_out (IsOnNone c.args.body.now c.args.point c.args.future b)) (sym c.if-out.false)
    (answer-none c.args.body.now c.args.future c.args.point c.ways_to-found.result c.ways_to-found.ensures false)
