use Rattle.refusal_causes.specs.inner.Keeping.{IsFreeOf}
use Rattle.refusal_causes.proofs.Loops.{not_found, one_more, whole}
use Rattle.refusal_causes.proofs.barring.first_pair.Goals as goal

-- one more interferes with none
pub loop-need-preserved : goal.loop-need-preserved
loop-need-preserved c =
    one_more (IsFreeOf c.args.others.now) c.args.needs.now c.loop-need.need-index c.need-item.result c.loop-need-test.true c.need-item.is
    c.loop-need.invariant
    (not_found (IsFreeOf c.args.others.now c.need-item.result) c.in_ok-interfering.interfering c.in_default.is c.in_ok-interfering.ensures.none)

-- none does
pub returns-clause-none : goal.returns-clause-none
returns-clause-none c =
    whole (IsFreeOf c.args.others.now) c.args.needs.now c.loop-need.need-index c.loop-need-test.false c.loop-need.invariant
