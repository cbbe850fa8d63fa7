use Rattle.refusal_causes.specs.inner.Keeping.{IsNoBar}
use Rattle.refusal_causes.proofs.Loops.{not_found, one_more, whole}
use Rattle.refusal_causes.proofs.barring.bar_among.Goals as goal

-- one act more bars none
pub loop-act-preserved : goal.loop-act-preserved
loop-act-preserved c =
    let P = IsNoBar c.args.task.now c.args.point c.args.needs.now in
    record {
      facts = c.in_ok-follow_spawn.ensures.facts;
      none = one_more P c.args.acts.now c.loop-act.act-index c.act-item.result c.loop-act-test.true c.act-item.is c.loop-act.invariant.none
          (not_found (P c.act-item.result) c.in_ok-found.found c.in_default.is c.in_ok-found.ensures.none);
    }

-- none bars one
pub returns-clause-none : goal.returns-clause-none
returns-clause-none c =
    whole (IsNoBar c.args.task.now c.args.point c.args.needs.now) c.args.acts.now c.loop-act.act-index c.loop-act-test.false c.loop-act.invariant.none
