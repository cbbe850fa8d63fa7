use Rattle.std.proofs.Common.{◌≡◌, List, subst}
use Rattle.std.proofs.lemmas.List.{take_all}
use Rattle.effect_check.specs.declared.act.Act.{Act}
use Rattle.refusal_causes.specs.inner.Listed.{makes_of}
use Rattle.refusal_causes.proofs.Kept.{makes_more}
use Rattle.refusal_causes.proofs.group.makes_of.Goals as goal

-- one act more
pub loop-act-preserved : goal.loop-act-preserved
loop-act-preserved c =
    makes_more c.args.points.now.first c.args.acts.now c.loop-act.act-index c.act-item.result c.loop-act-test.true c.act-item.is
    c.loop-act.makes c.push_some.new.acts c.in_ok-copy.copy c.loop-act.invariant c.in_ok-copy.ensures c.in_ok-push_some.ensures

-- all acts
pub returns : goal.returns
returns c =
    subst (λ (xs : List Act). c.loop-act.makes ≡ makes_of c.args.points.now.first xs)
    (take_all c.loop-act.act-index c.args.acts.now c.loop-act-test.false) c.loop-act.invariant
