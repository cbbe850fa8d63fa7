use Rattle.std.proofs.Common.{sym, subst}
use Rattle.effect_check.specs.declared.act.ActKind.{ActKind}
use Rattle.effect_check.specs.declared.act.ActKind.TheVariants.{Make}
use Rattle.effect_check.specs.Covered.{Does}
use Rattle.refusal_causes.specs.inner.Keeping.{AreFreeOf, BarsNone}
use Rattle.refusal_causes.proofs.Covering.{bars_none, in_range}
use Rattle.refusal_causes.proofs.Needs.{none_weaker}
use Rattle.refusal_causes.proofs.barring.bar_by.Goals as goal

-- the body has the future
pub bar_by_spawn-requires-clause-there : goal.bar_by_spawn-requires-clause-there
bar_by_spawn-requires-clause-there c =
    let p = c.args.p.now in
    let task = c.args.task.now in
    let at = c.args.act.now.point in
    let arm = c.in-Make-default-true-default-default-default-default in
    let kind : ActKind = Make arm.future arm.spawned arm.deterministic arm.effects arm.future_place arm.place in
    (in_range p task c.requires.fits at kind (subst (λ (k : ActKind). Does p task at k) arm.is c.requires.done)).1

-- a spawn that does not bar
pub returns-in-Make-default-true-default-default-default-default-clause-none :
    goal.returns-in-Make-default-true-default-default-default-default-clause-none
returns-in-Make-default-true-default-default-default-default-clause-none c =
    let task = c.args.task.now in
    let needs = c.args.needs.now in
    let arm = c.in-Make-default-true-default-default-default-default in
    none_weaker (AreFreeOf task.body c.args.point needs arm.future arm.effects) (BarsNone task c.args.point needs c.args.act.now.kind)
    (λ free. subst (λ (k : ActKind). BarsNone task c.args.point needs k) (sym arm.is)
    (bars_none task c.args.point needs arm.future arm.spawned arm.deterministic arm.effects arm.future_place arm.place free))
    c.bar_by_spawn.result c.bar_by_spawn.ensures.none
