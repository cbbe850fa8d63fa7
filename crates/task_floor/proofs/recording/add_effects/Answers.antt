use Rattle.std.proofs.Common.{List, take, sym, subst}
use Rattle.effect_sets.specs.declared.effects.Effect.{Effect}
use Rattle.task_floor.proofs.steps.Taken.{take_item}
use Rattle.task_floor.specs.inner.Recording.{AreRecordsOf}
use Rattle.task_floor.proofs.Gathered.{effect_added}
use Rattle.task_floor.proofs.recording.add_effects.Goals as goal

pub loop-effect-preserved : goal.loop-effect-preserved
loop-effect-preserved c =
    let before = c.loop-effect.invariant in
    let added = c.in_ok-add_record.ensures in
    let e = c.effect-item.result in
    let next =
    effect_added c.args.shape.now c.args.t (take c.loop-effect.effect-index c.args.effects.now) e added.0 added.1 before.0 before.2 c.args.records.now c.loop-effect.records c.add_record.new.records
    c.len-start.result c.len-start.ensures before.1 added.2 in (
      next.0,
      next.1,
      subst (λ (l : List Effect). AreRecordsOf c.args.shape.now c.args.t l next.0)
          (sym (take_item c.args.effects.now c.loop-effect.effect-index e c.loop-effect-test.true c.effect-item.is)) next.2,
    )
