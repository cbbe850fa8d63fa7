use Rattle.twe_machine.proofs.enabled_tasks.EnabledTasks.drop_over.Goals as goal

pub loop-effect-preserved : goal.loop-effect-preserved
loop-effect-preserved c = record {
  kept = λ s e has h. c.drop_at.ensures.kept s e has (c.loop-effect.invariant.kept s e has h);
  decided = λ old. c.drop_at.ensures.decided (c.loop-effect.invariant.decided old);
}
