use Rattle.region_paths.specs.Filled.{solid_prefix}
use Rattle.twe_machine.proofs.enabled_tasks.EnabledTasks.drop_at.Goals as goal

pub returns-then-effect-clause-kept : goal.returns-then-effect-clause-kept
returns-then-effect-clause-kept c = λ s e has entered. record {
  reads = entered.reads;
  writes = λ write. c.drop_over.ensures.kept s (solid_prefix e.path) has (entered.writes write);
}

pub returns-clause-kept : goal.returns-clause-kept
returns-clause-kept c = λ s e has entered. record {
  reads = λ read. c.drop_over-2.ensures.kept s (solid_prefix e.path) has (entered.reads read);
  writes = entered.writes;
}
