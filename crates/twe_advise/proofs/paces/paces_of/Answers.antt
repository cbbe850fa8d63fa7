use Rattle.std.proofs.Common.{◌∙◌}
use Rattle.std.proofs.lemmas.List.{take_all}
use Rattle.twe_advise.proofs.paces.paces_of.Goals as goal

pub returns-clause-are : goal.returns-clause-are
returns-clause-are c = record {
  workers = c.loop-count.invariant.workers ∙ take_all c.loop-count.count-index c.args.counts.now c.loop-count-test.false;
  each = c.loop-count.invariant.each;
}
