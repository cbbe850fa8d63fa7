use Rattle.std.proofs.Common.{sym, subst}
use Rattle.twe_batch.specs.Words.{IsBatchMeaning}
use Rattle.twe_batch.proofs.Named.{in_means}
use Rattle.twe_batch.proofs.words.job_of.Goals as goal

pub returns : goal.returns
returns c = subst (IsBatchMeaning c.args.words.now) (sym c.job_in.ensures) (in_means c.args.words.now)
