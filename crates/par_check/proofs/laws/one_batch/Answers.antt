use Rattle.par_check.specs.Batch.{command_of}
use Rattle.par_check.proofs.OneBatch.{no-workers, one-text}
use Rattle.par_check.proofs.laws.one_batch.Goals as goal

pub returns : goal.returns
returns c job batch one other h k =
    one-text job (λ input answer also has too. c.one_answer_by_one_worker_at_most.ensures.one (command_of job) input answer also (no-workers job) has too) batch one other h k
