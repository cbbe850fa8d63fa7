use Rattle.std.proofs.Common.{length}
use Rattle.summary_texts.specs.inner.Steps.{HasTaken}
use Rattle.summary_texts.proofs.written_text.write_summaries.Given as goal

abbrev pub invariant-loop-rest : goal.invariant-loop-rest
invariant-loop-rest l = HasTaken l.news l.text l.rest l.writer

abbrev pub decreases-loop-rest : goal.decreases-loop-rest
decreases-loop-rest l = length l.rest
