use Rattle.summary_texts.proofs.OneLine.{summary-ascends}
use Rattle.summary_texts.proofs.laws.written_paths_ascend.Goals as goal

pub returns : goal.returns
returns c = summary-ascends
