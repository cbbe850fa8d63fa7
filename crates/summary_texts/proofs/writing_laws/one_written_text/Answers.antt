use Rattle.summary_texts.proofs.Whole.{one_text}
use Rattle.summary_texts.proofs.writing_laws.one_written_text.Goals as goal

pub returns : goal.returns
returns c = one_text
