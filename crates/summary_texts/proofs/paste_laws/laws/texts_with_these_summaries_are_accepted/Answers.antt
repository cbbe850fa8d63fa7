use Rattle.summary_texts.proofs.paste_laws.Whole.{rules-kept}
use Rattle.summary_texts.proofs.paste_laws.laws.texts_with_these_summaries_are_accepted.Goals as goal

pub returns : goal.returns
returns c p q summaries text long passes pasted meaning = record { meant = meaning; keeps = rules-kept summaries p q pasted long passes }
