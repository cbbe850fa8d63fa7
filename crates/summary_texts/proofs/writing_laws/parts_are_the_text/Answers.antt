use Rattle.summary_texts.proofs.Whole.{whole_text, kept_text}
use Rattle.summary_texts.proofs.writing_laws.parts_are_the_text.Goals as goal

pub returns-clause-whole : goal.returns-clause-whole
returns-clause-whole c = whole_text

pub returns-clause-kept : goal.returns-clause-kept
returns-clause-kept c = kept_text
