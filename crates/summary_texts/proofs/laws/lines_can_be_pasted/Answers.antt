use Rattle.summary_texts.proofs.Blanks.{line-clauses}
use Rattle.summary_texts.proofs.SameEffects.{lines-same}
use Rattle.summary_texts.proofs.laws.lines_can_be_pasted.Goals as goal

pub returns-clause-clauses : goal.returns-clause-clauses
returns-clause-clauses c regions params summary can = line-clauses regions params summary can

pub returns-clause-effects : goal.returns-clause-effects
returns-clause-effects c p summaries least = lines-same p summaries least
