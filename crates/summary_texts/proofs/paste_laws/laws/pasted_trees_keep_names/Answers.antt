use Rattle.summary_texts.proofs.paste_laws.Whole.{tree-pasted}
use Rattle.summary_texts.proofs.paste_laws.laws.pasted_trees_keep_names.Goals as goal

pub returns : goal.returns
returns c tree summaries written keeps needs can = tree-pasted tree keeps summaries written needs can.same can.can
