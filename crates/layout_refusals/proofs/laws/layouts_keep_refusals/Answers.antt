use Rattle.layout_refusals.proofs.Layouts.{laid_refused, text_refused}
use Rattle.layout_refusals.proofs.laws.layouts_keep_refusals.Goals as goal

pub returns-clause-laid : goal.returns-clause-laid
returns-clause-laid c = laid_refused c.one_tree.ensures

pub returns-clause-text : goal.returns-clause-text
returns-clause-text c = text_refused c.one_tree.ensures
