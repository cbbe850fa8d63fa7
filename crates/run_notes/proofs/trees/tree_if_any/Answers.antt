use Rattle.run_notes.proofs.NoTree.{no_tree_if_refused}
use Rattle.run_notes.proofs.trees.tree_if_any.Goals as goal

-- a refused text has no tree
pub returns-in-Err-Refused : goal.returns-in-Err-Refused
returns-in-Err-Refused c =
    no_tree_if_refused c.args.text.now c.in-Err-Refused.field-0 c.in-Err-Refused.field-0-0 c.in-Err-Refused.ensures.refused c.in-Err-Refused.field-0-is
