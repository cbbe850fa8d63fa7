use Rattle.summary_texts.proofs.Causes.{read-unlike}
use Rattle.summary_texts.proofs.paste.compare_again.Goals as goal

-- it is printed otherwise
pub returns-else-branch-clause-refused : goal.returns-else-branch-clause-refused
returns-else-branch-clause-refused c =
    read-unlike c.args.pasted.now c.args.again.now.tree c.args.again.now.program c.args.written.now c.requires c.in_ok-are_alike.field-0 c.in_ok-are_alike.ensures c.if-branch.false
