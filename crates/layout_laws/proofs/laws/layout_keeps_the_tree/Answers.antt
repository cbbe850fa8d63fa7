use Rattle.layout_laws.proofs.KeptTree.{kept_tree}
use Rattle.layout_laws.proofs.laws.layout_keeps_the_tree.Goals as goal

pub returns : goal.returns
returns c = kept_tree
