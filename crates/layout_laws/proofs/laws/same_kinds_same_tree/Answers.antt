use Rattle.layout_laws.proofs.SameTree.{same_tree}
use Rattle.layout_laws.proofs.laws.same_kinds_same_tree.Goals as goal

pub returns : goal.returns
returns c = same_tree
