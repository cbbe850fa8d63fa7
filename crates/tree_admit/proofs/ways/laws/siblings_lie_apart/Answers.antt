-- Two nodes right below one node that lie above one node are one.
use Rattle.tree_admit.proofs.ways.WayLemmas.{siblings}
use Rattle.tree_admit.proofs.ways.laws.siblings_lie_apart.Goals as goal

pub returns : goal.returns
returns c = λ nodes tree n c' d m p q h k. siblings nodes tree n c' d m p q h k
