-- The path of a node is longer than that of its parent.
use Rattle.tree_admit.proofs.ways.WayLemmas.{room_shrinks}
use Rattle.tree_admit.proofs.ways.laws.room_below_shrinks.Goals as goal

pub returns : goal.returns
returns c = λ nodes n c' h. room_shrinks nodes n c' h
