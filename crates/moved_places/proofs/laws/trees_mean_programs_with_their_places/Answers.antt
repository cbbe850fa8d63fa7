use Rattle.moved_places.proofs.Meanings.{moved-means}
use Rattle.moved_places.proofs.laws.trees_mean_programs_with_their_places.Goals as goal

pub returns : goal.returns
returns c to tree = moved-means to tree
