-- The solid prefix of the other is a prefix of the whole solid path.
use Rattle.effect_tree.proofs.PlaceLemmas.{place-solid}
use Rattle.effect_tree.proofs.laws.what_meets_a_solid_path_is_placed_above.Goals as goal

pub returns : goal.returns
returns c = place-solid
