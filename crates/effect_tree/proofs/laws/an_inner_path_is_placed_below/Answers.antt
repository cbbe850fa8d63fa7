-- The solid prefix of the outer path is a prefix of that of the inner one.
use Rattle.effect_tree.proofs.PlaceLemmas.{place-inside}
use Rattle.effect_tree.proofs.laws.an_inner_path_is_placed_below.Goals as goal

pub returns : goal.returns
returns c = place-inside
