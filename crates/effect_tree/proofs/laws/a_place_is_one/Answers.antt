-- Each of two places of a path is a prefix of the other.
use Rattle.effect_tree.proofs.PlaceLemmas.{place-one}
use Rattle.effect_tree.proofs.laws.a_place_is_one.Goals as goal

pub returns : goal.returns
returns c = place-one
