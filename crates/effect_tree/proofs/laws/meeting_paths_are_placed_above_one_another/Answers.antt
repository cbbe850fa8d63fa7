-- One of the two solid prefixes is a prefix of the other.
use Rattle.effect_tree.proofs.PlaceLemmas.{place-meeting}
use Rattle.effect_tree.proofs.laws.meeting_paths_are_placed_above_one_another.Goals as goal

pub returns : goal.returns
returns c = place-meeting
