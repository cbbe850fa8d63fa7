use Rattle.region_paths.proofs.Soundness.{inside-within}
use Rattle.region_paths.proofs.laws.inside_is_sound.Goals as goal

pub returns : goal.returns
returns c = inside-within
