use Rattle.region_paths.proofs.Numbers.{fill-within}
use Rattle.region_paths.proofs.laws.filling_is_sound.Goals as goal

pub returns : goal.returns
returns c = fill-within
