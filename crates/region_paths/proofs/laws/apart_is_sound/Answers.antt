use Rattle.region_paths.proofs.Soundness.{apart-apart}
use Rattle.region_paths.proofs.laws.apart_is_sound.Goals as goal

pub returns : goal.returns
returns c = apart-apart
