use Rattle.twe_draw.proofs.picture.HeldBars.{holds_stand}
use Rattle.twe_draw.proofs.picture.laws.a_hold_is_between_bars.Goals as goal

pub returns : goal.returns
returns c = holds_stand
