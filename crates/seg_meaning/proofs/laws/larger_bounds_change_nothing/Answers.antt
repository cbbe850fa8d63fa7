use Rattle.seg_meaning.proofs.Bounds.{larger_bounds}
use Rattle.seg_meaning.proofs.laws.larger_bounds_change_nothing.Goals as goal

pub returns : goal.returns
returns c = larger_bounds
