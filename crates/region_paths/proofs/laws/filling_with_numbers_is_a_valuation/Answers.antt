use Rattle.region_paths.proofs.Numbers.{fill-literals}
use Rattle.region_paths.proofs.laws.filling_with_numbers_is_a_valuation.Goals as goal

pub returns : goal.returns
returns c = fill-literals
