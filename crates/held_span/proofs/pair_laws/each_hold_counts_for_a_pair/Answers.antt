use Rattle.held_span.proofs.Counting.{counts}
use Rattle.held_span.proofs.pair_laws.each_hold_counts_for_a_pair.Goals as goal

pub returns : goal.returns
returns c = λ p well lim st reached hold rows.
    counts p well lim st reached hold rows.first rows.second rows.at_first rows.at_second rows.interfere
