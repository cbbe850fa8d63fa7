use Rattle.region_paths.proofs.Outside.{within-inside}
use Rattle.region_paths.proofs.Meeting.{not_apart-meet, sets_apart-apart}
use Rattle.region_paths.proofs.laws.filled_tests_are_exact.Goals as goal

pub returns : goal.returns
returns c = record {
  within = λ p q p_filled q_filled. within-inside p q p_filled;
  disjoint = sets_apart-apart;
  meet = not_apart-meet;
}
