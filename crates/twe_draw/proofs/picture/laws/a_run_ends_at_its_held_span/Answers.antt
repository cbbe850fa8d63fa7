use Rattle.twe_draw.proofs.picture.InTime.{adds_up, ends_at_span}
use Rattle.twe_draw.proofs.picture.laws.a_run_ends_at_its_held_span.Goals as goal

pub returns-clause-last : goal.returns-clause-last
returns-clause-last c = ends_at_span

pub returns-clause-sum : goal.returns-clause-sum
returns-clause-sum c = adds_up
