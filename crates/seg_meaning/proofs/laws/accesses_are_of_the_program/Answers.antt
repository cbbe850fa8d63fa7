use Rattle.seg_meaning.proofs.Accesses.{may_carry_out}
use Rattle.seg_meaning.proofs.laws.accesses_are_of_the_program.Goals as goal

pub returns : goal.returns
returns c = λ p frame cells well enough. may_carry_out p well cells enough frame
