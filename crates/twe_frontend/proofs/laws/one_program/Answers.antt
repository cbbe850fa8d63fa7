use Rattle.twe_frontend.proofs.OneAnswer.{same_program}
use Rattle.twe_frontend.proofs.laws.one_program.Goals as goal

pub returns : goal.returns
returns c text p other accepted again = same_program c.one_tree.ensures text p other accepted.meant again.meant
