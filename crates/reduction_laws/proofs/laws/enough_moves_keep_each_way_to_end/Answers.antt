use Rattle.reduction_laws.proofs.EnoughMoves.{enough_moves}
use Rattle.reduction_laws.proofs.laws.enough_moves_keep_each_way_to_end.Goals as goal

pub returns : goal.returns
returns c = enough_moves
