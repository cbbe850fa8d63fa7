use Rattle.std.proofs.Common.{length}
use Rattle.text_pieces.specs.inner.Cutting.{HasCut}
use Rattle.text_pieces.proofs.cut.cut_text.Given as goal

abbrev pub invariant-loop-rest : goal.invariant-loop-rest
invariant-loop-rest l = HasCut l.text l.pieces l.start l.rest

abbrev pub decreases-loop-rest : goal.decreases-loop-rest
decreases-loop-rest l = length l.rest
