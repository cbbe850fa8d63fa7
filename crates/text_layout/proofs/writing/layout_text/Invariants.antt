use Rattle.std.proofs.Common.{◌≡◌, ◌++◌, length}
use Rattle.text_layout.specs.Layout.{layout_from, layout}
use Rattle.text_layout.proofs.writing.layout_text.Given as goal

abbrev pub invariant-loop-rest : goal.invariant-loop-rest
invariant-loop-rest l = l.text ++ layout_from l.state l.rest ≡ layout l.fn.pieces

abbrev pub decreases-loop-rest : goal.decreases-loop-rest
decreases-loop-rest l = length l.rest
