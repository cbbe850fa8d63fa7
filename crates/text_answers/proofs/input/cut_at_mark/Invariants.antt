use Rattle.std.proofs.Common.{◌-◌, length}
use Rattle.text_answers.proofs.Cuts.{IsPassed}
use Rattle.text_answers.proofs.input.cut_at_mark.Given as goal

abbrev pub invariant-loop-at : goal.invariant-loop-at
invariant-loop-at l = IsPassed l.text l.at

abbrev pub decreases-loop-at : goal.decreases-loop-at
decreases-loop-at l = length l.text - l.at
