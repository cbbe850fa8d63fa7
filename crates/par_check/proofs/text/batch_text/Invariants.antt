use Rattle.std.proofs.Common.{◌≡◌, ◌+◌, ◌++◌, drop}
use Rattle.par_check.specs.Batch.{batch_text}
use Rattle.par_check.proofs.text.batch_text.Given as goal

-- the text so far, with what is left
abbrev pub invariant-loop-at : goal.invariant-loop-at
invariant-loop-at l = l.text ++ batch_text (l.at + 1) (drop l.at l.answers) ≡ batch_text 1 l.answers
