use Rattle.summary_comparing.specs.inner.Differing.{HasFirst}
use Rattle.summary_comparing.proofs.differing.differing_steps.Given as goal

-- the steps so far have numbers
abbrev pub invariant-loop-number : goal.invariant-loop-number
invariant-loop-number l = HasFirst l.number l.steps l.numbers
