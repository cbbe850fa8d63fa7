use Rattle.std.proofs.Common.{◌≡◌, ◌+◌, drop}
use Rattle.summary_comparing.specs.inner.Sources.{acts_before}
use Rattle.summary_comparing.proofs.sources.acts_before.Given as goal

-- those before it in what is left, and those that were passed
abbrev pub invariant-loop-at : goal.invariant-loop-at
invariant-loop-at l = l.at + acts_before l.params (drop l.at l.acts) l.effect ≡ acts_before l.params l.acts l.effect
