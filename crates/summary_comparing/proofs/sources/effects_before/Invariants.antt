use Rattle.std.proofs.Common.{◌≡◌, ◌+◌, drop}
use Rattle.summary_comparing.specs.inner.Sources.{effects_before}
use Rattle.summary_comparing.proofs.sources.effects_before.Given as goal

-- those before it in what is left, and those that were passed
abbrev pub invariant-loop-at : goal.invariant-loop-at
invariant-loop-at l = l.at + effects_before l.params l.args (drop l.at l.effects) l.effect ≡ effects_before l.params l.args l.effects l.effect
