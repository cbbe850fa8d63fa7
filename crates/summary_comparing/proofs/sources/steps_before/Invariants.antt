use Rattle.std.proofs.Common.{◌≡◌, ◌+◌, drop}
use Rattle.summary_comparing.specs.inner.Sources.{steps_before}
use Rattle.summary_comparing.proofs.sources.steps_before.Given as goal

-- those before it in what is left, and those that were passed
abbrev pub invariant-loop-at : goal.invariant-loop-at
invariant-loop-at l =
    l.at + steps_before l.summaries l.params l.steps (drop l.at l.numbers) l.effect
    ≡ steps_before l.summaries l.params l.steps l.numbers l.effect
