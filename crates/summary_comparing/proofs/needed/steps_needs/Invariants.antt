use Rattle.std.proofs.Common.{◌≡◌, ◌++◌, drop}
use Rattle.std.specs.List.{flat_map}
use Rattle.summary_comparing.specs.inner.Differing.{numbered_needs}
use Rattle.summary_comparing.proofs.needed.steps_needs.Given as goal

-- the needs so far and those of what is left are those of all
abbrev pub invariant-loop-number : goal.invariant-loop-number
invariant-loop-number l =
    l.needs ++ flat_map (numbered_needs l.summaries l.params l.steps) (drop l.number-index l.numbers)
    ≡ flat_map (numbered_needs l.summaries l.params l.steps) l.numbers
