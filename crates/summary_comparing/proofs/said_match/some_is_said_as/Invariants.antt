use Rattle.std.proofs.Common.{◌≡◌, drop, map}
use Rattle.effect_sets.specs.Filled.{fill_effect}
use Rattle.summary_comparing.specs.Needed.{said_effect}
use Rattle.summary_comparing.specs.inner.Sources.{has_effect}
use Rattle.summary_comparing.proofs.said_match.some_is_said_as.Given as goal

-- one of those that are left is, if one of all is
abbrev pub invariant-loop-its : goal.invariant-loop-its
invariant-loop-its l =
    has_effect (map (said_effect l.params) (map (fill_effect l.args) (drop l.its-index l.effects))) l.effect
    ≡ has_effect (map (said_effect l.params) (map (fill_effect l.args) l.effects)) l.effect
