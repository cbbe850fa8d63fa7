use Rattle.std.proofs.Common.{◌≡◌, ◌++◌, drop}
use Rattle.std.specs.List.{flat_map}
use Rattle.summary_comparing.specs.Needed.{said_spawn}
use Rattle.summary_comparing.proofs.needed.spawns_needs.Given as goal

-- the needs so far and those of what is left are those of all
abbrev pub invariant-loop-act : goal.invariant-loop-act
invariant-loop-act l = l.needs ++ flat_map (said_spawn l.params) (drop l.act-index l.acts) ≡ flat_map (said_spawn l.params) l.acts
