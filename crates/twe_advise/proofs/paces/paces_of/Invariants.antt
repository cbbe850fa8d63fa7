use Rattle.std.proofs.Common.{◌≡◌, ◌<◌, map, take}
use Rattle.std.specs.List.{All}
use Rattle.twe_advise.specs.Paces.{IsPace}
use Rattle.twe_advise.specs.declared.paces.PacedTime.{PacedTime}
use Rattle.twe_advise.proofs.paces.paces_of.Given as goal

-- those up to here are there
abbrev pub invariant-loop-count : goal.invariant-loop-count
invariant-loop-count l = record {
  workers : map (λ (pace : PacedTime). pace.workers) l.paces ≡ take l.count-index l.counts;
  each : All (IsPace l.profile.starts l.profile.ends l.held.starts l.held.ends) l.paces;
  some : All (λ (pace : PacedTime). 0 < pace.workers) l.paces;
}
