use Rattle.std.proofs.Common.{◌≡◌, map, take}
use Rattle.span_profile.specs.declared.heaviest_chain.top.Best.{Best}
use Rattle.span_profile.proofs.heaviest_chain.chains.ends_of.Given as goal

-- the ends up to here are there
abbrev pub invariant-loop-best : goal.invariant-loop-best
invariant-loop-best l = l.ends ≡ map (λ (best : Best). best.weight) (take l.best-index l.bests)
