use Rattle.std.proofs.Common.{◌≡◌, map, take}
use Rattle.span_profile.specs.declared.heaviest_chain.top.Best.{Best}
use Rattle.span_profile.proofs.heaviest_chain.chains.before_of.Given as goal

-- those up to here are there
abbrev pub invariant-loop-best : goal.invariant-loop-best
invariant-loop-best l = l.before ≡ map (λ (best : Best). best.previous) (take l.best-index l.bests)
