use Rattle.std.proofs.Common.{◌≡◌, map, take}
use Rattle.span_profile.specs.declared.heaviest_chain.top.Best.{Best}
use Rattle.span_profile.specs.heaviest_chain.inner.Tops.{start_after}
use Rattle.span_profile.proofs.heaviest_chain.chains.starts_of.Given as goal

-- the starts up to here are there
abbrev pub invariant-loop-best : goal.invariant-loop-best
invariant-loop-best l = l.starts ≡ map (λ (best : Best). start_after l.bests best.previous) (take l.best-index l.bests)
