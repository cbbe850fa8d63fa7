use Rattle.std.proofs.Common.{◌≡◌, None, fold, take}
use Rattle.span_profile.specs.heaviest_chain.inner.Fronts.{front_at}
use Rattle.span_profile.specs.heaviest_chain.inner.Tops.{higher}
use Rattle.span_profile.proofs.heaviest_chain.fronts.Fronts.highest.Given as goal

-- the highest of the nodes that gave one of the keys up to here
abbrev pub invariant-loop-key : goal.invariant-loop-key
invariant-loop-key l = l.top ≡ fold (λ top key. higher top (front_at l.self key)) None (take l.key-index l.keys)
