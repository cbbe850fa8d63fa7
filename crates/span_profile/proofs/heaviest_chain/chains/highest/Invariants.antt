use Rattle.std.proofs.Common.{◌<◌}
use Rattle.span_profile.specs.heaviest_chain.inner.Tops.{IsTop}
use Rattle.span_profile.proofs.heaviest_chain.chains.highest.Given as goal

-- the highest of the nodes up to here
abbrev pub invariant-loop-node : goal.invariant-loop-node
invariant-loop-node l = IsTop l.bests (λ node. node < l.node) l.top
