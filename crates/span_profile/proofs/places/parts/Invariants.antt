use Rattle.std.proofs.Common.{◌≡◌, map, take}
use Rattle.isolation_laws.specs.soundness.CellPaths.{concrete}
use Rattle.span_profile.specs.inner.Numbering.{part_of}
use Rattle.span_profile.proofs.places.parts.Given as goal

-- the parts of the elements up to here
abbrev pub invariant-loop-elem : goal.invariant-loop-elem
invariant-loop-elem l = l.parts ≡ map (λ e. part_of (concrete e)) (take l.elem-index l.elems)
