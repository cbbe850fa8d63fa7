use Rattle.std.proofs.Common.{◌≡◌, map, take}
use Rattle.state_copies.specs.inner.Links.{new_again}
use Rattle.state_copies.proofs.links.parents_alone.Given as goal

-- the first t were added
abbrev pub invariant-loop-t : goal.invariant-loop-t
invariant-loop-t l = l.copy ≡ map new_again (take l.t l.links)
