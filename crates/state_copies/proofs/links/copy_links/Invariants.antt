use Rattle.std.proofs.Common.{◌≡◌}
use Rattle.state_copies.specs.inner.Links.{copied_to}
use Rattle.state_copies.proofs.links.copy_links.Given as goal

-- the first t are whole
abbrev pub invariant-loop-t : goal.invariant-loop-t
invariant-loop-t l = l.copy ≡ copied_to l.t l.links
