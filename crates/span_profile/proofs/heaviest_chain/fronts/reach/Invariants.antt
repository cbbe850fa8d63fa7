use Rattle.std.proofs.Common.{◌≡◌, ℕ, length, ◌+◌, ◌-◌}
use Rattle.span_profile.specs.heaviest_chain.inner.Fronts.{top_in}
use Rattle.span_profile.proofs.heaviest_chain.fronts.reach.Given as goal

abbrev pub invariant-reaching : goal.invariant-reaching
invariant-reaching l = (n : ℕ) → top_in l.tops n ≡ top_in l.initial.tops n

abbrev pub decreases-reaching : goal.decreases-reaching
decreases-reaching l = l.at + 1 - length l.tops
