use Rattle.std.proofs.Common.{◌≡◌, ◌+◌, ◌-◌, ℕ, length}
use Rattle.twe_draw.specs.picture.inner.Known.{number_at}
use Rattle.twe_draw.proofs.picture.numbers.make_room.Given as goal

abbrev pub invariant-growing : goal.invariant-growing
invariant-growing l = (t : ℕ) → number_at l.numbers t ≡ number_at l.initial.numbers t

abbrev pub decreases-growing : goal.decreases-growing
decreases-growing l = l.task + 1 - length l.numbers
