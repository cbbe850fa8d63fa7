use Rattle.std.proofs.Common.{◌≡◌, ◌+◌, drop}
use Rattle.summary_texts.specs.Order.{place_in}
use Rattle.summary_texts.proofs.order.place_in.Given as goal

-- the place among what is left, and those before it
abbrev pub invariant-loop-at : goal.invariant-loop-at
invariant-loop-at l = l.at + place_in (drop l.at l.paths) l.path ≡ place_in l.paths l.path
