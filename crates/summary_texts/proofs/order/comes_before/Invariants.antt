use Rattle.std.proofs.Common.{◌≡◌, drop}
use Rattle.summary_texts.specs.Order.{comes_before}
use Rattle.summary_texts.proofs.order.comes_before.Given as goal

-- what is left decides
abbrev pub invariant-loop-at : goal.invariant-loop-at
invariant-loop-at l = comes_before (drop l.at l.first) (drop l.at l.second) ≡ comes_before l.first l.second
