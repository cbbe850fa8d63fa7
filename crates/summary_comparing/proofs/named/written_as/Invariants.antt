use Rattle.std.proofs.Common.{◌≡◌, drop}
use Rattle.summary_comparing.specs.ChainTexts.{written_as}
use Rattle.summary_comparing.proofs.named.written_as.Given as goal

-- it is among what is left, or nowhere
abbrev pub invariant-loop-item : goal.invariant-loop-item
invariant-loop-item l = written_as l.name (drop l.item-index l.items) ≡ written_as l.name l.items
