use Rattle.std.proofs.Common.{◌≡◌, ◌++◌, take}
use Rattle.std.specs.List.{filter}
use Rattle.held_span.specs.Rivals.{is_rival}
use Rattle.held_span.proofs.placed.push_rivals.Given as goal

-- those of the numbers up to here were added
abbrev pub invariant-loop-number : goal.invariant-loop-number
invariant-loop-number l = l.rivals ≡ l.initial.rivals ++ filter (is_rival l.effects l.effect) (take l.number-index l.numbers)
