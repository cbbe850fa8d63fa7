use Rattle.std.proofs.Common.{◌≡◌, min, take}
use Rattle.command_line.specs.Numbers.{number_of_word}
use Rattle.command_line.proofs.number.number_of.Given as goal

-- what was read of the digits, or what stands for more
abbrev pub invariant-loop-digit : goal.invariant-loop-digit
invariant-loop-digit l = l.value ≡ min (number_of_word (take l.digit-index l.digits)) 10000000000
