use Rattle.std.proofs.Common.{◌≡◌, min, take}
use Rattle.twe_lexer.specs.Kinds.{number_of_kind}
use Rattle.twe_lexer.proofs.literal.literal_value.Given as goal

abbrev pub invariant-loop-digit : goal.invariant-loop-digit
invariant-loop-digit l = l.value ≡ min (number_of_kind (take l.digit-index l.digits)) 2147483649
