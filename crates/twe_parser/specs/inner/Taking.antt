-- One token of the parser.
use Rattle.std.specs.Prelude.{◌≡◌, true, false, None, Some}
use Rattle.twe_lexer.specs.declared.token.Token.{Token}
use Rattle.twe_parser.specs.declared.fail.ParseFail.{ParseFail}
use Rattle.twe_parser.specs.declared.fail.ParseFail.TheVariants as fails
use Rattle.twe_parser.specs.declared.fail.SRule.{SRule}
use Rattle.twe_parser.specs.declared.fail.SRule.TheVariants.{S2, S4, S5}
use Rattle.twe_parser.specs.declared.parser.Parser.{Parser}
use Rattle.twe_parser.specs.Limits.{sofar_after, is_too_large, is_too_deep}
use Rattle.twe_parser.specs.inner.Machine.{Machine, after}

-- the parser reads the token: the machine takes it, and no limit is exceeded
pub record Takes (token : Token) (old new : Parser) : Type 0 where
  pub machine : after token old.machine.stack old.machine.values ≡ Some (new.machine.stack, new.machine.values)
  pub sofar : new.sofar ≡ sofar_after old.sofar token.kind
  pub small : is_too_large old.sofar token.kind ≡ false
  pub shallow : is_too_deep old.sofar token.kind ≡ false

-- The rule that refuses the token: S2 if the machine does not take it, S4 if the machine takes it but it is too large a
-- literal, and S5 if it is one bracket or operator too many and neither S2 nor S4 refuses it.
abbrev pub RefusesBy : SRule → Token → Parser → Type 0
RefusesBy S2 token old = after token old.machine.stack old.machine.values ≡ None
RefusesBy S4 token old =
    ((next : Machine) × (after token old.machine.stack old.machine.values ≡ Some next))
    × (is_too_large old.sofar token.kind ≡ true)
RefusesBy S5 token old =
    ((next : Machine) × (after token old.machine.stack old.machine.values ≡ Some next))
    × (is_too_large old.sofar token.kind ≡ false) × (is_too_deep old.sofar token.kind ≡ true)
RefusesBy _ token old = ⊥

-- a refusal of the token: by a rule at the place of the token, or for want of memory
abbrev pub RefusesToken : ParseFail → Token → Parser → Type 0
RefusesToken (fails.Syntax rule place) token old = (place ≡ token.place) × RefusesBy rule token old
RefusesToken (fails.OutOfMemory memory) token old = Unit {0}
