-- How the tree records what a clause declares and which call waits.
use Rattle.std.specs.Prelude.{Bool, true, false}
use Rattle.twe_parser.specs.declared.symbol.Access.{Access}
use Rattle.twe_parser.specs.declared.symbol.Access.TheVariants as accesses
use Rattle.twe_parser.specs.declared.symbol.WaitKind.{WaitKind}
use Rattle.twe_parser.specs.declared.symbol.WaitKind.TheVariants as waits

-- the clause declares writes
abbrev pub is_write : Access → Bool
is_write accesses.Reads = false
is_write accesses.Writes = true

-- the wait is a `join`, and not a `getValue`
abbrev pub is_join : WaitKind → Bool
is_join waits.GetValue = false
is_join waits.Join = true
