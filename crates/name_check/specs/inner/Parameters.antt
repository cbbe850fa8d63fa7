-- The name of a parameter with its binding.
use Rattle.std.specs.Prelude.{ℕ, List, true}
use Rattle.twe_ast.specs.declared.stmt.LocalType.TheVariants as types
use Rattle.name_check.specs.declared.binding.Local.TheVariants as local_kinds
use Rattle.name_check.specs.declared.scope.LocalName.{LocalName}

-- a parameter with its number: an `int` that is never assigned
abbrev pub parameter : List ℕ → ℕ → LocalName
parameter text number = record { text = text; local = local_kinds.Variable number types.Int true }
