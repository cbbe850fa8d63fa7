-- Blocks that return the value of an expression that calls no method at once.
use Rattle.std.specs.Prelude.{◌≡◌, ℕ, true, Some}
use Rattle.twe_program.specs.Expression.{Expression, is_plain}
use Rattle.twe_program.specs.Statement.{Return, Statements, statement}

-- these statements begin with the return of the value of this expression, which calls no method
abbrev pub ReturnsPlain : Statements → Expression → Type 0
ReturnsPlain stmts e =
    (is_plain e ≡ true) × (point : ℕ) × (others : Statements) × (stmts ≡ statement (Return point (Some e)) others)
