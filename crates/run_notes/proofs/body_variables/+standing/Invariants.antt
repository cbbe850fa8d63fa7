use Rattle.std.proofs.Common.{◌≡◌, drop}
use Rattle.twe_ast.specs.inner.ExpressionView.{arguments_of}
use Rattle.run_notes.specs.BodyVariables.{stands_in_some}
use Rattle.run_notes.proofs.body_variables.+standing.Given as goal

-- the place stands in none of the arguments up to here
abbrev pub invariant-stands_in_some-loop-expr : goal.invariant-stands_in_some-loop-expr
invariant-stands_in_some-loop-expr l = stands_in_some l.place (arguments_of (drop l.expr-index l.expr-items)) ≡ stands_in_some l.place l.args
