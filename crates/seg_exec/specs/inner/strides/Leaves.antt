-- Expressions whose value takes no access, since they are literals, variables, or operators on these.
use Rattle.std.specs.Prelude.{ℤ, List, Option, None, Some, slice_get}
use Rattle.twe_ast.specs.declared.expr.BinOp.{BinOp}
use Rattle.twe_program.specs.Expression.{Expression, Literal, Variable, Binary}
use Rattle.seg_meaning.specs.Access.{value_in}
use Rattle.seg_meaning.specs.Arithmetic.{is_true, operated, decided}

-- the value of a literal or a variable; none of another expression
abbrev pub leaf_value : Expression → List ℤ → Option ℤ
leaf_value (Literal value) vars = Some value
leaf_value (Variable var fixed) vars = Some (value_in (slice_get vars var))
leaf_value _ vars = None

-- the value that the left operand alone decides, or else the other
abbrev pub decided_or : Option ℤ → Option ℤ → Option ℤ
decided_or (Some value) other = Some value
decided_or None other = other

-- the value of an operator on two values, if both are there; none if it divides by zero
abbrev pub value_on : BinOp → Option ℤ → Option ℤ → Option ℤ
value_on op (Some x) (Some y) = decided_or (decided op (is_true x)) (operated op x y)
value_on op (Some x) None = None
value_on op None y = None

-- the value of an operator on literals and variables; none of another expression, or if it divides by zero
abbrev pub pair_value : Expression → List ℤ → Option ℤ
pair_value (Binary op left right place) vars = value_on op (leaf_value left vars) (leaf_value right vars)
pair_value _ vars = None
