-- Each argument has a smaller depth than all arguments together.
use Rattle.std.specs.Prelude.{◌+◌, ◌≤◌, List, [], ◌∷◌}
use Rattle.std.proofs.Common.{arith}
use Rattle.twe_ast.specs.Expression.{Expression}
use Rattle.twe_ast.specs.inner.ExpressionSize.{depth, depth_of_all}
use Rattle.twe_ast.specs.inner.ExpressionView.{arguments_of}
use denote.Param.Weighed.{most}

-- the depth of each expression of a list is less than that of the list as arguments
pub most_deep : (items : List Expression) → most (λ e. depth e + 1) items ≤ depth_of_all (arguments_of items)
most_deep [] = omega arith
most_deep (first ∷ others) = omega (arith, most_deep others)
