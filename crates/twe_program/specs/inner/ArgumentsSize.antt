-- Each argument is less deep than the whole list of arguments.
use Rattle.std.specs.Prelude.{◌+◌, ◌≤◌, List, [], ◌∷◌}
use Rattle.std.proofs.Common.{arith}
use Rattle.twe_program.specs.Expression.{Expression, arguments_of}
use Rattle.twe_program.specs.inner.ExpressionSize.{depth, depth_of_all}
use denote.Param.Weighed.{most}

-- the depth of each expression of a list is less than that of the list as arguments
pub most_deep : (items : List Expression) → most (λ e. depth e + 1) items ≤ depth_of_all (arguments_of items)
most_deep [] = omega arith
most_deep (first ∷ others) = omega (arith, most_deep others)
