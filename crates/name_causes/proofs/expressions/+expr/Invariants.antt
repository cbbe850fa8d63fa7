use Rattle.std.proofs.Common.{◌≡◌, ◌&&◌, ◌++◌, ◌+◌, ◌*◌, drop, max}
use Rattle.twe_ast.specs.inner.ExpressionSize.{depth, depth_of_all}
use Rattle.twe_ast.specs.inner.ExpressionView.{arguments_of}
use Rattle.name_check.specs.Types.{are_ints}
use Rattle.name_check.specs.Asks.{asks_of_all}
use Rattle.name_causes.specs.Needs.{needs_of_asks}
use Rattle.name_causes.proofs.expressions.+expr.Given as goal

-- what is inside an expression is less deep
abbrev pub decreases-add_expression : goal.decreases-add_expression
decreases-add_expression l = 3 * depth l.expr.now + 2

abbrev pub decreases-add_inside : goal.decreases-add_inside
decreases-add_inside l = 3 * depth l.expr.now + 1

abbrev pub decreases-add_operand : goal.decreases-add_operand
decreases-add_operand l = 3 * depth l.operand.now + 3

abbrev pub decreases-add_element : goal.decreases-add_element
decreases-add_element l = 3 * depth l.index.now + 3

abbrev pub decreases-add_grid_element : goal.decreases-add_grid_element
decreases-add_grid_element l = 3 * max (depth l.row.now) (depth l.column.now) + 3

abbrev pub decreases-add_operands : goal.decreases-add_operands
decreases-add_operands l = 3 * max (depth l.left.now) (depth l.right.now) + 3

abbrev pub decreases-add_call : goal.decreases-add_call
decreases-add_call l = 3 * depth_of_all l.args.now + 3

abbrev pub decreases-add_arguments : goal.decreases-add_arguments
decreases-add_arguments l = 3 * depth_of_all l.args.now

-- the arguments so far and those that are left are all of them
abbrev pub invariant-add_arguments-loop-arg : goal.invariant-add_arguments-loop-arg
invariant-add_arguments-loop-arg l = record {
  numbers : (l.numbers && are_ints l.globals l.locals (arguments_of (drop l.arg-index l.arg-items))) ≡ are_ints l.globals l.locals l.args;
  listed : l.needs ++ needs_of_asks l.globals l.locals l.returns (asks_of_all l.globals l.locals (arguments_of (drop l.arg-index l.arg-items)))
      ≡ l.fn.needs ++ needs_of_asks l.globals l.locals l.returns (asks_of_all l.globals l.locals l.args);
}
