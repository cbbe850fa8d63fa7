use Rattle.std.proofs.Common.{◌≡◌, ◌&&◌, ◌+◌, ◌*◌, drop, max}
use Rattle.twe_ast.specs.inner.ExpressionSize.{depth, depth_of_all}
use Rattle.twe_ast.specs.inner.ExpressionView.{arguments_of}
use Rattle.name_check.specs.Types.{are_ints}
use Rattle.name_check.specs.Asks.{asks_of_all}
use Rattle.name_check.specs.inner.Failures.{first_of_asks}
use Rattle.name_check.proofs.check_expr.+expr.Given as goal

-- what is judged inside an expression is less deep
abbrev pub decreases-check_expr : goal.decreases-check_expr
decreases-check_expr l = 3 * depth l.expr.now + 2

abbrev pub decreases-check_inside : goal.decreases-check_inside
decreases-check_inside l = 3 * depth l.expr.now + 1

abbrev pub decreases-check_element : goal.decreases-check_element
decreases-check_element l = 3 * depth l.index.now + 3

abbrev pub decreases-check_grid_element : goal.decreases-check_grid_element
decreases-check_grid_element l = 3 * max (depth l.row.now) (depth l.column.now) + 3

abbrev pub decreases-check_operands : goal.decreases-check_operands
decreases-check_operands l = 3 * max (depth l.left.now) (depth l.right.now) + 3

abbrev pub decreases-check_call : goal.decreases-check_call
decreases-check_call l = 3 * depth_of_all l.args.now + 3

abbrev pub decreases-check_args : goal.decreases-check_args
decreases-check_args l = 3 * depth_of_all l.args.now

-- the arguments so far and those that are left are all of them
abbrev pub invariant-check_args-loop-arg : goal.invariant-check_args-loop-arg
invariant-check_args-loop-arg l = record {
  numbers : (l.numbers && are_ints l.globals l.locals (arguments_of (drop l.arg-index l.arg-items))) ≡ are_ints l.globals l.locals l.args;
  reported : first_of_asks l.globals l.locals l.first (asks_of_all l.globals l.locals (arguments_of (drop l.arg-index l.arg-items)))
      ≡ first_of_asks l.globals l.locals l.fn.first (asks_of_all l.globals l.locals l.args);
}
