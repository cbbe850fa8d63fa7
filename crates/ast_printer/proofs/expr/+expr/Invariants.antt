use Rattle.std.proofs.Common.{◌≡◌, ◌++◌, ◌+◌, ◌*◌, drop, max}
use Rattle.std.specs.Prelude.{false}
use Rattle.twe_ast.specs.inner.ExpressionSize.{depth, depth_of_all}
use Rattle.twe_ast.specs.inner.ExpressionView.{arguments_of}
use Rattle.ast_printer.specs.Text.{text_of}
use Rattle.ast_printer.specs.ExpressionTokens.{arguments_tokens}
use Rattle.ast_printer.proofs.expr.+expr.Given as goal

-- what is written inside an expression is less deep
abbrev pub decreases-push_expr : goal.decreases-push_expr
decreases-push_expr l = 2 * depth l.expr.now

abbrev pub decreases-push_element : goal.decreases-push_element
decreases-push_element l = 2 * depth l.index.now + 1

abbrev pub decreases-push_grid_element : goal.decreases-push_grid_element
decreases-push_grid_element l = 2 * max (depth l.row.now) (depth l.column.now) + 1

abbrev pub decreases-push_operands : goal.decreases-push_operands
decreases-push_operands l = 2 * max (depth l.left.now) (depth l.right.now) + 1

abbrev pub decreases-push_args : goal.decreases-push_args
decreases-push_args l = 2 * depth_of_all l.args.now

-- what is written, and what is left, are all
abbrev pub invariant-push_args-loop-arg : goal.invariant-push_args-loop-arg
invariant-push_args-loop-arg l =
    l.text ++ text_of (arguments_tokens l.later (arguments_of (drop l.arg-index l.arg-items))) ≡ l.fn.text ++ text_of (arguments_tokens false l.args)
