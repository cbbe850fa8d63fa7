use Rattle.std.proofs.Common.{◌≡◌, ◌+◌, ◌&&◌, List, drop, Some, arith, sym, subst}
use Rattle.std.proofs.lemmas.Grind.{common_steps}
use Rattle.twe_ast.specs.Expression.{Expression, Arguments, argument}
use Rattle.twe_ast.specs.declared.stmt.LocalType.TheVariants.{Int}
use Rattle.twe_ast.specs.inner.ExpressionView.{arguments_of}
use Rattle.name_check.specs.Types.{are_ints, same_type, type_of}
use Rattle.name_check.proofs.Arguments.{next_argument}
use Rattle.name_check.proofs.FirstFailures.{firsts, both_first}
use Rattle.name_check.proofs.check_expr.+expr.Goals as goal

pub check_args-loop-arg-preserved : goal.check_args-loop-arg-preserved
check_args-loop-arg-preserved t c =
    let items : List Expression = c.as_slice-arg-items.result.now in
    let i = c.loop-arg.arg-index in
    let arg : Expression = c.arg-item.result in
    let rest : Arguments = arguments_of (drop (i + 1) items) in
    let next : arguments_of (drop i items) ≡ argument arg rest = next_argument items i arg c.loop-arg-test.true (sym c.arg-item.is) in
    let so_far : (c.loop-arg.numbers && (same_type (type_of c.args.globals.now c.args.locals.now arg) (Some Int) && are_ints c.args.globals.now c.args.locals.now rest))
    ≡ are_ints c.args.globals.now c.args.locals.now c.args.args.now
    = subst (λ xs. (c.loop-arg.numbers && are_ints c.args.globals.now c.args.locals.now xs) ≡ are_ints c.args.globals.now c.args.locals.now c.args.args.now) next c.loop-arg.invariant.numbers in
    let groups = both_first c.loop-arg.numbers (same_type (type_of c.args.globals.now c.args.locals.now arg) (Some Int)) (are_ints c.args.globals.now c.args.locals.now rest) in
    record {
      numbers = cc;
      reported = grind (arith, common_steps, firsts);
    }
