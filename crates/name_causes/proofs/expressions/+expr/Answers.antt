use Rattle.std.proofs.Common.{◌≡◌, ◌+◌, ◌++◌, ◌&&◌, List, drop, Some, sym, ap, ◌∙◌, subst}
use Rattle.twe_ast.specs.Expression.{Expression, Arguments, argument}
use Rattle.twe_ast.specs.declared.stmt.LocalType.TheVariants.{Int}
use Rattle.twe_ast.specs.inner.ExpressionView.{arguments_of}
use Rattle.name_check.specs.Asks.{asks_of, asks_of_all}
use Rattle.name_check.specs.Types.{are_ints, same_type, type_of}
use Rattle.name_check.proofs.Arguments.{next_argument}
use Rattle.name_check.proofs.FirstFailures.{both_first}
use Rattle.name_causes.specs.Needs.{needs_of_asks}
use Rattle.name_causes.proofs.Listing.{one_more}
use Rattle.name_causes.proofs.expressions.+expr.Goals as goal

-- one argument more
pub add_arguments-loop-arg-preserved : goal.add_arguments-loop-arg-preserved
add_arguments-loop-arg-preserved t c =
    let globals = c.args.globals.now in
    let locals = c.args.locals.now in
    let items : List Expression = c.as_slice-arg-items.result.now in
    let i = c.loop-arg.arg-index in
    let arg : Expression = c.arg-item.result in
    let rest : Arguments = arguments_of (drop (i + 1) items) in
    let next : arguments_of (drop i items) ≡ argument arg rest = next_argument items i arg c.loop-arg-test.true (sym c.arg-item.is) in
    let so_far : (c.loop-arg.numbers && (same_type (type_of globals locals arg) (Some Int) && are_ints globals locals rest)) ≡ are_ints globals locals c.args.args.now
    = subst (λ xs. (c.loop-arg.numbers && are_ints globals locals xs) ≡ are_ints globals locals c.args.args.now) next c.loop-arg.invariant.numbers in
    let all = c.args.needs.now ++ needs_of_asks globals locals c.args.returns (asks_of_all globals locals c.args.args.now) in
    let groups = both_first c.loop-arg.numbers (same_type (type_of globals locals arg) (Some Int)) (are_ints globals locals rest) in
    record {
      numbers = ap (λ b. b && are_ints globals locals rest)
          (c.are_numbers-numbers.ensures ∙ ap (λ type. c.loop-arg.numbers && same_type type (Some Int)) c.in_ok-found.ensures.found) ∙ (sym groups ∙ so_far);
      listed = one_more globals locals c.args.returns c.loop-arg.needs c.add_expression.new.needs all (asks_of globals locals (Some Int) arg) (asks_of_all globals locals rest)
          c.in_ok-found.ensures.listed
          (subst (λ xs. c.loop-arg.needs ++ needs_of_asks globals locals c.args.returns (asks_of_all globals locals xs) ≡ all) next c.loop-arg.invariant.listed);
    }
