use Rattle.std.proofs.Common.{rules}
use Rattle.ast_printer.proofs.expr.+expr.Goals as goal

pub push_expr-returns-in-Bin : goal.push_expr-returns-in-Bin
push_expr-returns-in-Bin t c =
    let written = c.push_operands.ensures c.in-Bin.place in
    search (rules, written)
