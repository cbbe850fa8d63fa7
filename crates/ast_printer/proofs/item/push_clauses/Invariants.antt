use Rattle.std.proofs.Common.{◌≡◌, ◌++◌, drop}
use Rattle.ast_printer.specs.Text.{text_of}
use Rattle.ast_printer.specs.ItemTokens.{clauses_tokens}
use Rattle.ast_printer.proofs.item.push_clauses.Given as goal

-- what is written, and what is left, are all
abbrev pub invariant-loop-clause : goal.invariant-loop-clause
invariant-loop-clause l = l.text ++ text_of (clauses_tokens (drop l.clause-index l.clauses)) ≡ l.fn.text ++ text_of (clauses_tokens l.clauses)
