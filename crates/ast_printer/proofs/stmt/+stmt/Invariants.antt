use Rattle.std.proofs.Common.{◌≡◌, ◌++◌, drop}
use Rattle.std.specs.Prelude.{false}
use Rattle.twe_ast.specs.inner.StatementView.{statements_of, arms_of}
use Rattle.ast_printer.specs.Text.{text_of}
use Rattle.ast_printer.specs.StatementTokens.{arms_tokens, block_tokens}
use Rattle.ast_printer.specs.BareExpression.{nowhere}
use Rattle.ast_printer.proofs.stmt.+stmt.Given as goal

-- what is written, and what is left, are all
abbrev pub invariant-push_block-loop-stmt : goal.invariant-push_block-loop-stmt
invariant-push_block-loop-stmt l =
    l.text ++ text_of (block_tokens (statements_of (drop l.stmt-index l.stmt-items) nowhere)) ≡ l.fn.text ++ text_of (block_tokens l.block)

-- the same of the arms
abbrev pub invariant-push_arms-loop-arm : goal.invariant-push_arms-loop-arm
invariant-push_arms-loop-arm l =
    l.text ++ text_of (arms_tokens l.later (arms_of (drop l.arm-index l.arm-items) l.arms-inside.last)) ≡ l.fn.text ++ text_of (arms_tokens false l.arms)
