use Rattle.std.proofs.Common.{◌≡◌, List, [], ◌∷◌, ◌++◌, refl, ap, ◌∙◌}
use Rattle.twe_base.specs.declared.place.Place.{Place}
use Rattle.twe_ast.specs.Statement.{Statement}
use Rattle.twe_ast.specs.inner.StatementView.{statements_of}
use Rattle.ast_printer.specs.Text.{text_of}
use Rattle.ast_printer.specs.StatementTokens.{statement_tokens, block_tokens}
use Rattle.ast_printer.specs.BareExpression.{nowhere}
use Rattle.ast_printer.proofs.stmt.+stmt.Goals as goal

-- the words of a block don't depend on the place of its end
other_end : (items : List Statement) (one other : Place) → block_tokens (statements_of items one) ≡ block_tokens (statements_of items other)
other_end [] one other = refl
other_end (first ∷ others) one other = ap (λ words. statement_tokens first ++ words) (other_end others one other)

pub push_block-loop-stmt-init : goal.push_block-loop-stmt-init
push_block-loop-stmt-init t c =
    ap (λ words. c.args.text.now ++ text_of words)
    (other_end c.as_slice-stmt-items.result.now nowhere c.block.inside.close ∙ ap (λ items. block_tokens (statements_of items c.block.inside.close)) c.as_slice-stmt-items.ensures.value ∙ ap block_tokens c.block.view_is)
