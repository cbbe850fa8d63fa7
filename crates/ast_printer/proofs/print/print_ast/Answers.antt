use Rattle.std.proofs.Common.{◌≡◌, ℕ, List, ◌++◌, sym, ap, ◌∙◌, subst}
use Rattle.ast_printer.specs.Text.{text_of}
use Rattle.ast_printer.specs.ItemTokens.{items_tokens, printed_tokens}
use Rattle.ast_printer.specs.ParsesAgain.{ParsesAgain}
use Rattle.ast_printer.proofs.ParsedAgain.{parses_again}
use Rattle.ast_printer.proofs.print.print_ast.Goals as goal

pub returns-clause-again : goal.returns-clause-again
returns-clause-again c source is =
    let text_is : c.push_items.new.text ≡ printed_tokens c.args.ast.now =
    c.in_ok-push_items.ensures ∙ ap (λ front. front ++ text_of (items_tokens c.as_slice.result.now)) c.new-text.ensures ∙ ap (λ items. text_of (items_tokens items)) c.as_slice.ensures in
    subst (λ (text : List ℕ). ParsesAgain text c.args.ast.now) (sym text_is) (parses_again source c.args.ast.now is)
