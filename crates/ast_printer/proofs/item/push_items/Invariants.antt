use Rattle.std.proofs.Common.{◌≡◌, ◌++◌, drop}
use Rattle.ast_printer.specs.Text.{text_of}
use Rattle.ast_printer.specs.ItemTokens.{items_tokens}
use Rattle.ast_printer.proofs.item.push_items.Given as goal

-- what is written, and what is left, are all
abbrev pub invariant-loop-item : goal.invariant-loop-item
invariant-loop-item l = l.text ++ text_of (items_tokens (drop l.item-index l.items)) ≡ l.fn.text ++ text_of (items_tokens l.items)
