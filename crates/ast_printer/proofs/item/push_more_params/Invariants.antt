use Rattle.std.proofs.Common.{◌≡◌, ◌++◌, drop}
use Rattle.std.specs.Prelude.{false}
use Rattle.ast_printer.specs.Text.{text_of}
use Rattle.ast_printer.specs.ItemTokens.{params_tokens}
use Rattle.ast_printer.proofs.item.push_more_params.Given as goal

-- what is written, and what is left, are all
abbrev pub invariant-loop-param : goal.invariant-loop-param
invariant-loop-param l = l.text ++ text_of (params_tokens l.later (drop l.param-index l.params)) ≡ l.fn.text ++ text_of (params_tokens false l.params)
