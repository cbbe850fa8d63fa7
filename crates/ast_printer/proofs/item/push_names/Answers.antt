use Rattle.std.proofs.Common.{◌≡◌, ◌++◌, false, subst}
use Rattle.std.specs.Prelude.{OnOk}
use Rattle.ast_printer.specs.Text.{text_of}
use Rattle.ast_printer.proofs.Listed.{listed_names}
use Rattle.ast_printer.proofs.item.push_names.Goals as goal

pub returns : goal.returns
returns c = subst (λ tokens. OnOk c.push_list.result (c.push_list.new.text ≡ c.args.text.now ++ text_of tokens)) (listed_names false c.args.names.now) c.push_list.ensures
