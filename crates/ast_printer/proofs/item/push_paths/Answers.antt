use Rattle.std.proofs.Common.{◌≡◌, ◌++◌, false, subst}
use Rattle.std.specs.Prelude.{OnOk}
use Rattle.ast_printer.specs.Text.{text_of}
use Rattle.ast_printer.proofs.Listed.{listed_paths}
use Rattle.ast_printer.proofs.item.push_paths.Goals as goal

pub returns : goal.returns
returns c = subst (λ tokens. OnOk c.push_list.result (c.push_list.new.text ≡ c.args.text.now ++ text_of tokens)) (listed_paths false c.args.paths.now) c.push_list.ensures
