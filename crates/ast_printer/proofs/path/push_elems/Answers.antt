use Rattle.std.proofs.Common.{◌≡◌, ◌++◌, subst}
use Rattle.std.specs.Prelude.{OnOk}
use Rattle.ast_printer.specs.Text.{text_of}
use Rattle.ast_printer.proofs.Listed.{listed_elems}
use Rattle.ast_printer.proofs.path.push_elems.Goals as goal

pub returns : goal.returns
returns c = subst (λ tokens. OnOk c.push_list.result (c.push_list.new.text ≡ c.args.text.now ++ text_of tokens)) (listed_elems c.args.rooted c.args.elems.now) c.push_list.ensures
