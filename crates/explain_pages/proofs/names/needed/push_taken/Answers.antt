use Rattle.std.specs.Prelude.{codes}
use Rattle.std.proofs.lemmas.Result.{on_ok_weaker}
use Rattle.explain_pages.specs.names.Needed.{binding_words}
use Rattle.explain_pages.proofs.Appended.{then_one}
use Rattle.explain_pages.proofs.names.needed.push_taken.Goals as goal

-- one piece after the other
pub returns : goal.returns
returns c =
    on_ok_weaker c.push_binding.result
    (then_one c.args.text.now (codes "needs a new name, and this is ") (binding_words c.args.found) c.push_all.new.self c.push_binding.new.text
    c.in_ok-push_all.ensures.ok)
    c.push_binding.ensures
