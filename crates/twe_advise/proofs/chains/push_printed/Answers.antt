use Rattle.std.specs.Prelude.{codes}
use Rattle.std.proofs.lemmas.Result.{on_ok_weaker}
use Rattle.twe_advise.specs.Chains.{after_words}
use Rattle.twe_advise.proofs.Pieces.{three_right}
use Rattle.twe_advise.proofs.chains.push_printed.Goals as goal

pub returns : goal.returns
returns c =
    on_ok_weaker c.push_after.result
    (three_right c.args.text.now (codes ", writes ") (codes "Console") (after_words c.args.before c.args.wrote) c.push_all.new.self c.push_all-2.new.self c.push_after.new.text
    c.in_ok-push_all.ensures.ok c.in_ok-push_all-2.ensures.ok)
    c.push_after.ensures
