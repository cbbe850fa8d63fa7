use Rattle.std.proofs.Common.{◌++◌, ℕ, ap, ◌∙◌}
use Rattle.std.proofs.lemmas.Result.{on_ok_weaker}
use Rattle.twe_advise.specs.Texts.{number_column}
use Rattle.twe_advise.proofs.text.push_small_column.Goals as goal

pub returns : goal.returns
returns c =
    on_ok_weaker c.push_column.result (λ last. last ∙ ap (λ (n : ℕ). c.args.text.now ++ number_column n) c.from.ensures)
    c.push_column.ensures
