use Rattle.std.proofs.Common.{◌-◌, ◌++◌, ℕ, ap, ◌∙◌}
use Rattle.std.specs.Prelude.{codes}
use Rattle.std.proofs.lemmas.Result.{on_ok_weaker}
use Rattle.twe_advise.specs.Json.{json_held}
use Rattle.twe_advise.specs.Texts.{word_number}
use Rattle.twe_advise.proofs.Pieces.{two_pieces}
use Rattle.twe_advise.proofs.json.push_json_held.Goals as goal

pub returns : goal.returns
unfolding json_held
returns c =
    on_ok_weaker c.push_small-2.result
    (λ last.
    two_pieces c.args.text.now (word_number (codes ",\"held_span\":") c.args.held) (word_number (codes ",\"held_longer_by\":") (c.args.held - c.args.span))
    c.push_small.new.text c.push_small-2.new.text c.in_ok-push_small.ensures
    (last ∙ ap (λ (n : ℕ). c.push_small.new.text ++ word_number (codes ",\"held_longer_by\":") n) c.saturating_sub.ensures))
    c.push_small-2.ensures
