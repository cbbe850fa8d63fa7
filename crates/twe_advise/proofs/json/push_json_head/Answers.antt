use Rattle.std.proofs.Common.{◌++◌, ℕ, ap, ◌∙◌}
use Rattle.std.specs.Prelude.{codes}
use Rattle.std.proofs.lemmas.Result.{on_ok_weaker}
use Rattle.span_profile.specs.Advice.{parallelism_of}
use Rattle.twe_advise.specs.Json.{json_head}
use Rattle.twe_advise.specs.Texts.{hundredths_text, word_number}
use Rattle.twe_advise.proofs.Pieces.{four_pieces}
use Rattle.twe_advise.proofs.json.push_json_head.Goals as goal

pub returns : goal.returns
unfolding json_head
returns c =
    on_ok_weaker c.push_hundredths.result
    (λ last.
    four_pieces c.args.text.now (word_number (codes "{\"work\":") c.args.work) (word_number (codes ",\"span\":") c.args.span) (codes ",\"parallelism\":")
    (hundredths_text (parallelism_of c.args.work c.args.span)) c.push_small.new.text c.push_small-2.new.text c.push_all.new.self c.push_hundredths.new.text
    c.in_ok-push_small.ensures c.in_ok-push_small-2.ensures c.in_ok-push_all.ensures.ok
    (last ∙ ap (λ (n : ℕ). c.push_all.new.self ++ hundredths_text n) c.parallelism_of.ensures))
    c.push_hundredths.ensures
