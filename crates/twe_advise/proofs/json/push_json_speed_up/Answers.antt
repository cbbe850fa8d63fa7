use Rattle.std.proofs.Common.{◌++◌, ℕ, ap, ◌∙◌}
use Rattle.std.specs.Prelude.{codes}
use Rattle.std.proofs.lemmas.Result.{on_ok_weaker}
use Rattle.twe_advise.specs.Paces.{speed_up}
use Rattle.twe_advise.specs.Texts.{hundredths_text, word_number}
use Rattle.twe_advise.proofs.Pieces.{four_right}
use Rattle.twe_advise.proofs.json.push_json_speed_up.Goals as goal

pub returns : goal.returns
returns c =
    on_ok_weaker c.push_all-2.result
    (four_right c.args.text.now (word_number (codes ",\"paced_held\":") c.args.time) (codes ",\"speed_up\":") (hundredths_text (speed_up c.args.work c.args.time)) (codes "}")
    c.push_number.new.text c.push_all.new.self c.push_hundredths.new.text c.push_all-2.new.self c.in_ok-push_number.ensures c.in_ok-push_all.ensures.ok
    (c.in_ok-push_hundredths.ensures ∙ ap (λ (n : ℕ). c.push_all.new.self ++ hundredths_text n) c.speed_up.ensures))
    c.push_all-2.ensures.ok
