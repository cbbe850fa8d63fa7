use Rattle.std.proofs.Common.{◌++◌, ℕ, ap, ◌∙◌}
use Rattle.std.specs.Prelude.{codes}
use Rattle.std.proofs.lemmas.Result.{on_ok_weaker}
use Rattle.schedules.specs.Schedules.{least_time}
use Rattle.twe_advise.specs.Json.{json_speed_up, json_time}
use Rattle.twe_advise.specs.Paces.{shown_time}
use Rattle.twe_advise.specs.Texts.{word_number}
use Rattle.twe_advise.proofs.Pieces.{four_left}
use Rattle.twe_advise.proofs.json.push_json_time.Goals as goal

pub returns : goal.returns
unfolding json_time
returns c =
    let work = c.args.work in
    let pace = c.args.pace in
    on_ok_weaker c.push_json_speed_up.result
    (λ last.
    four_left c.args.text.now (word_number (codes "{\"workers\":") pace.workers) (word_number (codes ",\"least\":") (least_time work c.args.span pace.workers))
    (word_number (codes ",\"paced\":") (shown_time work pace.time)) (json_speed_up work (shown_time work pace.held))
    c.push_small.new.text c.push_small-2.new.text c.push_number.new.text c.push_json_speed_up.new.text c.in_ok-push_small.ensures
    (c.in_ok-push_small-2.ensures ∙ ap (λ (n : ℕ). c.push_small.new.text ++ word_number (codes ",\"least\":") n) c.least_time.ensures)
    (c.in_ok-push_number.ensures ∙ ap (λ (n : ℕ). c.push_small-2.new.text ++ word_number (codes ",\"paced\":") n) c.shown_time.ensures)
    (last ∙ ap (λ (n : ℕ). c.push_number.new.text ++ json_speed_up work n) c.shown_time-2.ensures))
    c.push_json_speed_up.ensures
