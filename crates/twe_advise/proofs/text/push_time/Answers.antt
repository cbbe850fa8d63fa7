use Rattle.std.proofs.Common.{◌++◌, ℕ, ap, ◌∙◌}
use Rattle.std.proofs.lemmas.Result.{on_ok_weaker}
use Rattle.schedules.specs.Schedules.{least_time}
use Rattle.twe_advise.specs.Paces.{shown_time}
use Rattle.twe_advise.specs.Texts.{number_column, speed_up_end}
use Rattle.twe_advise.proofs.Pieces.{four_left}
use Rattle.twe_advise.proofs.text.push_time.Goals as goal

pub returns : goal.returns
returns c =
    let work = c.args.work in
    let pace = c.args.pace in
    on_ok_weaker c.push_speed_up.result
    (λ last.
    four_left c.args.text.now (number_column pace.workers) (number_column (least_time work c.args.span pace.workers)) (number_column (shown_time work pace.time))
    (speed_up_end work (shown_time work pace.held))
    c.push_small_column.new.text c.push_small_column-2.new.text c.push_column.new.text c.push_speed_up.new.text c.in_ok-push_small_column.ensures
    (c.in_ok-push_small_column-2.ensures ∙ ap (λ (n : ℕ). c.push_small_column.new.text ++ number_column n) c.least_time.ensures)
    (c.in_ok-push_column.ensures ∙ ap (λ (n : ℕ). c.push_small_column-2.new.text ++ number_column n) c.shown_time.ensures)
    (last ∙ ap (λ (n : ℕ). c.push_column.new.text ++ speed_up_end work n) c.shown_time-2.ensures))
    c.push_speed_up.ensures
