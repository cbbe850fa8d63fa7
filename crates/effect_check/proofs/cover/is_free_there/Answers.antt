use Rattle.std.proofs.Common.{◌≡◌, false, sym, ap, ◌∙◌}
use Rattle.effect_check.specs.inner.Failures.{free_by, others_of}
use Rattle.effect_check.specs.inner.Marks.{marks_of, meet}
use Rattle.effect_check.proofs.Regions.{free-unmet}
use Rattle.effect_check.proofs.cover.is_free_there.Goals as goal

pub returns-then-meet : goal.returns-then-meet
returns-then-meet c =
    c.none_bars.ensures ∙ ap (λ m. free_by c.args.futures.now c.args.point c.args.effect.now m) c.marks_of-marks.ensures

pub returns-else-meet : goal.returns-else-meet
returns-else-meet c =
    let fs = c.args.futures.now in
    let effect = c.args.effect.now in
    let unmet : meet (others_of fs effect) (marks_of effect) ≡ false =
    ap (λ m. meet m (marks_of effect)) (sym c.others_of-others.ensures)
    ∙ ap (meet c.others_of-others.result) (sym c.marks_of-marks.ensures)
    ∙ sym c.meet.ensures ∙ c.if-meet.false in
    free-unmet fs c.args.point effect c.requires unmet
