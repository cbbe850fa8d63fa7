use Rattle.std.proofs.Common.{◌≡◌, ◌++◌, [], ◌∷◌, sym, ap, ◌∙◌}
use Rattle.task_floor.specs.steps.Waking.{with_last_prints}
use Rattle.task_floor.proofs.steps.Logs.{prints_last}
use Rattle.task_floor.proofs.numbering.log_of.Goals as goal

pub returns : goal.returns
returns c =
    let split : c.in_ok-log.log ≡ c.pop.new.self ++ c.in-Some.last ∷ [] = c.in-Some.ensures.split in
    c.in_ok-push.ensures.ok ∙ (sym (prints_last c.args.prints c.pop.new.self c.in-Some.last) ∙ ap (with_last_prints c.args.prints) (sym split ∙ c.in_ok-log.ensures))
