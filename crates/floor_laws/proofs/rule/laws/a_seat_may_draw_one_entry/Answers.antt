use Rattle.floor_laws.proofs.rule.RuleSteps.{one_drawn}
use Rattle.floor_laws.proofs.rule.laws.a_seat_may_draw_one_entry.Goals as goal

pub returns : goal.returns
returns c p lim log f i t turn frame other stop last well keeps rule may may_other =
    let one = one_drawn p well keeps lim log f rule i t turn frame other stop last may may_other in
    (one.frames, one.stops)
