use Rattle.std.proofs.Common.{ap, ◌∙◌}
use Rattle.cover_flow.specs.inner.Transfers.{passed_all}
use Rattle.cover_flow.proofs.Placed.{placed-at}
use Rattle.cover_flow.proofs.turns.+pass.Goals as goal

pub pass_loop-returns-clause-turns : goal.pass_loop-returns-clause-turns
pass_loop-returns-clause-turns t c =
    c.set.ensures
    ∙ placed-at _ _ _ _ _ _ _ _ c.len-at.ensures c.in_ok-push.ensures.ok c.in_ok-turn.ensures.turns
    (c.in_ok-turn.ensures.after ∙ ap (passed_all c.args.first c.args.body.now) c.unchanged-2.ensures)
