use Rattle.std.proofs.Common.{refl, subst}
use Rattle.machine_state.specs.declared.state.State.{State}
use Rattle.floor_laws.specs.rule.Fitting.{IsMade}
use Rattle.floor_laws.specs.table.Alone.{IsAloneAt}
use Rattle.task_floor.specs.Stands.{TreeStand}
use Rattle.task_floor.proofs.ServedBeside.{holds_taken}
use Rattle.tree_admit.specs.declared.serving.worker.Holding.{Holding}
use Rattle.tree_admit.specs.serving.inner.Taking.{HasTakenInHand}
use Rattle.tree_admit.proofs.serving.Serving.{same_stands, taken_since, took_same}
use Rattle.tree_admit.proofs.serving.workshop.Workshop.take_in_hand.Goals as goal

pub returns-in-Ok-clause-taken : goal.returns-in-Ok-clause-taken
returns-in-Ok-clause-taken g c =
    let nodes = g.N.Planted.nodes in
    let worker = c.worker.inside in
    let after = c.take_turn.new.stand in
    let took = c.in-Ok.ensures.taken in
    let holding : Holding = record { number = worker.number; stand = after; log = worker.log; task = c.args.task; slot = c.in-Ok.slot } in
    subst (λ (s : TreeStand). HasTakenInHand nodes s c.args.task holding) c.worker.view_is
    (record {
      task = refl;
      turn = took.floor.turn;
      holds = holds_taken nodes worker.number worker.stand.me after.me worker.log c.args.task c.in-Ok.slot c.worker.invariant took;
      since = taken_since nodes worker.stand.me after.me c.args.task c.in-Ok.slot took;
      same = same_stands worker.stand after c.take_turn.ensures.same.0 c.take_turn.ensures.same.1 (took_same nodes worker.stand.me after.me c.args.task c.in-Ok.slot took);
    })

pub returns-in-Err-clause-alone : goal.returns-in-Err-clause-alone
returns-in-Err-clause-alone g c =
    subst (λ (s : TreeStand). (st : State) → IsAloneAt g.N.Named.prog g.N.Named.lim s.me.0.floor st → ¬ IsMade st c.args.task) c.worker.view_is
    (λ st alone made. c.in-Err.ensures.alone st alone (c.worker.invariant.floor.given.turns c.args.task) made)
