use Rattle.std.proofs.Common.{arith, subst}
use Rattle.twe_program.specs.WellFormed.{IsWellFormed}
use Rattle.machine_state.proofs.tasks.Movers.{mover_there, mover_undone}
use Rattle.machine_state.proofs.standing.ReachedStands.{reached_stands}
use Rattle.machine_state.proofs.standing.SettlesNext.{as_many_links}
use Rattle.twe_machine.proofs.lowest_move.lowest_from.Goals as goal

-- each task was looked at
pub returns-clause-none : goal.returns-clause-none
returns-clause-none c =
    let p = c.args.p.now in
    let st = c.args.st.now in
    let linked = as_many_links p c.requires.reachable.0 st (reached_stands p c.requires.reachable.0 st (subst IsWellFormed c.p.view_is c.p.invariant) c.requires.reachable.1) in
    λ mv may.
    let there = mover_there st mv.kind mv.task may in c.loop-t.invariant mv.task (omega (arith, there, linked)) mv.kind may

-- those that are done have no legal move
pub loop-t-init : goal.loop-t-init
loop-t-init c = λ s below kind may. mover_undone c.args.st.now kind s may (c.requires.done s below)
