use Rattle.std.proofs.Common.{arith, below_more, subst}
use Rattle.seg_journal.specs.declared.moves.Kind.TheVariants.{Run}
use Rattle.twe_program.specs.WellFormed.{IsWellFormed}
use Rattle.machine_state.proofs.standing.ReachedStands.{reached_stands}
use Rattle.machine_state.proofs.standing.SettlesNext.{as_many_links}
use Rattle.machine_state.proofs.tasks.Movers.{mover_there}
use Rattle.move_choices.proofs.choosing.lowest_that_may_run.Goals as goal

-- one more was looked at
pub loop-t-preserved : goal.loop-t-preserved
loop-t-preserved c = below_more _ _ c.loop-t.invariant (λ may. let yes = c.may_take.ensures.1 may in cc (yes, c.if-may_take.false))

-- each task was looked at
pub returns-clause-none : goal.returns-clause-none
returns-clause-none c =
    let p = c.args.p.now in
    let st = c.args.st.now in
    let linked = as_many_links p c.requires.0 st (reached_stands p c.requires.0 st (subst IsWellFormed c.p.view_is c.p.invariant) c.requires.1) in
    λ t may.
    let there = mover_there st Run t may in
    c.loop-t.invariant t (omega (arith, there, linked, c.loop-t-test.false, c.loop-t.auto.t-end, c.task_count-t-end.ensures.count)) may
