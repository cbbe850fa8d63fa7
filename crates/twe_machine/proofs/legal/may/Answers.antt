use Rattle.std.proofs.Common.{subst}
use Rattle.twe_program.specs.WellFormed.{IsWellFormed}
use Rattle.machine_state.proofs.tasks.Filled.{reached_filled}
use Rattle.machine_state.proofs.standing.ReachedStands.{reached_stands}
use Rattle.machine_state.proofs.standing.SettlesNext.{as_many_links}
use Rattle.twe_machine.proofs.legal.may.Goals as goal

-- there are as many links as rows
pub may_admit-requires-clause-linked : goal.may_admit-requires-clause-linked
may_admit-requires-clause-linked c =
    let p = c.args.p.now in
    let st = c.args.st.now in as_many_links p c.requires.0 st (reached_stands p c.requires.0 st (subst IsWellFormed c.p.view_is c.p.invariant) c.requires.1)

-- no effect has a variable
pub may_admit-requires-clause-filled : goal.may_admit-requires-clause-filled
may_admit-requires-clause-filled c = reached_filled c.args.p.now c.requires.0 c.args.st.now (subst IsWellFormed c.p.view_is c.p.invariant) c.requires.1

pub may_run-requires-clause-linked : goal.may_run-requires-clause-linked
may_run-requires-clause-linked c =
    let p = c.args.p.now in
    let st = c.args.st.now in as_many_links p c.requires.0 st (reached_stands p c.requires.0 st (subst IsWellFormed c.p.view_is c.p.invariant) c.requires.1)
