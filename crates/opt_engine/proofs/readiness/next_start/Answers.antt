use Rattle.std.proofs.Common.{sym, subst}
use Rattle.twe_program.specs.WellFormed.{IsWellFormed}
use Rattle.opt_engine.proofs.Nexts.{linked, start_is}
use Rattle.opt_engine.proofs.readiness.next_start.Goals as goal

pub is_ready-requires : goal.is_ready-requires
is_ready-requires c = linked c.args.p.now c.requires.0 c.args.st.now (subst IsWellFormed c.p.view_is c.p.invariant) c.requires.1

pub returns-in_ok-ready_copy-in-Some : goal.returns-in_ok-ready_copy-in-Some
returns-in_ok-ready_copy-in-Some c =
    start_is c.args.p.now c.requires.0 c.args.st.now c.args.t c.in-Some.row.now c.in_ok-ready_copy-in-Some.field-0
    c.requires.1 (c.is_ready.ensures.0 c.if-not-is_ready.false) (sym c.in-Some.ensures) c.in_ok-ready_copy-in-Some.ensures
