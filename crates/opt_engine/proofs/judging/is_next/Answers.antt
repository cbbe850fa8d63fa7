use Rattle.std.proofs.Common.{sym, subst}
use Rattle.twe_program.specs.WellFormed.{IsWellFormed}
use Rattle.opt_engine.proofs.Nexts.{linked, next_decided}
use Rattle.opt_engine.proofs.judging.is_next.Goals as goal

pub is_ready-requires : goal.is_ready-requires
is_ready-requires c = linked c.args.p.now c.requires.reached.0 c.args.st.now (subst IsWellFormed c.p.view_is c.p.invariant) c.requires.reached.1

pub returns-in_ok-ready_copy-in-Some : goal.returns-in_ok-ready_copy-in-Some
returns-in_ok-ready_copy-in-Some c =
    next_decided c.args.p.now c.requires.reached.0 c.args.st.now c.args.d.now c.in-Some.row.now c.in_ok-ready_copy-in-Some.field-0 c.same_frame.result c.requires.reached.1
    c.requires.drafted (c.is_ready.ensures.0 c.if-not-is_ready.false) (sym c.in-Some.ensures) c.in_ok-ready_copy-in-Some.ensures c.same_frame.ensures
