use Rattle.std.proofs.Common.{subst}
use Rattle.twe_program.specs.WellFormed.{IsWellFormed}
use Rattle.opt_engine.proofs.Committed.{last_is, was_known}
use Rattle.opt_engine.proofs.NextMoves.{took_next, under_way}
use Rattle.opt_engine.proofs.next_moves.take_next.Goals as goal

-- the task may run once it is admitted
pub run_shown-requires-clause-may : goal.run_shown-requires-clause-may
run_shown-requires-clause-may c =
    (under_way c.args.p.now c.args.lim c.args.run c.admit_if_made.new.run c.args.t (subst IsWellFormed c.p.view_is c.p.invariant) c.requires.run c.requires.may c.in_ok-admit_if_made.ensures.admits).may

pub run_shown-requires-clause-run : goal.run_shown-requires-clause-run
run_shown-requires-clause-run c =
    (under_way c.args.p.now c.args.lim c.args.run c.admit_if_made.new.run c.args.t (subst IsWellFormed c.p.view_is c.p.invariant) c.requires.run c.requires.may c.in_ok-admit_if_made.ensures.admits).run_is

-- the segment was the last move
pub note-requires : goal.note-requires
note-requires c =
    let well = subst IsWellFormed c.p.view_is c.p.invariant in
    let now = under_way c.args.p.now c.args.lim c.args.run c.admit_if_made.new.run c.args.t well c.requires.run c.requires.may c.in_ok-admit_if_made.ensures.admits in
    was_known c.args.p.now c.args.lim c.admit_if_made.new.run c.run_shown.new.self _ c.task_count-before.result c.admit_if_made.new.enabled well now.run_is now.may c.in_ok-run_shown.ensures
    c.task_count-before.ensures.count c.in_ok-admit_if_made.ensures.listing

pub returns-clause-takes : goal.returns-clause-takes
returns-clause-takes c =
    let now = under_way c.args.p.now c.args.lim c.args.run c.admit_if_made.new.run c.args.t (subst IsWellFormed c.p.view_is c.p.invariant) c.requires.run c.requires.may c.in_ok-admit_if_made.ensures.admits in
    took_next c.args.p.now c.args.lim c.args.run c.admit_if_made.new.run c.run_shown.new.self c.args.t c.saturating_sub-number.result c.requires.may c.in_ok-admit_if_made.ensures.admits now.may
    c.in_ok-run_shown.ensures (last_is c.args.p.now c.args.lim c.admit_if_made.new.run c.run_shown.new.self _ c.len.result c.saturating_sub-number.result c.in_ok-run_shown.ensures c.len.ensures c.saturating_sub-number.ensures)
