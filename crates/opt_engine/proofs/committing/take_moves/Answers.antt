use Rattle.std.proofs.Common.{subst}
use Rattle.twe_program.specs.WellFormed.{IsWellFormed}
use Rattle.opt_engine.proofs.Committed.{entered, last_is, took, was_known}
use Rattle.opt_engine.proofs.committing.take_moves.Goals as goal

-- once the task is admitted the draft still fits
pub enter-requires-clause-fits : goal.enter-requires-clause-fits
enter-requires-clause-fits c =
    (entered c.args.p.now c.args.lim c.args.run c.admit_if_made.new.run c.args.d (subst IsWellFormed c.p.view_is c.p.invariant) c.requires.run c.requires.fits c.in_ok-admit_if_made.ensures.admits).fits

-- and its task may run
pub enter-requires-clause-may : goal.enter-requires-clause-may
enter-requires-clause-may c =
    (entered c.args.p.now c.args.lim c.args.run c.admit_if_made.new.run c.args.d (subst IsWellFormed c.p.view_is c.p.invariant) c.requires.run c.requires.fits c.in_ok-admit_if_made.ensures.admits).may

-- the segment was the last move
pub note-requires : goal.note-requires
note-requires c =
    let well = subst IsWellFormed c.p.view_is c.p.invariant in
    let now = entered c.args.p.now c.args.lim c.args.run c.admit_if_made.new.run c.args.d well c.requires.run c.requires.fits c.in_ok-admit_if_made.ensures.admits in
    was_known c.args.p.now c.args.lim c.admit_if_made.new.run c.enter.new.run _ c.task_count-before.result c.admit_if_made.new.enabled well now.run_is now.may c.in_ok-enter.ensures
    c.task_count-before.ensures.count c.in_ok-admit_if_made.ensures.listing

pub returns-clause-takes : goal.returns-clause-takes
returns-clause-takes c =
    let may =
    (entered c.args.p.now c.args.lim c.args.run c.admit_if_made.new.run c.args.d (subst IsWellFormed c.p.view_is c.p.invariant) c.requires.run c.requires.fits c.in_ok-admit_if_made.ensures.admits).may
    in
    took c.args.p.now c.args.lim c.args.run c.admit_if_made.new.run c.enter.new.run c.args.d c.saturating_sub-number.result c.requires.fits c.requires.free c.in_ok-admit_if_made.ensures.admits may
    c.in_ok-enter.ensures (last_is c.args.p.now c.args.lim c.admit_if_made.new.run c.enter.new.run _ c.len.result c.saturating_sub-number.result c.in_ok-enter.ensures c.len.ensures c.saturating_sub-number.ensures)
