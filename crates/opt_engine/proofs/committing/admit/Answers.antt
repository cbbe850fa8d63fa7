use Rattle.std.proofs.Common.{subst}
use Rattle.twe_program.specs.WellFormed.{IsWellFormed}
use Rattle.opt_engine.proofs.Committed.{was_known}
use Rattle.opt_engine.proofs.committing.admit.Goals as goal

-- the admission was the last move
pub note-requires : goal.note-requires
note-requires c =
    was_known c.args.p.now c.args.lim c.args.run.now c.take.new.self _ c.task_count-before.result c.args.enabled.now (subst IsWellFormed c.p.view_is c.p.invariant) c.requires.run
    c.requires.may c.in_ok-take.ensures c.task_count-before.ensures.count c.requires.listing
