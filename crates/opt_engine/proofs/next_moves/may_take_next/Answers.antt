use Rattle.std.proofs.Common.{subst}
use Rattle.twe_program.specs.WellFormed.{IsWellFormed}
use Rattle.opt_engine.proofs.Nexts.{linked}
use Rattle.opt_engine.proofs.next_moves.may_take_next.Goals as goal

pub is_ready-requires : goal.is_ready-requires
is_ready-requires c = linked c.args.p.now c.requires.reached.0 c.args.st.now (subst IsWellFormed c.p.view_is c.p.invariant) c.requires.reached.1
