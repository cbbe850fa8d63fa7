use Rattle.std.proofs.Common.{subst}
use Rattle.twe_program.specs.WellFormed.{IsWellFormed}
use Rattle.opt_engine.specs.Verdicts.{IsStartAt}
use Rattle.opt_engine.proofs.Nexts.{draft_is}
use Rattle.opt_engine.proofs.readiness.draft_of.Goals as goal

pub returns-in_ok-copy-in-Some : goal.returns-in_ok-copy-in-Some
returns-in_ok-copy-in-Some c =
    draft_is c.args.p.now c.requires.0 c.args.st.now c.args.t c.in-Some.start c.in_ok-copy-in-Some.field-0
    (subst IsWellFormed c.p.view_is c.p.invariant) c.requires.1 (subst (IsStartAt c.args.st.now c.args.t) c.in-Some.is c.in_ok-next_start.ensures) c.in_ok-copy-in-Some.ensures
