use Rattle.std.proofs.Common.{sym, subst}
use Rattle.twe_machine.specs.Listings.{IsListing}
use Rattle.opt_engine.specs.declared.core_run.CoreRun.{CoreRun}
use Rattle.opt_engine.proofs.Told.{begins_well}
use Rattle.opt_engine.proofs.draft_core.Core.new.Goals as goal

-- the run has not begun, and no task is enabled
pub invariant_of-result : goal.invariant_of-result
invariant_of-result g c = (
  c.requires.named.1,
  begins_well c.args.p.now g.N.RoundName.prog c.args.lim g.N.RoundName.lim g.N.RoundName.earlier c.in_ok-run.run' c.requires.named.0 c.requires.named.1 c.requires.first c.in_ok-run.ensures,
  subst (λ (r : CoreRun). IsListing r.state c.in_ok-enabled.enabled) (sym c.in_ok-run.ensures) (c.in_ok-enabled.ensures.start c.args.p.now c.args.lim),
)
