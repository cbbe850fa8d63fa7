use Rattle.std.proofs.Common.{sym, subst}
use Rattle.isolation_laws.specs.soundness.KeepsEffects.{KeepsEffects}
use Rattle.twe_program.specs.Program.{Program}
use Rattle.floor_crew.specs.inner.GoingOn.{IsSound}
use Rattle.floor_crew.proofs.crew.FloorCrew.of.Goals as goal

pub invariant_of-result : goal.invariant_of-result
invariant_of-result c = (
  c.requires.some,
  c.requires.most,
  subst KeepsEffects (sym c.of-2.ensures) c.requires.accepted,
  subst (λ (p : Program). IsSound p c.args.lim c.in_ok-run.run') (sym c.of-2.ensures) c.in_ok-run.ensures.sound,
  tt,
)
