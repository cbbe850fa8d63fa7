use Rattle.floor_crew.specs.inner.GoingOn.{HasGoneOn}
use Rattle.floor_crew.proofs.alone.admit_all_ready.Given as goal

abbrev pub invariant-looks : goal.invariant-looks
invariant-looks l = HasGoneOn l.setup.p.now l.setup.lim l.fn.run.rest.journal l.run
