use Rattle.floor_crew.specs.inner.GoingOn.{HasGoneOn}
use Rattle.floor_crew.proofs.alone.go_on_alone.Given as goal

abbrev pub invariant-moves : goal.invariant-moves
invariant-moves l = HasGoneOn l.setup.p.now l.setup.lim l.fn.run.rest.journal l.run
