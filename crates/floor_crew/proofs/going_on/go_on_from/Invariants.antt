use Rattle.std.proofs.Common.{IfSome}
use Rattle.floor_crew.specs.inner.GoingOn.{HasGoneOn}
use Rattle.floor_crew.specs.inner.Keeping.{IsShapeOf}
use Rattle.floor_crew.proofs.going_on.go_on_from.Given as goal

-- the run has gone on, and a shape that is kept is that of the program's tree
abbrev pub invariant-rounds : goal.invariant-rounds
invariant-rounds g l = HasGoneOn l.setup.p.now l.setup.lim l.fn.run.rest.journal l.run × IfSome l.shape (IsShapeOf l.setup.p.now)
