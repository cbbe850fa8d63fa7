use Rattle.opt_crew.specs.Keeping.{Keeps}
use Rattle.opt_crew.proofs.crew.lend.Given as goal

-- the run goes on from the one that was lent first
abbrev pub invariant-turns : goal.invariant-turns
invariant-turns g l = Keeps l.setup.p.now l.setup.lim l.fn.run.journal l.run
