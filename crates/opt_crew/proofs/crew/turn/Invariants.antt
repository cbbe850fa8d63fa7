use Rattle.opt_crew.proofs.crew.turn.Given as goal

-- the single worker's part is about the program and the limits, and the journal so far
abbrev pub ghosts-alone : goal.ghosts-alone
ghosts-alone g a = record { prog = a.setup.now.p.now; lim = a.setup.now.lim; earlier = a.run.journal }

-- so is the part of all
abbrev pub ghosts-together : goal.ghosts-together
ghosts-together g a = record { prog = a.setup.now.p.now; lim = a.setup.now.lim; earlier = a.run.journal }
