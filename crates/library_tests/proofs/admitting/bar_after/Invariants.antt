use Rattle.library_tests.proofs.admitting.bar_after.Given as goal

-- the floor is one of this program, with the nodes of its tree
abbrev pub ghosts-first_bar-N-Named : goal.ghosts-first_bar-N-Named
ghosts-first_bar-N-Named g a = record { prog = a.p.now; lim = a.lim }

abbrev pub ghosts-first_bar-N-Planted : goal.ghosts-first_bar-N-Planted
ghosts-first_bar-N-Planted g a = record { nodes = a.shape.now }
