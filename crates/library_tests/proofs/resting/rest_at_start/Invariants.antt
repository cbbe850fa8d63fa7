use Rattle.library_tests.proofs.resting.rest_at_start.Given as goal

-- the floor is one of this program, with the nodes of its tree
abbrev pub ghosts-rest_of_new-N-Named : goal.ghosts-rest_of_new-N-Named
ghosts-rest_of_new-N-Named a = record { prog = a.p.now; lim = a.lim }

abbrev pub ghosts-rest_of_new-N-Planted : goal.ghosts-rest_of_new-N-Planted
ghosts-rest_of_new-N-Planted a = record { nodes = a.shape.now }
