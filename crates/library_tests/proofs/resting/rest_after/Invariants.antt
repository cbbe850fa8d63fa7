use Rattle.library_tests.proofs.resting.rest_after.Given as goal

-- the floor is one of this program, with the nodes of its tree
abbrev pub ghosts-rest_again-N-Named : goal.ghosts-rest_again-N-Named
ghosts-rest_again-N-Named a = record { prog = a.p.now; lim = a.lim }

abbrev pub ghosts-rest_again-N-Planted : goal.ghosts-rest_again-N-Planted
ghosts-rest_again-N-Planted a = record { nodes = a.shape.now }
