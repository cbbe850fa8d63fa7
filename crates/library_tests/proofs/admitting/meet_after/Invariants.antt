use Rattle.library_tests.proofs.admitting.meet_after.Given as goal

-- the floor is one of this program, with the nodes of its tree
abbrev pub ghosts-meet-N-Named : goal.ghosts-meet-N-Named
ghosts-meet-N-Named g a = record { prog = a.p.now; lim = a.lim }

abbrev pub ghosts-meet-N-Planted : goal.ghosts-meet-N-Planted
ghosts-meet-N-Planted g a = record { nodes = a.shape.now }
