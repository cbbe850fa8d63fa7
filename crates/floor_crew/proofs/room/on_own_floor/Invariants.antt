use Rattle.floor_crew.proofs.room.on_own_floor.Given as goal

-- the round is about the program, the limits and the nodes
abbrev pub ghosts-round-N-Named : goal.ghosts-round-N-Named
ghosts-round-N-Named g a = record { prog = a.setup.now.p.now; lim = a.setup.now.lim }

abbrev pub ghosts-round-N-Planted : goal.ghosts-round-N-Planted
ghosts-round-N-Planted g a = record { nodes = a.setup.now.shape.now }
