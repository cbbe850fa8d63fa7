use Rattle.floor_crew.proofs.round.round.Given as goal

-- the round is on the floor that was woken
abbrev pub ghosts-lend : goal.ghosts-lend
ghosts-lend g a = record { table = a.floor.now }
