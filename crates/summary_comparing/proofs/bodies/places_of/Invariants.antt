use Rattle.std.proofs.Common.{◌≡◌, ◌++◌, drop}
use Rattle.summary_comparing.specs.Placed.{step_places}
use Rattle.summary_comparing.proofs.bodies.places_of.Given as goal

-- the places so far and those of what is left are those of all
abbrev pub invariant-loop-act : goal.invariant-loop-act
invariant-loop-act l = l.places ++ step_places (drop l.act-index l.acts) ≡ step_places l.acts
