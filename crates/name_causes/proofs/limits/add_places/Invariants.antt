use Rattle.std.proofs.Common.{◌≡◌, ◌++◌, drop}
use Rattle.name_causes.specs.Others.{places_of_paths}
use Rattle.name_causes.proofs.limits.add_places.Given as goal

-- the places so far and those of what is left are those of all
abbrev pub invariant-loop-path : goal.invariant-loop-path
invariant-loop-path l = l.places ++ places_of_paths (drop l.path-index l.paths) ≡ l.fn.places ++ places_of_paths l.paths
