use Rattle.std.proofs.Common.{◌≡◌, ◌++◌, drop}
use Rattle.std.specs.List.{flat_map}
use Rattle.run_notes.specs.Cycles.{edge_notes}
use Rattle.run_notes.proofs.cycles.edges_notes.Given as goal

-- the notes so far, with those that are left
abbrev pub invariant-loop-edge : goal.invariant-loop-edge
invariant-loop-edge l =
    l.notes ++ flat_map (edge_notes l.p l.st l.makings) (drop l.edge-index l.edges) ≡ flat_map (edge_notes l.p l.st l.makings) l.edges
