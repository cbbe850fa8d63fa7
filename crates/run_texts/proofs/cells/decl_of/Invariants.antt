use Rattle.std.proofs.Common.{◌≡◌, drop}
use Rattle.isolation_laws.specs.soundness.CellPaths.{path_among}
use Rattle.run_texts.proofs.cells.decl_of.Given as goal

-- no declaration up to here ends after the cell
abbrev pub invariant-loop-decl : goal.invariant-loop-decl
invariant-loop-decl l = path_among l.cells l.cell ≡ path_among (drop l.decl-index l.cells) l.cell
