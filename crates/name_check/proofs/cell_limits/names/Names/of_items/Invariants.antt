-- The names of the cells so far are there.
use Rattle.std.proofs.Common.{take}
use Rattle.std.specs.Prelude.{codes, Contains}
use Rattle.std.specs.List.{All}
use Rattle.twe_ast.specs.declared.item.CellDecl.{CellDecl}
use Rattle.name_check.specs.cell_limits.GoesOver.{cells_of}
use Rattle.name_check.specs.cell_limits.Nodes.{written_path}
use Rattle.name_check.specs.cell_limits.inner.Parts.{IsKnown}
use Rattle.name_check.proofs.cell_limits.names.Names.of_items.Given as goal

abbrev pub invariant-loop-item : goal.invariant-loop-item
invariant-loop-item l = record {
  console : Contains l.names (codes "Console");
  cells : All (λ (cell : CellDecl). All (IsKnown l.names) (written_path cell)) (cells_of (take l.item-index l.items));
}
