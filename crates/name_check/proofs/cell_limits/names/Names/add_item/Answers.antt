-- The cell is the only one of the item.
use Rattle.std.proofs.Common.{List, sym, subst}
use Rattle.std.specs.List.{All}
use Rattle.twe_ast.specs.declared.item.Item.{Item}
use Rattle.twe_ast.specs.declared.path.CellElem.{CellElem}
use Rattle.name_check.specs.cell_limits.GoesOver.{cells_of_item}
use Rattle.name_check.specs.cell_limits.inner.Parts.{IsKnown}
use Rattle.name_check.proofs.cell_limits.Known.{AreKnown, known-cell}
use Rattle.name_check.proofs.cell_limits.names.Names.add_item.Goals as goal

pub returns-in_ok-add_all-clause-known : goal.returns-in_ok-add_all-clause-known
returns-in_ok-add_all-clause-known c =
    let new = c.add_all.new.self in
    let cell = c.in-Cell.cell in
    subst (λ (item : Item). AreKnown new (cells_of_item item)) (sym c.in-Cell.is)
    (known-cell new cell (subst (λ (elems : List CellElem). All (λ (e : CellElem). IsKnown new e.kind) elems) c.as_slice.ensures c.in_ok-add_all.ensures.known))
