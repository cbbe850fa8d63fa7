-- First the prefixes of the cell's path, then its elements.
use Rattle.std.proofs.Common.{map, ap, ◌∙◌}
use Rattle.std.proofs.lemmas.Result.{on_ok_weaker}
use Rattle.twe_ast.specs.declared.path.CellElem.{CellElem}
use Rattle.prefix_tree.specs.declared.part.Part.{Part}
use Rattle.name_check.specs.cell_limits.Nodes.{written_path}
use Rattle.name_check.specs.cell_limits.inner.Parts.{part_of}
use Rattle.name_check.proofs.cell_limits.WrittenParts.{parts-written}
use Rattle.name_check.proofs.cell_limits.DeclaredLemmas.{Grows-scalar, Grows-array, Grows-grid_of}
use Rattle.name_check.proofs.cell_limits.growth.add_cell.Goals as goal

pub returns-in-Scalar : goal.returns-in-Scalar
returns-in-Scalar c =
    let names = c.args.names.now in
    let cell = c.args.cell.now in
    let f : CellElem → Part = λ elem. part_of names elem.kind in
    let same = c.as_slice-2.ensures.value ∙ c.in_ok-path.ensures ∙ ap (map f) c.as_slice.ensures ∙ parts-written names cell.path.elems in
    Grows-scalar names c.args.tree.now _ _ (written_path cell) cell.shape _ same c.in-Scalar.is c.in_ok-at.ensures.grows

pub returns-in-Array : goal.returns-in-Array
returns-in-Array c =
    let names = c.args.names.now in
    let cell = c.args.cell.now in
    let f : CellElem → Part = λ elem. part_of names elem.kind in
    let same = c.as_slice-2.ensures.value ∙ c.in_ok-path.ensures ∙ ap (map f) c.as_slice.ensures ∙ parts-written names cell.path.elems in
    on_ok_weaker c.add_row.result
    (Grows-array names c.args.tree.now c.add_path.new.self _ _ _ (written_path cell) cell.shape c.in-Array.length same c.in_ok-at.ensures.path c.in-Array.is c.in_ok-at.ensures.grows)
    c.add_row.ensures

pub returns : goal.returns
returns c =
    let names = c.args.names.now in
    let cell = c.args.cell.now in
    let f : CellElem → Part = λ elem. part_of names elem.kind in
    let same = c.as_slice-2.ensures.value ∙ c.in_ok-path.ensures ∙ ap (map f) c.as_slice.ensures ∙ parts-written names cell.path.elems in
    on_ok_weaker c.add_grid.result
    (Grows-grid_of names c.args.tree.now c.add_path.new.self _ _ _ (written_path cell) cell.shape c.in-Grid.rows c.in-Grid.columns same c.in_ok-at.ensures.path c.in-Grid.is c.in_ok-at.ensures.grows)
    c.add_grid.ensures
