-- First the prefixes of the cell's path, then its elements.
use Rattle.std.proofs.Common.{map, ap, ◌∙◌}
use Rattle.std.specs.Prelude.{take_while}
use Rattle.std.proofs.lemmas.Result.{on_ok_weaker}
use Rattle.region_paths.specs.Filled.{is_solid, solid_prefix}
use Rattle.effect_tree.specs.inner.Parts.{elem_of}
use Rattle.effect_tree.proofs.DeclaredLemmas.{Grows-scalar, Grows-row_of, Grows-grid_of}
use Rattle.effect_tree.proofs.growth.add_cell.Goals as goal

pub returns-in-Scalar : goal.returns-in-Scalar
returns-in-Scalar c =
    let cell = c.args.cell.now in
    let same = ap (map elem_of) c.as_slice-2.ensures.value ∙ c.in_ok-front.ensures ∙ ap (take_while is_solid) (c.as_slice.ensures ∙ c.elems.ensures.part) in
    Grows-scalar c.args.tree.now _ _ (solid_prefix cell.path) cell.dims same c.in-Scalar.is c.in_ok-at.ensures.grows

pub returns-in-Row : goal.returns-in-Row
returns-in-Row c =
    let cell = c.args.cell.now in
    let same = ap (map elem_of) c.as_slice-2.ensures.value ∙ c.in_ok-front.ensures ∙ ap (take_while is_solid) (c.as_slice.ensures ∙ c.elems.ensures.part) in
    on_ok_weaker c.add_row.result
    (Grows-row_of c.args.tree.now c.add_path.new.self _ _ _ (solid_prefix cell.path) cell.dims c.in-Row.count same c.in_ok-at.ensures.path c.in-Row.is c.in_ok-at.ensures.grows)
    c.add_row.ensures

pub returns : goal.returns
returns c =
    let cell = c.args.cell.now in
    let same = ap (map elem_of) c.as_slice-2.ensures.value ∙ c.in_ok-front.ensures ∙ ap (take_while is_solid) (c.as_slice.ensures ∙ c.elems.ensures.part) in
    on_ok_weaker c.add_grid.result
    (Grows-grid_of c.args.tree.now c.add_path.new.self _ _ _ (solid_prefix cell.path) cell.dims c.in-Grid.rows c.in-Grid.cols same c.in_ok-at.ensures.path c.in-Grid.is c.in_ok-at.ensures.grows)
    c.add_grid.ensures
