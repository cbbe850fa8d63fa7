use Rattle.std.proofs.Common.{◌≡◌, ◌++◌, [], List, append_assoc, length, sym, ap, ◌∙◌}
use Rattle.std.specs.List.{flat_map}
use Rattle.twe_ast.specs.declared.item.ReturnType.TheVariants.{Void}
use Rattle.twe_ast.specs.declared.path.CellElem.{CellElem}
use Rattle.name_check.specs.declared.scope.LocalName.{LocalName}
use Rattle.name_check.specs.Asks.{Ask}
use Rattle.name_check.specs.Sites.{sites_at}
use Rattle.name_check.specs.inner.Elements.{asks_of_cell_elem}
use Rattle.name_check.specs.OtherFailures.{cell_element_over_limit}
use Rattle.name_causes.specs.declared.need.NameLimit.TheVariants.{Elements}
use Rattle.name_causes.specs.declared.need.NameNeed.TheVariants.{Over}
use Rattle.name_causes.specs.declared.need.PlacedNeed.{PlacedNeed}
use Rattle.name_causes.specs.Needs.{needs_at_sites, needs_of_asks}
use Rattle.name_causes.specs.Others.{need_there}
use Rattle.name_causes.proofs.Listing.{needs_at-here}
use Rattle.name_causes.proofs.decls.add_cell.Goals as goal

-- the path, and the limit on its elements
pub returns : goal.returns
returns c =
    let globals = c.args.globals.now in
    let before : List PlacedNeed = c.args.needs.now in
    let elems : List CellElem = c.args.cell.now.path.elems in
    let asks : List Ask = flat_map asks_of_cell_elem elems in
    let over : List PlacedNeed = need_there (cell_element_over_limit elems) (Over Elements (length elems)) in
    let path : c.add_cell_path.new.needs ≡ before ++ needs_of_asks globals [] Void asks =
    c.in_ok-add_cell_path.ensures
    ∙ (ap (λ (locals : List LocalName). before ++ needs_of_asks globals locals Void (flat_map asks_of_cell_elem c.as_slice.result.now)) c.new-nothing.ensures
    ∙ ap (λ (xs : List CellElem). before ++ needs_of_asks globals [] Void (flat_map asks_of_cell_elem xs)) c.as_slice.ensures) in
    c.in_ok-add_cell_limits.ensures
    ∙ (ap (λ (zs : List PlacedNeed). zs ++ over) (path ∙ ap (λ (zs : List PlacedNeed). before ++ zs) (sym (needs_at-here globals [] Void asks)))
    ∙ append_assoc before (needs_at_sites globals (sites_at [] Void asks)) over)
