-- The first failure of a text is the first of one list of all its failures, but for that of how many cells and nodes there are.
use Rattle.std.proofs.Common.{◌≡◌, List, [], ◌∷◌, ◌++◌, Option, None, not, refl, sym, ap, ◌∙◌}
use Rattle.std.specs.List.{flat_map, list_any}
use Rattle.twe_ast.specs.declared.item.Ast.{Ast}
use Rattle.twe_ast.specs.declared.item.Item.{Item}
use Rattle.name_check.specs.declared.names.GlobalName.{GlobalName}
use Rattle.name_check.specs.declared.rule.NRule.TheVariants.{N8}
use Rattle.name_check.specs.FailsName.{NameFailure}
use Rattle.name_check.specs.Names.{globals_of}
use Rattle.name_check.specs.Sites.{Site, sites_of_item}
use Rattle.name_check.specs.inner.Failures.{failures_at, first_of_sites}
use Rattle.twe_base.specs.First.{failure_if}
use Rattle.name_check.specs.inner.First.{first_from}
use Rattle.name_check.specs.OtherFailures.{item_failures}
use Rattle.name_check.specs.inner.Whole.{again_failures, first_but_nodes, first_in_items, is_main_item}
use Rattle.name_check.proofs.FirstFailures.{first_from-append}

abbrev pub site_failures : List GlobalName → List Site → List NameFailure
site_failures globals sites = flat_map (failures_at globals) sites

abbrev pub failures_in_item : List GlobalName → Item → List NameFailure
failures_in_item globals item = site_failures globals (sites_of_item globals item) ++ item_failures item

abbrev pub failures_in : Ast → List NameFailure
failures_in ast =
    flat_map (failures_in_item (globals_of ast)) ast.items
    ++ (again_failures [] (globals_of ast) ++ failure_if (not (list_any is_main_item ast.items)) N8 ast.end)

first_of_sites_is : (globals : List GlobalName) (first : Option NameFailure) (sites : List Site) → first_of_sites globals first sites ≡ first_from first (site_failures globals sites)
first_of_sites_is globals first [] = refl
first_of_sites_is globals first (site ∷ sites) =
    first_of_sites_is globals (first_from first (failures_at globals site)) sites ∙ sym (first_from-append first (failures_at globals site) (site_failures globals sites))

first_in_items_is : (globals : List GlobalName) (first : Option NameFailure) (items : List Item)
    → first_in_items globals first items ≡ first_from first (flat_map (failures_in_item globals) items)
first_in_items_is globals first [] = refl
first_in_items_is globals first (item ∷ items) =
    let sites : List Site = sites_of_item globals item in
    first_in_items_is globals (first_from (first_of_sites globals first sites) (item_failures item)) items
    ∙ (ap (λ o. first_from (first_from o (item_failures item)) (flat_map (failures_in_item globals) items)) (first_of_sites_is globals first sites)
    ∙ (ap (λ o. first_from o (flat_map (failures_in_item globals) items)) (sym (first_from-append first (site_failures globals sites) (item_failures item)))
    ∙ sym (first_from-append first (failures_in_item globals item) (flat_map (failures_in_item globals) items))))

pub first_but_nodes_is : (ast : Ast) → first_but_nodes ast ≡ first_from None (failures_in ast)
first_but_nodes_is ast =
    let items : List NameFailure = flat_map (failures_in_item (globals_of ast)) ast.items in
    let again : List NameFailure = again_failures [] (globals_of ast) in
    let main : List NameFailure = failure_if (not (list_any is_main_item ast.items)) N8 ast.end in
    ap (λ o. first_from (first_from o again) main) (first_in_items_is (globals_of ast) None ast.items)
    ∙ (sym (first_from-append (first_from None items) again main) ∙ sym (first_from-append None items (again ++ main)))
