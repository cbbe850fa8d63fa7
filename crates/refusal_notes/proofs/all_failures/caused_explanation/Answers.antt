use Rattle.std.proofs.Common.{◌≡◌, ℕ, List, ◌∙◌, ap}
use Rattle.twe_ast.specs.declared.item.Item.{Item}
use Rattle.twe_ast.specs.declared.name.Name as written
use Rattle.twe_program.specs.Program.{Program}
use Rattle.twe_base.specs.declared.place.Place.{Place}
use Rattle.explain_pages.specs.names.Variables.{variables_at}
use Rattle.refusal_notes.specs.Explanation.{explanation_by, place_of_cause}
use Rattle.refusal_notes.proofs.all_failures.caused_explanation.Goals as goal

-- it is said by the names of the tree and of the program
pub returns : goal.returns
returns c =
    let refusal = c.args.refusal in
    let cause = c.args.cause.now in
    let tree = c.args.tree.now in
    let p = c.args.p.now in
    let names : c.in_ok-names.names ≡ variables_at tree.items (place_of_cause cause) =
    c.in_ok-names.ensures
    ∙ ap (λ (xs : List Item). variables_at xs c.place_of_cause.result) c.as_slice.ensures
    ∙ ap (λ (place : Place). variables_at tree.items place) c.place_of_cause.ensures in
    let regions : c.as_slice-regions.result.now ≡ p.regions = c.as_slice-regions.ensures ∙ ap (λ (q : Program). q.regions) c.p.view_is in
    c.in_ok-explanation.ensures
    ∙ ap (λ (xs : List (List ℕ)). explanation_by refusal cause xs c.as_slice-2.result.now) regions
    ∙ ap (λ (xs : List written.Name). explanation_by refusal cause p.regions xs) (c.as_slice-2.ensures ∙ names)
