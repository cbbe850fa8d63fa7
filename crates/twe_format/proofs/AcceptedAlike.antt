-- A text and its layout are accepted alike.
use Rattle.std.proofs.Common.{◌≡◌, ℕ, List, map, sym, ap, ◌∙◌}
use Rattle.twe_ast.specs.declared.item.Ast.{Ast}
use Rattle.twe_program.specs.Program.{Program}
use Rattle.ast_printer.specs.BareItem.{bare_item, EqualButForPlaces}
use Rattle.text_layout.specs.InLayout.{IsInLayout}
use Rattle.twe_frontend.specs.Accepted.{Accepted, IsTreeOf}
use Rattle.summary_texts.specs.paste_laws.places.Places.{SameButPlaces}
use Rattle.summary_texts.proofs.SameTree.{OneTree, same_tree}
use Rattle.layout_refusals.proofs.Layouts.{again_of}

-- a text whose tree is that of an accepted one, but for places, is accepted, too
abbrev PlacesDoNotMatter : Type 0
PlacesDoNotMatter =
    (text other : List ℕ) (p : Program) (its : Ast) (accepted : Accepted text p) → IsTreeOf other its → EqualButForPlaces accepted.meant.tree its
    → (q : Program) × Accepted other q × SameButPlaces p q

pub laid_accepted : PlacesDoNotMatter → (text laid : List ℕ) (p : Program) → Accepted text p → IsInLayout text laid → (q : Program) × Accepted laid q × SameButPlaces p q
laid_accepted places text laid p accepted in_layout =
    let found = again_of text laid accepted.meant.tree accepted.meant.parsed in_layout in places text laid p found.0 accepted found.1 found.2

pub text_accepted : OneTree → PlacesDoNotMatter → (text laid : List ℕ) (tree : Ast) (q : Program) → IsTreeOf text tree → IsInLayout text laid → Accepted laid q
    → (p : Program) × Accepted text p × SameButPlaces q p
text_accepted one places text laid tree q parsed in_layout accepted =
    let found = again_of text laid tree parsed in_layout in
    let same : accepted.meant.tree ≡ found.0 = same_tree one laid accepted.meant.tree found.0 accepted.meant.parsed found.1 in
    places laid text q tree accepted parsed (ap (λ (its : Ast). map bare_item its.items) same ∙ sym found.2)
