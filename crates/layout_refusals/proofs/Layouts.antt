-- A text and its layout are refused alike.
use Rattle.std.proofs.Common.{◌≡◌, ℕ, List, sym, ap, ◌∙◌}
use Rattle.twe_base.specs.declared.place.Place.{Place}
use Rattle.twe_ast.specs.declared.item.Ast.{Ast}
use Rattle.ast_printer.specs.BareItem.{EqualButForPlaces}
use Rattle.text_layout.specs.InLayout.{IsInLayout}
use Rattle.layout_laws.proofs.KeptTree.{kept_tree}
use Rattle.layout_laws.proofs.OneCut.{same_tokens}
use Rattle.twe_frontend.specs.declared.refusal.RuleName.{RuleName}
use Rattle.twe_frontend.specs.Accepted.{IsTreeOf, IsRefusal}
use Rattle.layout_refusals.specs.SamePlace.{IsSamePlace}
use Rattle.layout_refusals.proofs.Refused.{refused_alike}
use Rattle.layout_refusals.proofs.SameTrees.{kinds_of, OneTree}

-- the tree of the layout is that of the text, but for places
pub again_of : (text laid : List ℕ) (tree : Ast) → IsTreeOf text tree → IsInLayout text laid → (again : Ast) × IsTreeOf laid again × EqualButForPlaces tree again
again_of text laid tree parsed in_layout =
    let found = kept_tree text laid tree in_layout (record { tokens = parsed.tokens; cut = parsed.cut; writes = parsed.writes; accepted = parsed.keeps }) in (
      found.again,
      record { tokens = found.parsed.tokens; cut = found.parsed.cut; writes = found.parsed.writes; end = found.end; keeps = found.parsed.accepted },
      sym found.same,
    )

-- the tokens of a text and of its layout have the same kinds
kinds_stay : (text laid : List ℕ) (tree again : Ast) (parsed : IsTreeOf text tree) (also : IsTreeOf laid again) → IsInLayout text laid
    → kinds_of parsed.tokens ≡ kinds_of also.tokens
kinds_stay text laid tree again parsed also in_layout =
    ap kinds_of (same_tokens text parsed.tokens in_layout.kinds.tokens parsed.cut in_layout.kinds.cut) ∙ in_layout.kinds.same
    ∙ sym (ap kinds_of (same_tokens laid also.tokens in_layout.same_kinds.tokens also.cut in_layout.same_kinds.cut) ∙ in_layout.same_kinds.same)

pub laid_refused : OneTree → (text laid : List ℕ) (tree : Ast) (rule : RuleName) (place : Place) → IsTreeOf text tree → IsInLayout text laid
    → IsRefusal text (record { rule = rule; place = place })
    → (its : Place) × IsRefusal laid (record { rule = rule; place = its }) × IsSamePlace text laid place its
laid_refused one text laid tree rule place parsed in_layout refused =
    let again = again_of text laid tree parsed in_layout in
    refused_alike one text laid tree again.0 parsed again.1 (kinds_stay text laid tree again.0 parsed again.1 in_layout) rule place refused

pub text_refused : OneTree → (text laid : List ℕ) (tree : Ast) (rule : RuleName) (place : Place) → IsTreeOf text tree → IsInLayout text laid
    → IsRefusal laid (record { rule = rule; place = place })
    → (its : Place) × IsRefusal text (record { rule = rule; place = its }) × IsSamePlace laid text place its
text_refused one text laid tree rule place parsed in_layout refused =
    let again = again_of text laid tree parsed in_layout in
    refused_alike one laid text again.0 tree again.1 parsed (sym (kinds_stay text laid tree again.0 parsed again.1 in_layout)) rule place refused
