use Rattle.std.proofs.Common.{◌==◌, List, ℕ, sym, ap, ◌∙◌}
use Rattle.std.specs.List.{position}
use Rattle.seg_meaning.proofs.Without.{without_found, without_missing}
use Rattle.seg_meaning.proofs.children.remove_child.Goals as goal

pub returns-in_default-clause-items : goal.returns-in_default-clause-items
returns-in_default-clause-items c =
    sym (without_missing c.args.child c.args.items.now.items
    (ap (λ (l : List ℕ). position (λ x. x == c.args.child) l) (sym c.as_slice.ensures.value) ∙ sym c.place_of.ensures ∙ c.in_default.is))

pub returns-clause-items : goal.returns-clause-items
returns-clause-items c =
    c.remove.ensures.items ∙ sym (without_found c.args.child c.args.items.now.items c.in-Some.at
    (ap (λ (l : List ℕ). position (λ x. x == c.args.child) l) (sym c.as_slice.ensures.value) ∙ sym c.place_of.ensures ∙ c.in-Some.is))
