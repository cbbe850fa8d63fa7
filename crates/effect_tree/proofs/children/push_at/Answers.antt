-- The one list is replaced, and the items of the others stay.
use Rattle.std.proofs.Common.{ℕ, ◌∷◌, [], ◌++◌, List, set, sym, ap, ◌∙◌}
use Rattle.std.proofs.lemmas.List.{map-set, get_or-map}
use Rattle.effect_tree.specs.inner.Children.{items_of}
use Rattle.effect_tree.proofs.children.push_at.Goals as goal

pub returns : goal.returns
returns c =
    let lists = c.args.lists.now in
    let at = c.args.at in
    map-set (λ v. v.items) lists.items at c.push.new.self
    ∙ ap (set (items_of lists) at)
    (c.in_ok-push.ensures.items
    ∙ ap (λ (xs : List ℕ). xs ++ c.args.number ∷ [])
    (ap (λ v. v.items) c.index_mut.ensures.value ∙ sym (get_or-map (λ v. v.items) lists.items at c.index_mut.result.now [] c.requires)))
