use Rattle.std.proofs.Common.{◌≡◌, false, replicate, refl, ◌∙◌}
use Rattle.span_profile.proofs.NumberSets.{new_set, same_set}
use Rattle.span_profile.proofs.cell_set.CellSet.new.Goals as goal

pub invariant_of-result : goal.invariant_of-result
invariant_of-result c =
    let empty : c.in_ok-vec.field-0.items ≡ replicate c.args.size false = c.in_ok-vec.ensures.items_if_clones_equal (λ y is. is) in
    same_set _ _ _ _ _ _ (c.from-has.ensures ∙ empty) c.in_ok-cells.ensures.items refl (new_set c.args.size _ c.in_ok-cells.ensures.capacity)
