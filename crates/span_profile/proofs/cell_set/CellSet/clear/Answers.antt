use Rattle.std.proofs.Common.{ℕ, List, ap, ◌∙◌, sym}
use Rattle.span_profile.specs.inner.Sets.{is_in}
use Rattle.span_profile.proofs.NumberSets.{in_below}
use Rattle.span_profile.proofs.cell_set.CellSet.clear.Goals as goal

-- the cells of the set are below its size
pub take_out-requires : goal.take_out-requires
take_out-requires c = λ n is.
    in_below c.self.inside.has n (c.self.invariant.listed n ∙ (sym (ap (λ (l : List ℕ). is_in l n) c.as_slice.ensures.value) ∙ is))
