use Rattle.std.proofs.Common.{◌<◌, ◌+◌}
use Rattle.effect_infer.specs.Kept.{KeepsNeeds, method_rank}
use Rattle.effect_infer.proofs.keep.keep_widest.Given as goal

-- the ranks so far are done with
abbrev pub invariant-loop-below : goal.invariant-loop-below
invariant-loop-below l = KeepsNeeds l.methods l.all l.table (λ f. l.top < method_rank f.need + l.below)
