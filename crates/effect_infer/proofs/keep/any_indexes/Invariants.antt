use Rattle.std.proofs.Common.{◌≡◌, ◌≤◌, ◌+◌, drop}
use Rattle.effect_infer.specs.Kept.{any_indexes}
use Rattle.effect_infer.proofs.keep.any_indexes.Given as goal

-- the count so far and that of what is left are the count of all
abbrev pub invariant-loop-elem : goal.invariant-loop-elem
invariant-loop-elem l = record { few : l.count ≤ l.elem-index; rest : l.count + any_indexes (drop l.elem-index l.elems) ≡ any_indexes l.elems }
