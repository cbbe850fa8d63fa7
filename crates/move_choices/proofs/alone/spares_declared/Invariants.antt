use Rattle.std.proofs.Common.{◌≡◌, ◌<◌, ℕ, false, Some, slice_get}
use Rattle.effect_sets.specs.Interference.{statically_interfere}
use Rattle.twe_program.specs.declared.program.Decl.{Decl}
use Rattle.move_choices.proofs.alone.spares_declared.Given as goal

-- those that were looked at
abbrev pub invariant-loop-n : goal.invariant-loop-n
invariant-loop-n l = (k : ℕ) (decl : Decl) → k < l.n → slice_get l.p.tasks k ≡ Some decl → statically_interfere decl.summary l.effects ≡ false
