use Rattle.std.proofs.Common.{◌≡◌, drop}
use Rattle.run_facts.specs.Clashes.{first_clashing}
use Rattle.run_facts.proofs.clashes.first_clashing.Given as goal

-- none of the effects up to here
abbrev pub invariant-loop-effect : goal.invariant-loop-effect
invariant-loop-effect l = first_clashing (drop l.effect-index l.effects) l.others ≡ first_clashing l.effects l.others
