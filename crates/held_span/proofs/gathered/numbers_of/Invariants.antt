use Rattle.std.proofs.Common.{ℕ, take}
use Rattle.effect_sets.specs.declared.effects.Effect.{Effect}
use Rattle.held_span.specs.Gathering.{ArePlaced}
use Rattle.held_span.specs.Rivals.{AreNumbersOf, IsNumberOf}
use Rattle.held_span.proofs.gathered.numbers_of.Given as goal

-- the effects up to here have their numbers
abbrev pub invariant-loop-effect : goal.invariant-loop-effect
invariant-loop-effect l = record {
  placed : ArePlaced l.placed;
  numbers : AreNumbersOf l.placed.effects l.numbers (take l.effect-index l.effects);
  kept : (n : ℕ) (other : Effect) → IsNumberOf l.initial.placed.effects n other → IsNumberOf l.placed.effects n other;
}
