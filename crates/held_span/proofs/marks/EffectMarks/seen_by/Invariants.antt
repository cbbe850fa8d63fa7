use Rattle.std.proofs.Common.{◌≡◌, take}
use Rattle.std.specs.List.{flat_map}
use Rattle.held_span.specs.Marks.{seen_marks}
use Rattle.held_span.proofs.marks.EffectMarks.seen_by.Given as goal

-- the marks for the effects up to here were added
abbrev pub invariant-loop-effect : goal.invariant-loop-effect
invariant-loop-effect l = l.marks ≡ flat_map (seen_marks l.self) (take l.effect-index l.effect-items)
