use Rattle.std.proofs.Common.{◌≡◌, take}
use Rattle.std.specs.List.{flat_map}
use Rattle.held_span.specs.Marks.{left_marks}
use Rattle.held_span.proofs.marks.EffectMarks.left_by.Given as goal

-- the marks for the effects up to here were added
abbrev pub invariant-loop-effect : goal.invariant-loop-effect
invariant-loop-effect l = l.marks ≡ flat_map (left_marks l.self) (take l.effect-index l.effect-items)
