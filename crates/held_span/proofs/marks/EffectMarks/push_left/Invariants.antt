use Rattle.std.proofs.Common.{◌≡◌, ◌++◌, map, take}
use Rattle.held_span.specs.declared.marks.EffectMark.TheVariants.{Rival}
use Rattle.held_span.proofs.marks.EffectMarks.push_left.Given as goal

-- the marks for the rivals up to here were added
abbrev pub invariant-loop-rival : goal.invariant-loop-rival
invariant-loop-rival l = l.marks ≡ l.initial.marks ++ map (λ rival. Rival rival) (take l.rival-index l.rival-items)
