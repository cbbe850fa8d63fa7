use Rattle.std.proofs.Common.{◌≡◌, ◌++◌, map, take}
use Rattle.held_span.specs.inner.Keys.{mark_key}
use Rattle.held_span.proofs.keys.push_marks.Given as goal

-- the keys of the marks up to here were added
abbrev pub invariant-loop-mark : goal.invariant-loop-mark
invariant-loop-mark l = l.keys ≡ l.initial.keys ++ map (mark_key l.tasks) (take l.mark-index l.marks)
