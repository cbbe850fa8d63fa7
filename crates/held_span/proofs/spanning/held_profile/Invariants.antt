use Rattle.std.proofs.Common.{drop, take}
use Rattle.held_span.specs.inner.Spanning.{IsSpanning}
use Rattle.held_span.proofs.spanning.held_profile.Given as goal

-- the entries up to here were taken
abbrev pub invariant-loop-entry : goal.invariant-loop-entry
invariant-loop-entry l = IsSpanning l.p l.lim l.marks l.st.tasks (take l.entry-index l.entry-items) (drop l.entry-index l.entry-items) l.run
