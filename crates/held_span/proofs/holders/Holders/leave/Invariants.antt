use Rattle.std.proofs.Common.{◌≡◌, ◌↔◌, ℕ, take}
use Rattle.std.specs.List.{Contains}
use Rattle.held_span.specs.declared.marks.EffectMark.{EffectMark}
use Rattle.held_span.specs.inner.Holding.{Holds, KeepsRoom}
use Rattle.held_span.proofs.holders.Holders.leave.Given as goal

-- the task leaves none of the marks up to here any more
abbrev pub invariant-loop-mark : goal.invariant-loop-mark
invariant-loop-mark l = record {
  room : KeepsRoom l.fn.self l.self;
  left : (m : EffectMark) (t : ℕ) → Holds l.self m t ↔ (Holds l.fn.self m t × ¬ ((t ≡ l.task) × Contains (take l.mark-index l.marks) m));
}
