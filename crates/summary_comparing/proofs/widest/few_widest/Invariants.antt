use Rattle.std.proofs.Common.{◌≡◌, length}
use Rattle.summary_comparing.specs.inner.Keeping.{KeepsWidest}
use Rattle.summary_comparing.proofs.widest.few_widest.Given as goal

-- so many widest ones were kept
abbrev pub invariant-loop-count : goal.invariant-loop-count
invariant-loop-count l = record {
  keeps : KeepsWidest l.effects l.kept l.left;
  many : length l.kept ≡ l.count;
}
