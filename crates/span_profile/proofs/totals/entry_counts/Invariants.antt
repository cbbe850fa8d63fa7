use Rattle.std.proofs.Common.{◌≡◌, ◌<◌, ℕ, length, take}
use Rattle.std.specs.Prelude.{slice_index}
use Rattle.span_profile.specs.Totals.{entries_of}
use Rattle.span_profile.proofs.totals.entry_counts.Given as goal

-- the entries up to here were counted
abbrev pub invariant-loop-entry : goal.invariant-loop-entry
invariant-loop-entry l = record {
  count : length l.counts ≡ l.tasks;
  same : (t : ℕ) → t < l.tasks → slice_index l.counts t ≡ entries_of t (take l.entry-index l.journal);
}
