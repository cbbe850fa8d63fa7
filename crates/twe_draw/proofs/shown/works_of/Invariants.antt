use Rattle.std.proofs.Common.{◌≡◌, ◌≤◌, ◌*◌, ◌^◌, ℕ, length, take, replicate}
use Rattle.std.specs.Prelude.{slice_index}
use Rattle.std.specs.List.{fold}
use Rattle.twe_draw.specs.Shown.{with_entry_work}
use Rattle.twe_draw.proofs.shown.works_of.Given as goal

-- the entries up to here were added
abbrev pub invariant-loop-bar : goal.invariant-loop-bar
invariant-loop-bar l = record {
  count : length l.works ≡ l.tasks;
  added : l.works ≡ fold with_entry_work (replicate l.tasks 0) (take l.bar-index l.bars);
  small : (task : ℕ) → slice_index l.works task ≤ l.bar-index * 2 ^ 64;
}
