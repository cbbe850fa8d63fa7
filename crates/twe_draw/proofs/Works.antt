-- The works of tasks, with that of one entry more.
use Rattle.std.proofs.Common.{◌≡◌, ◌≤◌, ◌<◌, ◌+◌, ◌*◌, ◌^◌, ℕ, List, length, sym, subst, arith}
use Rattle.std.specs.Prelude.{nat_lt, slice_index, slice_set}
use Rattle.twe_draw.specs.picture.Bars.{bar_length}
use Rattle.twe_draw.specs.declared.picture.bars.EntryBar.{EntryBar}
use Rattle.twe_draw.specs.Shown.{with_entry_work}
use Rattle.twe_draw.proofs.Lists.{either_keeps_bound, set_keeps_bound}

-- they stay small
pub small_more : (works new : List ℕ) (bar : EntryBar) (i task : ℕ) → new ≡ with_entry_work works bar → bar_length bar < 2 ^ 64
    → ((t : ℕ) → slice_index works t ≤ i * 2 ^ 64) → slice_index new task ≤ (i + 1) * 2 ^ 64
small_more works new bar i task is short small =
    let old = small task in
    let own = small bar.task in
    let kept : slice_index works task ≤ (i + 1) * 2 ^ 64 = omega arith in
    let added : slice_index works bar.task + bar_length bar ≤ (i + 1) * 2 ^ 64 = omega arith in
    subst (λ (l : List ℕ). slice_index l task ≤ (i + 1) * 2 ^ 64) (sym is)
    (either_keeps_bound (nat_lt bar.task (length works))
    (slice_set works bar.task (slice_index works bar.task + bar_length bar)) works ((i + 1) * 2 ^ 64) task
    (set_keeps_bound works bar.task (slice_index works bar.task + bar_length bar) ((i + 1) * 2 ^ 64) task kept added) kept)
