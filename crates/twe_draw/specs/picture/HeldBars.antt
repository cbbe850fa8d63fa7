-- Holds and bars.
use Rattle.std.specs.Prelude.{◌≡◌, ◌+◌, ◌<◌, ℕ, List, Some, slice_get}
use Rattle.seg_journal.specs.declared.moves.Kind.TheVariants.{Admit}
use Rattle.span_profile.specs.Strands.{made_task}
use Rattle.held_span.specs.declared.hold.Hold.{Hold}
use Rattle.twe_draw.specs.declared.picture.bars.EntryBar.{EntryBar}

-- The hold is of the admission of this bar. It lasts from the end of the bar of the entry that made the task to its beginning,
-- which is where the bar of the entry that freed it ends.
pub record StandsBetween (bars : List EntryBar) (hold : Hold) : Type 0 where
  pub bar : EntryBar
  pub there : slice_get bars hold.entry ≡ Some bar
  pub kind : bar.kind ≡ Admit
  pub task : bar.task ≡ hold.task
  pub number : ℕ
  pub maker : EntryBar
  pub maker_there : slice_get bars number ≡ Some maker
  pub made : made_task maker.end ≡ Some hold.task
  pub freeing : EntryBar
  pub freeing_there : slice_get bars hold.freed_by ≡ Some freeing
  pub some : 0 < hold.time
  pub since : maker.ends + hold.time ≡ bar.begins
  pub until : freeing.ends ≡ bar.begins
