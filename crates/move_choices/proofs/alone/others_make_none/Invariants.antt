use Rattle.std.proofs.Common.{◌≡◌, ◌≢◌, ◌<◌, ℕ, Some, slice_get}
use Rattle.seg_meaning.specs.Entry.{future_count_of}
use Rattle.machine_state.specs.declared.state.TaskRow.{TaskRow}
use Rattle.machine_state.specs.declared.state.TaskStatus.TheVariants.{Done}
use Rattle.move_choices.proofs.alone.others_make_none.Given as goal

-- those that were looked at
abbrev pub invariant-loop-u : goal.invariant-loop-u
invariant-loop-u l = (k : ℕ) (row : TaskRow) → k < l.u → k ≢ l.t → slice_get l.st.tasks k ≡ Some row → row.status ≢ Done → future_count_of (slice_get l.p.tasks row.decl) ≡ 0
