use Rattle.std.proofs.Common.{◌≡◌, ◌+◌, ◌<◌, ◌++◌, ℕ, false, drop, length, take}
use Rattle.std.specs.Prelude.{slice_index_or}
use Rattle.std.specs.Vec.Iter.{into_iter_items, into_iter_len}
use Rattle.core.specs.Mem.Slots.{slots_items}
use Rattle.floor_laws.specs.rule.Shown.{is_unjoined}
use Rattle.task_floor.specs.steps.inner.Reading.{rows_from}
use Rattle.task_floor.proofs.reading.rows_of.Given as goal

-- the tasks that are left lead to the same rows, and the marks are those of the tasks so far
abbrev pub invariant-loop-task : goal.invariant-loop-task
invariant-loop-task l = record {
  rows : l.rows.items ++ rows_from (slots_items l.table.words) l.first l.fn.tasks (length l.rows.items) (into_iter_items l.task-iterator) ≡ rows_from (slots_items l.table.words) l.first l.fn.tasks 0 l.fn.tasks;
  count : into_iter_len l.task-iterator ≡ length (into_iter_items l.task-iterator);
  whole : length l.rows.items + length (into_iter_items l.task-iterator) ≡ length l.fn.tasks;
  left : drop (length l.rows.items) l.fn.tasks ≡ into_iter_items l.task-iterator;
  size : length l.marks ≡ length l.fn.tasks;
  marks : (c : ℕ) → c < length l.fn.tasks → slice_index_or l.marks c false ≡ is_unjoined c (take (length l.rows.items) l.fn.tasks);
}
