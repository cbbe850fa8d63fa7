-- What is written of tasks and of what they did.
use Rattle.std.specs.Prelude.{◌++◌, ℕ, List, [], Option, None, Some, codes, slice_get}
use Rattle.seg_journal.specs.declared.journal.End.{End}
use Rattle.seg_journal.specs.declared.journal.End.TheVariants as ends
use Rattle.twe_program.specs.Program.{Program}
use Rattle.machine_state.specs.declared.state.TaskRow.{TaskRow}
use Rattle.twe_frontend.specs.meaning.EffectTexts.{effects_text}
use Rattle.run_texts.specs.TaskLabels.{decl_place_text, task_call}
use Rattle.held_span.specs.declared.hold.Hold.{Hold}
use Rattle.twe_draw.specs.declared.picture.bars.EntryBar.{EntryBar}
use Rattle.twe_draw.specs.Numbers.{with_number}

-- a task with the place of its declaration and its effects, as `3 walk(1) of 4:6, writes A:[1]`
abbrev pub task_details : Program → TaskRow → List ℕ
task_details p row =
    task_call p row
    ++ (decl_place_text (slice_get p.tasks row.decl) ++ (codes ", " ++ effects_text p.regions [] row.effects.effects))

-- the same of a row that was looked up
abbrev pub details_found : Program → Option TaskRow → List ℕ
details_found p None = []
details_found p (Some row) = task_details p row

-- how an entry ended
abbrev pub end_words : End → List ℕ
end_words ends.Admitted = codes ": admitted"
end_words (ends.Made child) = with_number (codes ": makes ") child
end_words (ends.Waits on) = with_number (codes ": waits for ") on
end_words (ends.Joins on) = with_number (codes ": joins ") on
end_words (ends.Done value) = codes ": is done"
end_words (ends.Fault kind place) = codes ": meets a fault"

-- the number of an entry, and when it begins and ends, as `entry 4, 6 to 7, `
abbrev pub entry_words : EntryBar → List ℕ
entry_words bar =
    with_number (codes "entry ") bar.number
    ++ (with_number (codes ", ") bar.begins ++ (with_number (codes " to ") bar.ends ++ codes ", "))

-- what a bar tells: its entry, its task, and how the entry ended
abbrev pub bar_title : Program → List TaskRow → EntryBar → List ℕ
bar_title p tasks bar = entry_words bar ++ (details_found p (slice_get tasks bar.task) ++ end_words bar.end)

-- the label of a task that was looked up
abbrev pub label_found : Program → Option TaskRow → List ℕ
label_found p None = []
label_found p (Some row) = task_call p row

-- whom a task waits for that has ended an entry so, as `: waits for 3 walk(1)`
abbrev pub awaited_words : Program → List TaskRow → End → List ℕ
awaited_words p tasks (ends.Waits on) = codes ": waits for " ++ label_found p (slice_get tasks on)
awaited_words p tasks (ends.Joins on) = codes ": joins " ++ label_found p (slice_get tasks on)
awaited_words p tasks _ = []

-- what a grey box tells after this bar: its task, and whom that waits for
abbrev pub wait_title : Program → List TaskRow → EntryBar → List ℕ
wait_title p tasks bar = label_found p (slice_get tasks bar.task) ++ awaited_words p tasks bar.end

-- who held a task, as `: is held by 3 inc(1)`
unfoldable pub holder_words : Program → List TaskRow → ℕ → List ℕ
holder_words p tasks holder = codes ": is held by " ++ label_found p (slice_get tasks holder)

-- who held a task, and what freed it, as `: is held by 3 inc(1), until entry 7`
abbrev pub held_words : Program → List TaskRow → Hold → List ℕ
held_words p tasks hold = holder_words p tasks hold.holder ++ with_number (codes ", until entry ") hold.freed_by

-- what a hatched box tells: the task that was held, by whom, and what freed it
abbrev pub held_title : Program → List TaskRow → Hold → List ℕ
held_title p tasks hold = label_found p (slice_get tasks hold.task) ++ held_words p tasks hold
