-- What is said of a run that is stuck.
use Rattle.std.specs.Prelude.{count_by, ◌++◌, ◌-◌, ◌==◌, ℕ, List, [], ◌∷◌, codes, decimal, if◌then◌else◌, length, take}
use Rattle.std.specs.List.{flat_map}
use Rattle.wait_graph.specs.declared.stuck.Edge.{Edge}
use Rattle.twe_program.specs.Program.{Program}
use Rattle.machine_state.specs.declared.state.State.{State}
use Rattle.run_facts.specs.declared.making.TaskMaking.{TaskMaking}
use Rattle.twe_report.specs.Texts.{is_undone}
use Rattle.explain_pages.specs.declared.places.note.Explanation.{Explanation}
use Rattle.explain_pages.specs.declared.places.note.Note.{Note}
use Rattle.run_notes.specs.Waits.{held_notes, held_rule, wait_notes}

-- the task of the edge waits for the next one, or is held by it
abbrev pub edge_notes : Program → State → List TaskMaking → Edge → List Note
edge_notes p st makings edge =
    if edge.held then held_notes p st makings edge.from edge.to else wait_notes p st edge.from edge.to

-- at most 50 tasks of a cycle are shown
abbrev pub cycle_notes : Program → State → List TaskMaking → List Edge → List Note
cycle_notes p st makings cycle = flat_map (edge_notes p st makings) (take 50 cycle)

-- words and a number, unless it is 0
abbrev pub count_remarks : List ℕ → ℕ → List (List ℕ)
count_remarks words number = if number == 0 then [] else (words ++ decimal number) ∷ []

-- how many tasks are not done
abbrev pub undone_count : State → ℕ
undone_count st = count_by is_undone st.tasks

-- what is said beside the places of a cycle of so many tasks
abbrev pub stuck_remarks : State → ℕ → List (List ℕ)
stuck_remarks st size =
    held_rule ∷ (count_remarks (codes "further tasks of the cycle: ") (size - 50)
    ++ count_remarks (codes "other tasks that are not done: ") (undone_count st - size))

-- what is said of a run that is stuck in this cycle
abbrev pub stuck_explanation : Program → State → List TaskMaking → List Edge → Explanation
stuck_explanation p st makings cycle = record {
  headline = codes "each of these tasks waits for the next, or is held by it, and the last one by the first";
  notes = cycle_notes p st makings cycle;
  remarks = stuck_remarks st (length cycle);
}
