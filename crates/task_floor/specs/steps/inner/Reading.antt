-- The rows that words and tasks show.
use Rattle.std.specs.Prelude.{◌+◌, ◌*◌, ℕ, zero, suc, Bool, false, not, List, [], ◌∷◌, Option, None, Some, map, take}
use lib.ListN.{get_elem?}
use Rattle.wait_graph.specs.declared.tasks.Link.{Link}
use Rattle.wait_graph.specs.Link.{new_link}
use Rattle.machine_state.specs.declared.state.TaskRow.{TaskRow}
use Rattle.machine_state.specs.Rows.{link_of_row}
use Rattle.floor_laws.specs.declared.rule.view.TaskSlot.{TaskSlot}
use Rattle.floor_laws.specs.rule.Shown.{is_unjoined, row_by}
use Rattle.floor_laws.specs.table.Layout.{phase_word_at, task_span}

-- what lies in those slots that are not empty
abbrev pub held_in : List (Option TaskSlot) → List TaskSlot
held_in [] = []
held_in (None ∷ slots) = held_in slots
held_in (Some slot ∷ slots) = slot ∷ held_in slots

-- whether a task with this parent was joined, unless some task has it as an unjoined child
abbrev pub joined_unless : Option ℕ → Bool → Bool
joined_unless None unjoined = false
joined_unless (Some parent) unjoined = not unjoined

-- The rows of these tasks, which are numbered from t on. The words of task 0 lie from the place `first` on, and `all` are all
-- tasks. Whether a task is an unjoined child is told by the tasks before it.
abbrev pub rows_from : List ℕ → ℕ → List TaskSlot → ℕ → List TaskSlot → List TaskRow
rows_from words first all t [] = []
rows_from words first all t (slot ∷ slots) =
    row_by slot (phase_word_at (get_elem? words (first + task_span * t + 1)))
    (joined_unless slot.parent (is_unjoined t (take t all)))
    ∷ rows_from words first all (t + 1) slots

-- the links of a task before its waits and marks are set
abbrev pub fresh_link : TaskRow → Link
fresh_link row = new_link row.parent

-- the links once those of the first n tasks are set
abbrev pub links_to : ℕ → List TaskRow → List Link
links_to zero rows = map fresh_link rows
links_to (suc n) [] = []
links_to (suc n) (row ∷ rows) = link_of_row row ∷ links_to n rows
