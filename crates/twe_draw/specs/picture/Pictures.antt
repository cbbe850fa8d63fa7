-- The picture of a list of moves.
use Rattle.std.specs.Prelude.{◌≡◌, ℕ, List, [], map}
use Rattle.seg_journal.specs.declared.journal.Entry.{Entry}
use Rattle.seg_journal.specs.declared.moves.Move.{Move}
use Rattle.seg_journal.specs.Spelling.{move_of}
use Rattle.twe_base.specs.Limits.{Bounds}
use Rattle.twe_program.specs.Program.{Program}
use Rattle.machine_state.specs.declared.state.TaskRow.{TaskRow}
use Rattle.machine_state.specs.Moves.{start_of}
use Rattle.machine_state.specs.Runs.{Legal, counted, state_after}
use Rattle.span_profile.specs.Profiles.{IsProfile}
use Rattle.held_span.specs.HeldSpans.{IsHeldProfile}
use Rattle.held_span.specs.declared.hold.Hold.{Hold}
use Rattle.twe_draw.specs.picture.Bars.{bars_from}
use Rattle.twe_draw.specs.declared.picture.bars.EntryBar.{EntryBar}

-- The moves are those of a legal journal. There is a bar for each entry of its part that counts, at these times, and the tasks
-- are all that the journal has made.
pub record AreBars (p : Program) (lim : Bounds) (moves : List Move) (starts ends : List ℕ) (bars : List EntryBar)
    (tasks : List TaskRow) : Type 0 where
  pub journal : List Entry
  pub legal : Legal p lim journal
  pub has : map move_of journal ≡ moves
  pub bars_are : bars ≡ bars_from p lim starts ends (start_of p lim) [] (counted journal)
  pub tasks_are : tasks ≡ (state_after p lim journal).tasks

-- the bars, the tasks and the holds of the moves, with their profiles; each bar stands at the earliest times of its entry, if an
-- admission also follows what freed it
pub record IsPicture (p : Program) (lim : Bounds) (moves : List Move) (work span held : ℕ) (chain : List ℕ)
    (bars : List EntryBar) (tasks : List TaskRow) (holds : List Hold) : Type 0 where
  pub starts : List ℕ
  pub ends : List ℕ
  pub profile : IsProfile p lim moves work span chain
  pub times : IsHeldProfile p lim moves held starts ends holds
  pub drawn : AreBars p lim moves starts ends bars tasks

-- the rows of the tasks at the end of the part that counts
abbrev pub held_rows : {p : Program} {lim : Bounds} {moves : List Move} {work span held : ℕ} {chain : List ℕ} {bars : List EntryBar}
    {tasks : List TaskRow} {holds : List Hold} → IsPicture p lim moves work span held chain bars tasks holds → List TaskRow
held_rows picture = picture.times.held.st.tasks
