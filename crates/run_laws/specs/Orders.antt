-- Who has made a task, which of two tasks was enabled before the other, and which task decides for others.
use Rattle.std.specs.Prelude.{◌≡◌, ◌≢◌, ◌++◌, ℕ, List, ◌∷◌, None, Some, slice_get, take}
use Rattle.seg_journal.specs.declared.journal.End.TheVariants as ends
use Rattle.seg_journal.specs.declared.journal.Entry.{Entry}
use Rattle.seg_journal.specs.declared.moves.Kind.TheVariants.{Admit}
use Rattle.twe_base.specs.Limits.{Bounds}
use Rattle.twe_program.specs.Program.{Program}
use Rattle.wait_graph.specs.Waiting.{YieldsTo}
use Rattle.machine_state.specs.declared.state.State.{State}
use Rattle.machine_state.specs.declared.state.TaskRow.{TaskRow}
use Rattle.machine_state.specs.declared.state.TaskStatus.TheVariants.{Enabled, Made}
use Rattle.machine_state.specs.Legal.{Interfere}
use Rattle.machine_state.specs.Rows.{HasStatus, IsRow}
use Rattle.machine_state.specs.Runs.{state_after}

-- an entry of the journal is a move of s that made u
pub record HasMade (journal : List Entry) (s u : ℕ) : Type 0 where
  pub entry : Entry
  pub place : ℕ
  pub there : slice_get journal place ≡ Some entry
  pub by : entry.mv.task ≡ s
  pub made : entry.end ≡ ends.Made u

-- task t is not enabled yet: it was not made, or it waits for its admission
abbrev pub IsNotEnabledYet : State → ℕ → Type 0
IsNotEnabledYet st t = (row : TaskRow) → IsRow st t row → row.status ≡ Made

-- s was enabled before t: after so many moves of the journal s is enabled, and t is not enabled yet
pub record WasEnabledBefore (p : Program) (lim : Bounds) (journal : List Entry) (s t : ℕ) : Type 0 where
  pub moves : ℕ
  pub first : HasStatus (state_after p lim (take moves journal)) s Enabled
  pub second : IsNotEnabledYet (state_after p lim (take moves journal)) t

-- of two tasks that are enabled after the journal and interfere, the one that was enabled before the other yields to it
abbrev pub EarlierYield : Program → Bounds → List Entry → Type 0
EarlierYield p lim journal =
    let st = state_after p lim journal in
    (s t : ℕ) → HasStatus st s Enabled → HasStatus st t Enabled → Interfere st s t
    → WasEnabledBefore p lim journal s t → YieldsTo st.links s t

-- w decides for r: both are enabled after the journal, their effects interfere, r was enabled before w, and w was admitted, since
-- nobody spawned it
pub record DecidesFor (p : Program) (lim : Bounds) (journal : List Entry) (w r : ℕ) : Type 0 where
  pub row : TaskRow
  pub there : IsRow (state_after p lim journal) w row
  pub enabled : row.status ≡ Enabled
  pub admitted : row.parent ≡ None
  pub earlier : HasStatus (state_after p lim journal) r Enabled
  pub interfere : Interfere (state_after p lim journal) r w
  pub before : WasEnabledBefore p lim journal r w

-- an entry of the journal admits w while another task r is enabled whose effects interfere with those of w
pub record IsAdmittedAfter (p : Program) (lim : Bounds) (journal : List Entry) (w r : ℕ) : Type 0 where
  pub entry : Entry
  pub earlier : List Entry
  pub later : List Entry
  pub split : journal ≡ earlier ++ entry ∷ later
  pub admits : entry.mv ≡ record { kind = Admit; task = w }
  pub other : r ≢ w
  pub enabled : HasStatus (state_after p lim earlier) r Enabled
  pub interfere : Interfere (state_after p lim earlier) r w
