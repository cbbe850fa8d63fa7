-- The rule of the floor: what holds between any two atomic steps.
use Rattle.std.specs.Prelude.{◌≡◌, ◌&&◌, ◌==◌, ℕ, List, length, Some, count_by, if◌then◌else◌, nat_lt, slice_get}
use Rattle.twe_base.specs.Limits.{Bounds}
use Rattle.twe_program.specs.Program.{Program}
use Rattle.machine_state.specs.Runs.{Legal, state_after}
use Rattle.seg_journal.specs.declared.numbered.NumberedEntry.{NumberedEntry}
use Rattle.seg_journal.specs.Merging.{has_number, journal_of, prints_of}
use Rattle.floor_laws.specs.rule.Floors.{Floor}
use Rattle.floor_laws.specs.rule.Fitting.{FloorFits}
use Rattle.floor_laws.specs.admission.admission_core.States.{IsAmong}

-- the entries have the numbers 0, 1 and so on, in this order
abbrev pub AreInOrder : List NumberedEntry → Type 0
AreInOrder log = (n : ℕ) (e : NumberedEntry) → slice_get log n ≡ Some e → e.number ≡ n

-- how often seat i has drawn the number n, if this seat is the owner of n: once, or never
abbrev pub times_drawn : List NumberedEntry → (ℕ → ℕ) → ℕ → ℕ → ℕ
times_drawn log owner i n = if nat_lt n (length log) && (owner n == i) then 1 else 0

-- Each entry of the log was drawn by one seat, its owner, and is in that seat's part once. The parts have nothing else.
pub record LiesInParts (log : List NumberedEntry) (parts : ℕ → List NumberedEntry) : Type 0 where
  pub owner : ℕ → ℕ
  pub entries : (i : ℕ) (e : NumberedEntry) → IsAmong e (parts i) → slice_get log e.number ≡ Some e
  pub once : (i n : ℕ) → count_by (has_number n) (parts i) ≡ times_drawn log owner i n

-- The journal so far: the entries that all seats have drawn, in the order of their numbers, with what their segments
-- printed. It is legal, and the floor fits the state that it leads to.
pub record KeepsRule (p : Program) (lim : Bounds) (log : List NumberedEntry) (f : Floor) : Type 0 where
  pub legal : Legal p lim (journal_of log)
  pub numbers : AreInOrder log
  pub parts : LiesInParts log f.parts
  pub entries : f.entries ≡ length log
  pub prints : (state_after p lim (journal_of log)).prints ≡ prints_of log
  pub fits : FloorFits p (state_after p lim (journal_of log)) f
