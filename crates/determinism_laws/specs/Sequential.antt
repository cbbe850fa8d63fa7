-- The segments below a task, executed one after another in the order of sequential code, on the cells as they were when the
-- task became enabled: each finds the values that it found in the journal.
use Rattle.std.specs.Prelude.{◌≡◌, ◌≤◌, ◌<◌, ◌+◌, ◌⊎◌, ◌↔◌, ◌++◌, ℕ, zero, suc, pos, IsTrue, List, [], ◌∷◌, Contains, slice_get}
use Rattle.effect_sets.specs.Access.{AccessInterferesWithSome}
use Rattle.seg_journal.specs.declared.journal.Entry.{Entry}
use Rattle.twe_base.specs.Limits.{Bounds}
use Rattle.twe_program.specs.Program.{Program}
use Rattle.seg_meaning.specs.Access.{Writes}
use Rattle.isolation_laws.specs.soundness.DeclaredNow.{access_of}
use Rattle.machine_state.specs.declared.state.TaskRow.{TaskRow}
use Rattle.machine_state.specs.declared.state.TaskStatus.TheVariants.{Enabled}
use Rattle.machine_state.specs.Changes.{next_segment}
use Rattle.machine_state.specs.Rows.{HasStatus, IsRow}
use Rattle.determinism_laws.specs.Orders.{EachStandsOnce, PrecedesIn, PrintAlike, SegmentAccesses, accesses_cell, after_all}
use Rattle.determinism_laws.specs.Ranks.{ComesBefore, HasRank, IsBelow}
use Rattle.determinism_laws.specs.Segments.{IsSegmentOf, state_before}

-- The segment at this place accesses this. Its place is its key.
pub record IsSegmentAt (p : Program) (lim : Bounds) (journal : List Entry) (place : ℕ) (s : SegmentAccesses) : Type 0 where
  pub task : ℕ
  pub segment : IsSegmentOf journal task place
  pub row : TaskRow
  pub there : IsRow (state_before p lim journal place) task row
  pub key : s.key ≡ place
  pub accesses : s.accesses ≡ (next_segment p (state_before p lim journal place) row).accesses

-- the list has the segments of t and of the tasks below it that are among the `count` entries from the place `from` on,
-- in the order of the journal
abbrev pub AreSegmentsBelow : Program → Bounds → List Entry → ℕ → ℕ → ℕ → List SegmentAccesses → Type 0
AreSegmentsBelow p lim journal t from zero segments = segments ≡ []
AreSegmentsBelow p lim journal t from (suc count) segments =
    ((before : List SegmentAccesses) × (s : SegmentAccesses) × AreSegmentsBelow p lim journal t from count before
    × IsBelow p lim journal t (from + count) × IsSegmentAt p lim journal (from + count) s × (segments ≡ before ++ s ∷ []))
    ⊎ ((¬ IsBelow p lim journal t (from + count)) × AreSegmentsBelow p lim journal t from count segments)

-- t is enabled before each of these entries
abbrev pub IsEnabledThroughout : Program → Bounds → List Entry → ℕ → ℕ → ℕ → Type 0
IsEnabledThroughout p lim journal t from count =
    (n : ℕ) → from ≤ n → n < from + count → HasStatus (state_before p lim journal n) t Enabled

-- the cell is under the effects of the task: a write of it interferes with one of them
abbrev pub IsUnder : Program → TaskRow → ℕ → Type 0
IsUnder p row cell = AccessInterferesWithSome (access_of p (Writes cell (pos 0))) row.effects.effects

-- The second list has the segments of the first, each once, in the order of their ranks below t.
pub record IsRankOrder (p : Program) (lim : Bounds) (journal : List Entry) (t : ℕ)
    (segments ordered : List SegmentAccesses) : Type 0 where
  pub once : EachStandsOnce ordered
  pub members : (s : SegmentAccesses) → Contains segments s ↔ Contains ordered s
  pub sorted : (a b : SegmentAccesses) (first second : List ℕ) → PrecedesIn ordered a b
      → HasRank p lim journal t a.key first → HasRank p lim journal t b.key second → ComesBefore first second

-- What the segments find and leave when they are executed in this order, on the cells before the entry at `from`. Each
-- finds, in each cell that it accesses, the value that it found in the journal. At the end each cell under the effects of
-- the task has the value that it has after the entries. The segments that print come as in the journal.
pub record ExecuteAlike (p : Program) (lim : Bounds) (journal : List Entry) (row : TaskRow) (from count : ℕ)
    (segments ordered : List SegmentAccesses) : Type 0 where
  pub finds : (s : SegmentAccesses) (before later : List SegmentAccesses) → ordered ≡ before ++ s ∷ later
      → (cell : ℕ) → IsTrue (accesses_cell cell s)
      → slice_get (after_all (state_before p lim journal from).cells before) cell
      ≡ slice_get (state_before p lim journal s.key).cells cell
  pub leaves : (cell : ℕ) → IsUnder p row cell
      → slice_get (after_all (state_before p lim journal from).cells ordered) cell
      ≡ slice_get (state_before p lim journal (from + count)).cells cell
  pub prints : PrintAlike segments ordered

-- while t is enabled, the segments below it are executed alike in the order of the ranks
abbrev pub ExecutesInRankOrder : Program → Bounds → List Entry → ℕ → TaskRow → Type 0
ExecutesInRankOrder p lim journal t row =
    (from count : ℕ) (segments ordered : List SegmentAccesses) → IsEnabledThroughout p lim journal t from count
    → AreSegmentsBelow p lim journal t from count segments → IsRankOrder p lim journal t segments ordered
    → ExecuteAlike p lim journal row from count segments ordered

-- the segments below t among these entries can be listed
abbrev pub SegmentsCanBeListed : Program → Bounds → List Entry → ℕ → Type 0
SegmentsCanBeListed p lim journal t =
    (from count : ℕ) → (segments : List SegmentAccesses) × AreSegmentsBelow p lim journal t from count segments
