-- The segments of a journal, by their places in it. The first entry is at place 0.
use Rattle.std.specs.Prelude.{◌≡◌, ◌==◌, ◌&&◌, ◌+◌, ℕ, Bool, true, false, List, Some, Contains, count_by, slice_get, take}
use Rattle.seg_journal.specs.declared.journal.End.TheVariants.{Made}
use Rattle.seg_journal.specs.declared.journal.Entry.{Entry}
use Rattle.seg_journal.specs.declared.moves.Kind.{Kind}
use Rattle.seg_journal.specs.declared.moves.Kind.TheVariants.{Admit, Run}
use Rattle.twe_base.specs.Limits.{Bounds}
use Rattle.twe_program.specs.Program.{Program}
use Rattle.seg_meaning.specs.Access.{Access}
use Rattle.machine_state.specs.declared.state.State.{State}
use Rattle.machine_state.specs.declared.state.TaskRow.{TaskRow}
use Rattle.machine_state.specs.Changes.{next_segment}
use Rattle.machine_state.specs.Rows.{IsRow}
use Rattle.machine_state.specs.Runs.{state_after}

-- the state before the entry at this place
abbrev pub state_before : Program → Bounds → List Entry → ℕ → State
state_before p lim journal place = state_after p lim (take place journal)

-- The entry at this place is a segment of task t.
pub record IsSegmentOf (journal : List Entry) (t place : ℕ) : Type 0 where
  pub entry : Entry
  pub there : slice_get journal place ≡ Some entry
  pub runs : entry.mv.kind ≡ Run
  pub task : entry.mv.task ≡ t

-- whether a move of this kind runs a segment
abbrev pub is_run : Kind → Bool
is_run Admit = false
is_run Run = true

-- how many segments of task t are among the entries up to this place, this one included: so if the entry at the place is
-- a segment of t, it is the one of this number, counted from 1
abbrev pub number_of_segment : List Entry → ℕ → ℕ → ℕ
number_of_segment journal t place =
    count_by (λ (entry : Entry). is_run entry.mv.kind && (entry.mv.task == t)) (take (place + 1) journal)

-- The segment of task t at this place spawned task c: the entry made c, and t is the parent of c.
pub record Spawns (p : Program) (lim : Bounds) (journal : List Entry) (t place c : ℕ) : Type 0 where
  pub segment : IsSegmentOf journal t place
  pub made : segment.entry.end ≡ Made c
  pub child : TaskRow
  pub there : IsRow (state_after p lim journal) c child
  pub parent : child.parent ≡ Some t

-- The segment at this place, one of task t, makes this access. A segment is determined by the state before it.
pub record SegmentMakes (p : Program) (lim : Bounds) (journal : List Entry) (t place : ℕ) (access : Access) : Type 0 where
  pub segment : IsSegmentOf journal t place
  pub row : TaskRow
  pub there : IsRow (state_before p lim journal place) t row
  pub makes : Contains (next_segment p (state_before p lim journal place) row).accesses access
