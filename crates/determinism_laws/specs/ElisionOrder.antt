-- What makes a deterministic task's result the one of sequential code: conflicting accesses below it are in the order of
-- sequential code, and nobody else meddles.
use Rattle.std.specs.Prelude.{◌<◌, ℕ, List}
use Rattle.effect_sets.specs.Access.{AccessInterferesWithSome, Conflict, SomeCoversAccess}
use Rattle.seg_journal.specs.declared.journal.Entry.{Entry}
use Rattle.twe_base.specs.Limits.{Bounds}
use Rattle.twe_program.specs.Program.{Program}
use Rattle.seg_meaning.specs.Access.{Access}
use Rattle.isolation_laws.specs.soundness.DeclaredNow.{access_of}
use Rattle.machine_state.specs.declared.state.TaskRow.{TaskRow}
use Rattle.machine_state.specs.declared.state.TaskStatus.TheVariants.{Enabled}
use Rattle.machine_state.specs.Rows.{HasStatus}
use Rattle.determinism_laws.specs.Ranks.{ComesBefore, HasRank, IsBelow}
use Rattle.determinism_laws.specs.Segments.{SegmentMakes, state_before}

-- of two segments of t and of the tasks below it that make conflicting accesses, the earlier in the journal is the
-- earlier by rank; a print counts as a write of `Console`
abbrev pub ConflictsKeepRanks : Program → Bounds → List Entry → ℕ → Type 0
ConflictsKeepRanks p lim journal t =
    (i j s u : ℕ) (first second : List ℕ) → HasRank p lim journal t i first → HasRank p lim journal t j second → i < j
    → (x y : Access) → SegmentMakes p lim journal s i x → SegmentMakes p lim journal u j y
    → Conflict (access_of p x) (access_of p y) → ComesBefore first second

-- each access of these segments lies within an effect of t
abbrev pub StaysWithin : Program → Bounds → List Entry → ℕ → TaskRow → Type 0
StaysWithin p lim journal t row =
    (i s : ℕ) → IsBelow p lim journal t i → (x : Access) → SegmentMakes p lim journal s i x
    → SomeCoversAccess row.effects.effects (access_of p x)

-- while t is enabled, which is from the entry that enabled it to the one that finishes it, no segment of another task,
-- which is neither t nor below it, makes an access that interferes with an effect of t
abbrev pub IsLeftAlone : Program → Bounds → List Entry → ℕ → TaskRow → Type 0
IsLeftAlone p lim journal t row =
    (i s : ℕ) → HasStatus (state_before p lim journal i) t Enabled → ¬ IsBelow p lim journal t i
    → (x : Access) → SegmentMakes p lim journal s i x → ¬ AccessInterferesWithSome (access_of p x) row.effects.effects

-- The journal keeps the elision order of task t, which has this row: conflicts below t are in the order of the ranks, all
-- accesses there lie within the effects of t, and no other task meddles with these while t is enabled.
pub record KeepsElisionOrder (p : Program) (lim : Bounds) (journal : List Entry) (t : ℕ) (row : TaskRow) : Type 0 where
  pub ordered : ConflictsKeepRanks p lim journal t
  pub within : StaysWithin p lim journal t row
  pub alone : IsLeftAlone p lim journal t row
