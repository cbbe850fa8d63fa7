-- The order in which sequential code would execute the segments of a task and of the tasks below it: each spawned task is
-- executed to its end where it is spawned. So all segments of a spawned task and of the tasks below it come after the
-- segment that spawned it, and before the next segment of its parent.
use Rattle.std.specs.Prelude.{◌≡◌, ◌≢◌, ◌⊎◌, ◌<◌, ℕ, List, [], ◌∷◌, Some}
use Rattle.seg_journal.specs.declared.journal.Entry.{Entry}
use Rattle.twe_base.specs.Limits.{Bounds}
use Rattle.twe_program.specs.Program.{Program}
use Rattle.wait_graph.specs.Chain.{Chain}
use Rattle.machine_state.specs.declared.state.State.{State}
use Rattle.machine_state.specs.declared.state.TaskRow.{TaskRow}
use Rattle.machine_state.specs.Rows.{IsRow}
use Rattle.machine_state.specs.Runs.{state_after}
use Rattle.determinism_laws.specs.Segments.{IsSegmentOf, Spawns, number_of_segment}

-- The segment at this place has this rank below task t. If t itself runs it, the rank is its number among the segments of
-- t. If a task below t runs it, the rank begins with the number of the segment of t that spawned a child, and goes on
-- with the rank that the segment has below this child. So the rank lists the spawns that lead from t to the segment.
abbrev pub HasRank : Program → Bounds → List Entry → ℕ → ℕ → List ℕ → Type 0
HasRank p lim journal t place [] = ⊥
HasRank p lim journal t place (number ∷ []) = IsSegmentOf journal t place × (number ≡ number_of_segment journal t place)
HasRank p lim journal t place (number ∷ next ∷ others) =
    (spawn : ℕ) × (child : ℕ) × Spawns p lim journal t spawn child × (number ≡ number_of_segment journal t spawn)
    × HasRank p lim journal child place (next ∷ others)

-- the segment at this place is one of t or of a task below it
abbrev pub IsBelow : Program → Bounds → List Entry → ℕ → ℕ → Type 0
IsBelow p lim journal t place = (rank : List ℕ) × HasRank p lim journal t place rank

-- the first rank comes before the second: by the first numbers in which they differ, and a rank comes before each one
-- that begins with it
abbrev pub ComesBefore : List ℕ → List ℕ → Type 0
ComesBefore [] [] = ⊥
ComesBefore [] (y ∷ ys) = Unit {0}
ComesBefore (x ∷ xs) [] = ⊥
ComesBefore (x ∷ xs) (y ∷ ys) = (x < y) ⊎ ((x ≡ y) × ComesBefore xs ys)

-- no two segments below t have the same rank
abbrev pub OneSegmentEach : Program → Bounds → List Entry → ℕ → Type 0
OneSegmentEach p lim journal t =
    (i j : ℕ) (rank : List ℕ) → HasRank p lim journal t i rank → HasRank p lim journal t j rank → i ≡ j

-- no segment has two ranks below t
abbrev pub OneRankEach : Program → Bounds → List Entry → ℕ → Type 0
OneRankEach p lim journal t =
    (i : ℕ) (first second : List ℕ) → HasRank p lim journal t i first → HasRank p lim journal t i second
    → first ≡ second

-- of two segments below t one comes before the other by rank
abbrev pub SegmentsAreInOrder : Program → Bounds → List Entry → ℕ → Type 0
SegmentsAreInOrder p lim journal t =
    (i j : ℕ) (first second : List ℕ) → HasRank p lim journal t i first → HasRank p lim journal t j second → i ≢ j
    → ComesBefore first second ⊎ ComesBefore second first

-- the second task is the parent of the first: it spawned it
abbrev pub HasParent : State → ℕ → ℕ → Type 0
HasParent st c parent = (row : TaskRow) × IsRow st c row × (row.parent ≡ Some parent)

-- the task is t, or t is its parent, or its parent's parent, and so on, whether the tasks between are joined or not
abbrev pub BelowTask : State → ℕ → ℕ → Type 0
BelowTask st t s = Chain (HasParent st) s t

-- each segment of t and of a task below it has a rank below t
abbrev pub AllHaveRanks : Program → Bounds → List Entry → ℕ → Type 0
AllHaveRanks p lim journal t =
    (i s : ℕ) → IsSegmentOf journal s i → BelowTask (state_after p lim journal) t s → IsBelow p lim journal t i
