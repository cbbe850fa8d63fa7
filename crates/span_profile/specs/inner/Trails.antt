-- What is kept to find why the entries of a chain follow one another.
use Rattle.std.specs.Prelude.{◌≡◌, ◌<◌, ◌⊎◌, ◌↔◌, ◌==◌, ℕ, ℤ, suc, Bool, true, false, List, map, Option, None, Some, IsTrue, length, slice_get}
use Rattle.prefix_tree.specs.declared.part.Part.{Part}
use Rattle.seg_meaning.specs.Access.{Access as CellAccess, MayAll}
use Rattle.seg_meaning.specs.Plain.{list_ways}
use Rattle.isolation_laws.specs.soundness.DeclaredNow.{access_of}
use Rattle.twe_program.specs.Program.{Program, cell_count}
use Rattle.machine_state.specs.Runs.{is_done}
use Rattle.span_profile.specs.Reasons.{IsStepAt}
use Rattle.span_profile.specs.Strands.{Strand, made_task}
use Rattle.span_profile.specs.declared.deed.Deed.{Deed}
use Rattle.span_profile.specs.declared.heaviest_chain.fronts.Fronts.{Fronts}
use Rattle.span_profile.specs.declared.heaviest_chain.key.Key.{Key}
use Rattle.span_profile.specs.declared.heaviest_chain.key.Key.TheVariants.{Write, Access}
use Rattle.span_profile.specs.declared.heaviest_chain.top.Top.{Top}
use Rattle.span_profile.specs.declared.places.NumberedPaths.{NumberedPaths}
use Rattle.span_profile.specs.declared.reasons.ChainStep.{ChainStep}
use Rattle.span_profile.specs.declared.trail.Last.{Last}
use Rattle.span_profile.specs.declared.trail.ChainTrail.{ChainTrail}
use Rattle.span_profile.specs.declared.watched.WatchedCells.{WatchedCells}
use Rattle.span_profile.specs.heaviest_chain.inner.Fronts.{front_at}
use Rattle.span_profile.specs.inner.Deeds.{has_print}
use Rattle.span_profile.specs.inner.Numbering.{ArePlaces, place_of}
use Rattle.span_profile.specs.inner.Sets.{no_cells}
use Rattle.span_profile.specs.inner.Shows.{HasAccess}
use Rattle.span_profile.specs.inner.Watch.{read_by, written_by}

-- whether this is the node
abbrev pub is_node : Option Top → ℕ → Bool
is_node None number = false
is_node (Some top) number = top.node == number

-- whether the entry of this number is the last of those with a front that gave the key
abbrev pub gave : Fronts → Key → ℕ → Bool
gave fronts key number = is_node (front_at fronts key) number

-- the key that a reader of a place asks for, or a writer
abbrev pub key_for : Bool → ℕ → Key
key_for true place = Write place
key_for false place = Access place

-- whether the entry of this number gave what a reader of this cell asks for, or a writer
abbrev pub gave_cell : Fronts → NumberedPaths → Bool → ℕ → ℕ → Bool
gave_cell fronts places reads number cell = gave fronts (key_for reads (place_of places cell)) number

-- the first of the numbers that passes the test, if one does
abbrev pub IsFirstThat : (ℕ → Bool) → List ℕ → Option ℕ → Type 0
IsFirstThat test cells None = (i other : ℕ) → slice_get cells i ≡ Some other → test other ≡ false
IsFirstThat test cells (Some cell) =
    (k : ℕ) × (slice_get cells k ≡ Some cell) × (test cell ≡ true)
    × ((i other : ℕ) → i < k → slice_get cells i ≡ Some other → test other ≡ false)

-- The entry did this, over these cells.
pub record IsEntryOf (p : Program) (places : NumberedPaths) (deed : Deed) (watched : WatchedCells) (strand : Strand) : Type 0 where
  pub accesses : List CellAccess
  pub values : List ℤ
  pub many : length values ≡ cell_count p
  pub may : MayAll list_ways values accesses
  pub task : strand.task ≡ deed.task
  pub made : strand.made ≡ made_task deed.end
  pub taken : strand.taken ≡ deed.taken
  pub done : strand.done ≡ is_done deed.end
  pub cells : strand.cells ≡ accesses
  pub are : strand.accesses ≡ map (access_of p) accesses
  pub printed : deed.printed ≡ has_print accesses
  pub reads : watched.reads.items ≡ (read_by accesses (no_cells (cell_count p))).items
  pub writes : watched.writes.items ≡ (written_by accesses (no_cells (cell_count p))).items

-- what is kept of the last entry is so
pub record IsLast (last : Last) (strand : Strand) : Type 0 where
  pub task : last.task ≡ strand.task
  pub made : last.made ≡ strand.made
  pub done : last.done ≡ strand.done

-- the fronts tell which paths the entry of this number accessed
pub record IsMarked (tree : List (List Part)) (fronts : Fronts) (number : ℕ) (strand : Strand) : Type 0 where
  pub writes : (place : ℕ) → IsTrue (gave fronts (Write place) number) ↔ HasAccess tree strand true place
  pub accesses : (place : ℕ) → IsTrue (gave fronts (Access place) number)
      ↔ (HasAccess tree strand true place ⊎ HasAccess tree strand false place)

-- The last entry of the chain that has come, if one has, is known.
abbrev pub IsKnownLast : List (List Part) → List Strand → ChainTrail → Option Last → Type 0
IsKnownLast tree strands trail None = length trail.steps ≡ 0
IsKnownLast tree strands trail (Some last) =
    (k : ℕ) × (strand : Strand) × (length trail.steps ≡ suc k) × (slice_get trail.chain k ≡ Some last.number)
    × (slice_get strands last.number ≡ Some strand) × IsLast last strand × IsMarked tree trail.fronts last.number strand

-- each number is below those after it
abbrev pub Ascends : List ℕ → Type 0
Ascends chain = (i j m n : ℕ) → i < j → slice_get chain i ≡ Some m → slice_get chain j ≡ Some n → m < n

-- of the entries that have come, those of the chain have their steps
pub record IsTrail (p : Program) (tree : List (List Part)) (strands : List Strand) (trail : ChainTrail) : Type 0 where
  pub low : (key : Key) (top : Top) → front_at trail.fronts key ≡ Some top
      → (top.weight ≡ top.node) × (top.node < length strands)
  pub each : (k : ℕ) (step : ChainStep) → slice_get trail.steps k ≡ Some step → IsStepAt p strands trail.chain k step
  pub all : Ascends trail.chain → (k n : ℕ) → slice_get trail.chain k ≡ Some n → n < length strands → k < length trail.steps
  pub last : IsKnownLast tree strands trail trail.last
