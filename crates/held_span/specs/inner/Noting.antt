-- What is noted of the entries of a run, and what it tells of its admissions.
use Rattle.std.specs.Prelude.{◌≡◌, ◌≢◌, ◌<◌, ◌≤◌, ◌↔◌, ◌⊎◌, ◌++◌, ℕ, List, [], ◌∷◌, Option, None, Some, IsTrue, length, if◌then◌else◌, slice_get}
use Rattle.seg_journal.specs.declared.journal.End.{End}
use Rattle.seg_journal.specs.declared.journal.End.TheVariants as ends
use Rattle.seg_journal.specs.declared.moves.Kind.{Kind}
use Rattle.seg_journal.specs.declared.moves.Kind.TheVariants.{Admit, Run}
use Rattle.machine_state.specs.declared.state.State.{State}
use Rattle.machine_state.specs.declared.state.TaskRow.{TaskRow}
use Rattle.machine_state.specs.declared.state.TaskStatus.{TaskStatus}
use Rattle.machine_state.specs.declared.state.TaskStatus.TheVariants.{Done, Made}
use Rattle.machine_state.specs.Rows.{HasStatus}
use Rattle.span_profile.specs.Strands.{Strand}
use Rattle.span_profile.specs.heaviest_chain.Chains.{Leads}
use Rattle.span_profile.specs.heaviest_chain.Nodes.{Node, SharesKey}
use Rattle.held_span.specs.Freed.{FreesFrom, RunEntry}
use Rattle.held_span.specs.Holds.{MakesTask}
use Rattle.held_span.specs.declared.notes.EntryNotes.{EntryNotes}

-- a task that was looked for, and 0 if there is none
abbrev pub low_of : Option ℕ → ℕ
low_of None = 0
low_of (Some low) = low

-- the task that was noted of an entry, and 0 if none was
abbrev pub low_found : Option (Option ℕ) → ℕ
low_found None = 0
low_found (Some low) = low_of low

-- the task that was noted of the entry of this number
abbrev pub low_at : List (Option ℕ) → ℕ → ℕ
low_at lows number = low_found (slice_get lows number)

-- the maker that was noted of a task, if one was
abbrev pub maker_found : Option (Option ℕ) → Option ℕ
maker_found None = None
maker_found (Some maker) = maker

-- the maker of the task that a move of this kind admits, if one was noted
abbrev pub maker_by : List (Option ℕ) → Kind → ℕ → Option ℕ
maker_by makers Admit task = maker_found (slice_get makers task)
maker_by makers Run task = None

-- the makers after the entry of this number, which ended so
abbrev pub makers_after : List (Option ℕ) → ℕ → End → List (Option ℕ)
makers_after makers number (ends.Made child) = makers ++ Some number ∷ []
makers_after makers number ends.Admitted = makers
makers_after makers number (ends.Waits on) = makers
makers_after makers number (ends.Joins on) = makers
makers_after makers number (ends.Done value) = makers
makers_after makers number (ends.Fault kind place) = makers

-- what is noted after one more entry, which ended so, and of whose task this was the lowest holder
abbrev pub noted : EntryNotes → End → Option ℕ → EntryNotes
noted old end low = record { lows = old.lows ++ low ∷ []; makers = makers_after old.makers (length old.lows) end }

-- the task from which an entry frees an admission of which this was noted
abbrev pub holder_by : RunEntry → ℕ → ℕ
holder_by stage low = if stage.strand.done then stage.strand.task else low

-- the first entry made the task that the second admits, or frees it from the holder that is known by what was noted
abbrev pub MakesOrFrees : List TaskRow → ℕ → RunEntry → RunEntry → Type 0
MakesOrFrees rows low a b = (a.strand.made ≡ Some b.strand.task) ⊎ FreesFrom rows (holder_by a low) a b

-- of a node that shares a key with that of an admission, the entry made its task, or frees it
abbrev pub TellHolders : List TaskRow → List Node → List RunEntry → List (Option ℕ) → Type 0
TellHolders rows nodes stages lows =
    (i j : ℕ) (a b : RunEntry) → Leads SharesKey nodes i j → slice_get stages i ≡ Some a → slice_get stages j ≡ Some b
    → b.kind ≡ Admit → MakesOrFrees rows (low_at lows j) a b

-- the holder that is known by what was noted is the lowest from which an earlier entry frees an admission
abbrev pub TellLowest : List TaskRow → List RunEntry → List (Option ℕ) → Type 0
TellLowest rows stages lows =
    (i j : ℕ) (a b : RunEntry) → i < j → slice_get stages i ≡ Some a → slice_get stages j ≡ Some b
    → (holder : ℕ) → FreesFrom rows holder a b → holder_by a (low_at lows j) ≤ holder

-- the entry that made a task is noted as its maker, and no other
abbrev pub TellMakers : List RunEntry → List (Option ℕ) → Type 0
TellMakers stages makers = (task number : ℕ) → (slice_get makers task ≡ Some (Some number)) ↔ MakesTask stages number task

-- The task of this entry has begun, and if the entry has done it, it is done, and the entry made none.
pub record HasBegun (st : State) (strand : Strand) : Type 0 where
  pub status : TaskStatus
  pub has : HasStatus st strand.task status
  pub begun : status ≢ Made
  pub over : IsTrue strand.done → (status ≡ Done) × (strand.made ≡ None)

-- This was noted of the entries of a run up to a state.
pub record AreNoted (rows : List TaskRow) (st : State) (nodes : List Node) (stages : List RunEntry) (notes : EntryNotes) : Type 0 where
  pub lows_count : length notes.lows ≡ length stages
  pub holders : TellHolders rows nodes stages notes.lows
  pub lowest : TellLowest rows stages notes.lows
  pub makers_count : length notes.makers ≡ length st.tasks
  pub makers : TellMakers stages notes.makers
  pub begun : (number : ℕ) (stage : RunEntry) → slice_get stages number ≡ Some stage → HasBegun st stage.strand
