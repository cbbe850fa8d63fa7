-- What the notes on the entries of a run and the times of their nodes tell of its holds.
use Rattle.std.specs.Prelude.{◌≡◌, ◌<◌, ℕ, List, [], ◌∷◌, Option, None, Some, length, map, if◌then◌else◌, slice_get, slice_index}
use Rattle.std.specs.List.{All, AllZip, Contains}
use Rattle.std.specs.List.Sorted.{IsStrictlyIncreasing}
use Rattle.seg_journal.specs.declared.journal.Entry.{Entry}
use Rattle.machine_state.specs.declared.state.TaskRow.{TaskRow}
use Rattle.machine_state.specs.Runs.{is_done}
use Rattle.span_profile.specs.declared.heaviest_chain.chains.Heaviest.{Heaviest}
use Rattle.span_profile.specs.heaviest_chain.Chains.{Leads}
use Rattle.span_profile.specs.heaviest_chain.LastBefore.{AreLastBefore}
use Rattle.span_profile.specs.heaviest_chain.Nodes.{Node, SharesKey}
use Rattle.held_span.specs.Freed.{FollowsFreed, RunEntry}
use Rattle.held_span.specs.Holds.{IsHeldFor, IsHold, held_entry}
use Rattle.held_span.specs.declared.hold.Hold.{Hold}
use Rattle.held_span.specs.declared.notes.EntryNotes.{EntryNotes}
use Rattle.held_span.specs.inner.Noting.{TellHolders, TellLowest, TellMakers}

-- an entry that was looked for, if there is one
abbrev pub before_found : Option (Option ℕ) → Option ℕ
before_found None = None
before_found (Some before) = before

-- the entry for which the one of this number waited the longest, if it waited for one
abbrev pub before_at : List (Option ℕ) → ℕ → Option ℕ
before_at before number = before_found (slice_get before number)

-- the task that an entry which was looked for has done, if it has done one
abbrev pub done_found : Option Entry → Option ℕ
done_found None = None
done_found (Some entry) = if is_done entry.end then Some entry.mv.task else None

-- the task that the entry of this number has done, if it has done one
abbrev pub done_task : List Entry → ℕ → Option ℕ
done_task journal number = done_found (slice_get journal number)

-- a time that was looked up, and 0 if there is none
abbrev pub time_found : Option ℕ → ℕ
time_found None = 0
time_found (Some time) = time

-- the time of the entry of this number
abbrev pub time_at : List ℕ → ℕ → ℕ
time_at times number = time_found (slice_get times number)

-- a list of what was found
abbrev pub found_list : Option Hold → List Hold
found_list None = []
found_list (Some hold) = hold ∷ []

-- the entry of this number is no admission that was held
abbrev pub IsNoHold : List RunEntry → List ℕ → List ℕ → ℕ → Type 0
IsNoHold stages starts ends number = (task time : ℕ) → ¬ IsHeldFor stages starts ends number task time

-- this is the hold of the entry of this number, or it is no admission that was held
abbrev pub IsFoundHold : List TaskRow → List RunEntry → List ℕ → List ℕ → ℕ → Option Hold → Type 0
IsFoundHold rows stages starts ends number None = IsNoHold stages starts ends number
IsFoundHold rows stages starts ends number (Some hold) = (hold.entry ≡ number) × IsHold rows stages starts ends hold

-- The entry of a journal did this.
pub record Did (stage : RunEntry) (entry : Entry) : Type 0 where
  pub kind : stage.kind ≡ entry.mv.kind
  pub task : stage.strand.task ≡ entry.mv.task
  pub done : stage.strand.done ≡ is_done entry.end

-- an entry that another one follows, and that ends as this starts, has a node that shares a key with that of the other one
abbrev pub ShareLast : List TaskRow → List Node → List RunEntry → List ℕ → List ℕ → Type 0
ShareLast rows nodes stages starts ends =
    (i j : ℕ) → Leads (FollowsFreed rows) stages i j → slice_index ends i ≡ slice_index starts j → Leads SharesKey nodes i j

-- The entries of the journal did this, this was noted of them, and these are the times of their nodes.
pub record IsTold (rows : List TaskRow) (stages : List RunEntry) (journal : List Entry) (notes : EntryNotes)
    (heaviest : Heaviest) : Type 0 where
  pub entries : AllZip Did stages journal
  pub nodes : List Node
  pub count : length nodes ≡ length stages
  pub holders : TellHolders rows nodes stages notes.lows
  pub lowest : TellLowest rows stages notes.lows
  pub makers : TellMakers stages notes.makers
  pub shares : ShareLast rows nodes stages heaviest.starts heaviest.ends
  pub last : AreLastBefore nodes heaviest.starts heaviest.ends heaviest.before

-- These are holds of entries of lower numbers, in their order, and there is one for each of these that was held.
pub record HoldsBelow (rows : List TaskRow) (stages : List RunEntry) (starts ends : List ℕ) (count : ℕ)
    (holds : List Hold) : Type 0 where
  pub each : All (IsHold rows stages starts ends) holds
  pub in_order : IsStrictlyIncreasing (map held_entry holds)
  pub below : All (λ number. number < count) (map held_entry holds)
  pub all : (number task time : ℕ) → number < count → IsHeldFor stages starts ends number task time
      → Contains (map held_entry holds) number
