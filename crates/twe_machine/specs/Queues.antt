-- Queues of enabled tasks, in the order in which they were enabled, and which entries decide for those before them.
use Rattle.std.specs.Prelude.{◌≡◌, ◌≢◌, ◌≤◌, ◌<◌, ◌⊎◌, ℕ, List, Some, length, slice_get}
use Rattle.wait_graph.specs.declared.tasks.Link.{Link}
use Rattle.wait_graph.specs.Waiting.{IsDone, WaitsOn, WaitsOnUnlessDone, YieldsTo}
use Rattle.twe_machine.specs.declared.queue.Queued.{Queued}
use Rattle.machine_state.specs.declared.state.State.{State}
use Rattle.machine_state.specs.declared.state.TaskStatus.TheVariants.{Enabled}
use Rattle.machine_state.specs.Legal.{Interfere}
use Rattle.machine_state.specs.Rows.{HasStatus}

-- s is done, or waits for u, directly or through others, unless u is done. Legal moves keep it.
abbrev pub KeepsWaiting : List Link → ℕ → ℕ → Type 0
KeepsWaiting links s u = IsDone links s ⊎ WaitsOnUnlessDone links s u

-- s is the task of an entry
abbrev pub IsQueued : List Queued → ℕ → Type 0
IsQueued entries s = (i : ℕ) × (e : Queued) × (slice_get entries i ≡ Some e) × (e.task ≡ s)

-- the tasks of so many first entries lead to u
abbrev pub FirstKeepWaiting : List Link → List Queued → ℕ → ℕ → Type 0
FirstKeepWaiting links entries count u =
    (i : ℕ) (e : Queued) → i < count → slice_get entries i ≡ Some e → KeepsWaiting links e.task u

-- the tasks of the entries before this place lead to the task there
abbrev pub DecidesAt : List Link → List Queued → ℕ → Type 0
DecidesAt links entries d = (f : Queued) → slice_get entries d ≡ Some f → FirstKeepWaiting links entries d f.task

-- each entry that names a place names one up to its own that decides for those before it
abbrev pub IsDecided : List Link → List Queued → Type 0
IsDecided links entries =
    (i d : ℕ) (e : Queued) → slice_get entries i ≡ Some e → e.decider ≡ Some d
    → (d ≤ i) × DecidesAt links entries d

-- an entry for t that comes after the others may name this place: its own, if all others lead to t, or one that decides
abbrev pub MayName : List Link → List Queued → ℕ → ℕ → Type 0
MayName links entries t d =
    ((d ≡ length entries) × FirstKeepWaiting links entries d t) ⊎ ((d < length entries) × DecidesAt links entries d)

-- s is done, or waits for u, directly or through others
abbrev pub IsDoneOrWaits : List Link → ℕ → ℕ → Type 0
IsDoneOrWaits links s u = IsDone links s ⊎ WaitsOn links s u

-- the tasks of the entries from this place up to that one are done or wait for u
abbrev pub AllWait : List Link → List Queued → ℕ → ℕ → ℕ → Type 0
AllWait links entries from to u =
    (i : ℕ) (e : Queued) → from ≤ i → i < to → slice_get entries i ≡ Some e → IsDoneOrWaits links e.task u

-- s is no bar to t: it yields to t, if it is another task, is enabled, and interferes with t
abbrev pub IsNoBar : State → ℕ → ℕ → Type 0
IsNoBar st t s = s ≢ t → HasStatus st s Enabled → Interfere st s t → YieldsTo st.links s t
