-- The tasks that keep one another from going on if a run is stuck.
use Rattle.std.specs.Prelude.{◌≡◌, ◌<◌, ℕ, MatchBool, List, length, Option, None, Some}
use Rattle.std.specs.List.{All}
use Rattle.wait_graph.specs.declared.stuck.Edge.{Edge}
use Rattle.wait_graph.specs.StuckCycle.{BeginsLowest, HasEachOnce, IsClosed, holder_of, stuck_cycle}
use Rattle.wait_graph.specs.Waiting.{WaitsFor}
use Rattle.machine_state.specs.declared.state.State.{State}
use Rattle.machine_state.specs.declared.state.TaskStatus.TheVariants.{Made}
use Rattle.machine_state.specs.Legal.{IsBar}
use Rattle.machine_state.specs.Rows.{HasStatus}

-- s is the lowest of the bars to t
pub record IsLowestBar (st : State) (s t : ℕ) : Type 0 where
  pub bar : IsBar st s t
  pub lowest : (r : ℕ) → r < s → ¬ IsBar st r t

-- this is the holder of t: the lowest bar to it, if it was made and not admitted and has a bar
abbrev pub IsHolder : State → ℕ → Option ℕ → Type 0
IsHolder st t (Some s) = HasStatus st t Made × IsLowestBar st s t
IsHolder st t None = HasStatus st t Made → (s : ℕ) → ¬ IsBar st s t

-- these are the holders of the tasks, in the order of their numbers
pub record AreHolders (st : State) (held : List (Option ℕ)) : Type 0 where
  pub count : length held ≡ length st.tasks
  pub each : (t : ℕ) → t < length st.tasks → IsHolder st t (holder_of held t)

-- This is the cycle in which the tasks are stuck. The walk starts at the lowest task that isn't done. From a task
-- that waits it goes to the task that it waits for, and from a task that is held to its holder, until it comes to
-- some task again.
pub record IsStuckCycle (st : State) (cycle : List Edge) : Type 0 where
  pub held : List (Option ℕ)
  pub holders : AreHolders st held
  pub same : cycle ≡ stuck_cycle st.links held

-- the edge is a wait in this state, or leads from a task that was made and not admitted to the lowest bar to it
abbrev pub IsReason : State → Edge → Type 0
IsReason st e = MatchBool e.held (HasStatus st e.from Made × IsLowestBar st e.to e.from) (WaitsFor st.links e.from e.to)

-- Each edge is a wait or leads to the lowest bar. Each edge ends at the task at which the next one begins, and the
-- last one at the task at which the first begins. No task stands in it twice, and the lowest of the tasks comes
-- first.
pub record IsCycleOfReasons (st : State) (cycle : List Edge) : Type 0 where
  pub some : 0 < length cycle
  pub true_edges : All (IsReason st) cycle
  pub closed : IsClosed cycle
  pub once : HasEachOnce cycle
  pub begins_lowest : BeginsLowest cycle
