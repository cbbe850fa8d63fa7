-- The cycle of a stuck run does not depend on the first fault of its state.
use Rattle.std.proofs.Common.{◌≡◌, ℕ, Bool, true, false, List, [], ◌∷◌, Option, None, Some, ap}
use Rattle.std.specs.Prelude.{MatchBool}
use Rattle.std.specs.List.{All}
use Rattle.std.proofs.lemmas.List.Elements.{All-cons, All-head, All-nil, All-tail}
use Rattle.wait_graph.specs.declared.stuck.Edge.{Edge}
use Rattle.wait_graph.specs.StuckCycle.{holder_of}
use Rattle.wait_graph.specs.Waiting.{WaitsFor}
use Rattle.machine_state.specs.declared.state.FirstFault.{FirstFault}
use Rattle.machine_state.specs.declared.state.State.{State}
use Rattle.machine_state.specs.declared.state.TaskStatus.TheVariants.{Made}
use Rattle.machine_state.specs.Rows.{HasStatus}
use Rattle.flat_sched.specs.Stuck.{IsCycleOfReasons, IsHolder, IsLowestBar, IsReason, IsStuckCycle}
use Rattle.place_laws.specs.Alike.{SameStates}

module _ (st : State) (first : Option FirstFault) where
  abbrev with_fault : State
  with_fault = record st { first_fault = first }

  bar_kept : (s t : ℕ) → IsLowestBar st s t → IsLowestBar with_fault s t
  bar_kept s t is = record { bar = is.bar; lowest = is.lowest }

  holder_kept : (t : ℕ) (holder : Option ℕ) → IsHolder st t holder → IsHolder with_fault t holder
  holder_kept t (Some s) is = (is.0, bar_kept s t is.1)
  holder_kept t None is = is

  pub cycle_kept : (cycle : List Edge) → IsStuckCycle st cycle → IsStuckCycle with_fault cycle
  cycle_kept cycle is = record {
    held = is.held;
    holders = record { count = is.holders.count; each = λ t below. holder_kept t (holder_of is.held t) (is.holders.each t below) };
    same = is.same;
  }

  by_kind : (held : Bool) (e : Edge) → MatchBool held (HasStatus st e.from Made × IsLowestBar st e.to e.from) (WaitsFor st.links e.from e.to)
      → MatchBool held (HasStatus with_fault e.from Made × IsLowestBar with_fault e.to e.from) (WaitsFor with_fault.links e.from e.to)
  by_kind true e is = (is.0, bar_kept e.to e.from is.1)
  by_kind false e is = is

  all_kept : (edges : List Edge) → All (IsReason st) edges → All (IsReason with_fault) edges
  all_kept [] all = All-nil (IsReason with_fault)
  all_kept (e ∷ edges) all =
      All-cons (IsReason with_fault) e edges (by_kind e.held e (All-head (IsReason st) e edges all)) (all_kept edges (All-tail (IsReason st) e edges all))

  pub reasons_kept : (cycle : List Edge) → IsCycleOfReasons st cycle → IsCycleOfReasons with_fault cycle
  reasons_kept cycle is = record {
    some = is.some;
    true_edges = all_kept cycle is.true_edges;
    closed = is.closed;
    once = is.once;
    begins_lowest = is.begins_lowest;
  }

-- a state that is the same but for the place of its first fault is the state with that first fault
pub with_its_fault : (st other : State) → SameStates st other → record st { first_fault = other.first_fault } ≡ other
with_its_fault st other same = ap (λ (s : State). record s { first_fault = other.first_fault }) same
