-- A segment that ends with a fault has a snapshot, whose cause leads to a fault of that kind.
use Rattle.std.proofs.Common.{◌≡◌, ℕ, ◌+◌, ℤ, pos, Bool, true, false, List, [], ◌∷◌, Option, None, Some, if◌then◌else◌, nat_lt, refl, ap, subst}
use Rattle.twe_base.specs.declared.fault.FaultKind.{FaultKind}
use Rattle.twe_base.specs.declared.fault.FaultKind.TheVariants as kinds
use Rattle.twe_base.specs.declared.place.Place.{Place}
use Rattle.twe_base.specs.Limits.{Bounds}
use Rattle.seg_journal.specs.declared.journal.End.{End}
use Rattle.seg_journal.specs.declared.journal.End.TheVariants as ends
use Rattle.twe_program.specs.Program.{Program}
use Rattle.seg_meaning.specs.declared.fault.FaultCause.{FaultCause}
use Rattle.seg_meaning.specs.declared.fault.FaultCause.TheVariants as causes
use Rattle.seg_meaning.specs.declared.frame.Frame.{Frame}
use Rattle.seg_meaning.specs.declared.frame.Position.{Position}
use Rattle.seg_meaning.specs.declared.operation.Operation.{Operation}
use Rattle.seg_meaning.specs.declared.operation.Operation.TheVariants as operations
use Rattle.seg_meaning.specs.Causes.{fault_kind}
use Rattle.seg_exec.specs.Snapshots.{snapshot_of}
use Rattle.seg_meaning.specs.Segment.{Stopped, closing_stop, flow_of, segment, stopped_by, waiting_stop}
use Rattle.seg_meaning.specs.Store.{Store, Flow, goes, returns, fails, stops}
use Rattle.machine_state.specs.declared.state.State.{State}
use Rattle.machine_state.specs.declared.state.TaskRow.{TaskRow}
use Rattle.machine_state.specs.Moves.{joined_child, ran, ready_frame, state_after_join, stop_result}
use Rattle.run_facts.specs.FaultSnapshots.{HasSnapshot, snapshot_ahead, snapshot_between, snapshot_by_kind}
use Rattle.wait_graph.specs.Link.{link_of}

module _ (p : Program) (lim : Bounds) where
  -- the snapshot of a fault within a segment
  by_cause : (frame : Frame) (cells : List ℤ) (cause : FaultCause) (place : Place) (s : Store) → flow_of p frame frame.body cells ≡ fails cause place s
      → (kind : FaultKind) → fault_kind cause ≡ kind → HasSnapshot kind (snapshot_by_kind p frame cells kind)
  by_cause frame cells causes.DivZero place s is kind same = subst (λ (k : FaultKind). HasSnapshot k (snapshot_by_kind p frame cells k)) same (record { there = record { cause = Some causes.DivZero; vars = s.vars; calls = s.calls; cells = s.cells }; is = ap snapshot_of is; leads = refl })
  by_cause frame cells (causes.Index index) place s is kind same = subst (λ (k : FaultKind). HasSnapshot k (snapshot_by_kind p frame cells k)) same (record { there = record { cause = Some (causes.Index index); vars = s.vars; calls = s.calls; cells = s.cells }; is = ap snapshot_of is; leads = refl })
  by_cause frame cells (causes.GridIndex row column) place s is kind same = subst (λ (k : FaultKind). HasSnapshot k (snapshot_by_kind p frame cells k)) same (record { there = record { cause = Some (causes.GridIndex row column); vars = s.vars; calls = s.calls; cells = s.cells }; is = ap snapshot_of is; leads = refl })
  by_cause frame cells causes.Fuel place s is kind same = subst (λ (k : FaultKind). HasSnapshot k (snapshot_by_kind p frame cells k)) same (record { there = record { cause = Some causes.Fuel; vars = s.vars; calls = s.calls; cells = s.cells }; is = ap snapshot_of is; leads = refl })
  by_cause frame cells causes.Depth place s is kind same = subst (λ (k : FaultKind). HasSnapshot k (snapshot_by_kind p frame cells k)) same (record { there = record { cause = Some causes.Depth; vars = s.vars; calls = s.calls; cells = s.cells }; is = ap snapshot_of is; leads = refl })

  -- the snapshot of a task too many
  at_make : (frame : Frame) (cells : List ℤ) (operation : Operation) (positions : List Position) (s : Store) → flow_of p frame frame.body cells ≡ stops operation positions s
      → (kind : FaultKind) → kinds.TaskLimit ≡ kind → HasSnapshot kind (snapshot_by_kind p frame cells kind)
  at_make frame cells operation positions s is kind same =
      subst (λ (k : FaultKind). HasSnapshot k (snapshot_by_kind p frame cells k)) same (record {
        there = record { cause = None; vars = s.vars; calls = []; cells = s.cells };
        is = ap (λ (f : Flow). snapshot_between (stopped_by p frame f).cells (stopped_by p frame f).frame.body) is;
        leads = refl;
      })

  -- a segment that comes to the end of its body meets no fault
  no_fault_at_end : (st : State) (t : ℕ) (row : TaskRow) (frame : Frame) (items : List ℕ) (value : ℤ) (kind : FaultKind) (place : Place) (A : Type 0)
      → (stop_result lim st t row frame (closing_stop items value)).1 ≡ ends.Fault kind place → A
  no_fault_at_end st t row frame [] value kind place A e = absurd (cc)
  no_fault_at_end st t row frame (child ∷ others) value kind place A e = absurd (cc)

  no_fault_at_wait : (st : State) (t : ℕ) (row : TaskRow) (frame : Frame) (join : Bool) (on : ℕ) (kind : FaultKind) (place : Place) (A : Type 0)
      → (stop_result lim st t row frame (waiting_stop join on)).1 ≡ ends.Fault kind place → A
  no_fault_at_wait st t row frame true on kind place A e = absurd (cc)
  no_fault_at_wait st t row frame false on kind place A e = absurd (cc)

  -- a make that meets a fault is that of a task too many
  limit_at_make : (below : Bool) (made refused : State) (child : ℕ) (at place : Place) (kind : FaultKind)
      → (if◌then◌else◌ {A = State × End} below (made, ends.Made child) (refused, ends.Fault kinds.TaskLimit at)).1 ≡ ends.Fault kind place → kinds.TaskLimit ≡ kind
  limit_at_make true made refused child at place kind e = absurd (cc)
  limit_at_make false made refused child at place kind e = cc

  by_flow : (st : State) (t : ℕ) (row : TaskRow) (frame : Frame) (cells : List ℤ) (f : Flow) → flow_of p frame frame.body cells ≡ f → (kind : FaultKind) (place : Place)
      → (stop_result lim st t row (stopped_by p frame f).frame (stopped_by p frame f).stop).1 ≡ ends.Fault kind place → HasSnapshot kind (snapshot_by_kind p frame cells kind)
  by_flow st t row frame cells (goes s) is kind place e = no_fault_at_end st t row (stopped_by p frame (goes s)).frame frame.out.items (pos 0) kind place _ e
  by_flow st t row frame cells (returns value s) is kind place e = no_fault_at_end st t row (stopped_by p frame (returns value s)).frame frame.out.items value kind place _ e
  by_flow st t row frame cells (fails cause at s) is kind place e = by_cause frame cells cause at s is kind (cc)
  by_flow st t row frame cells (stops (operations.Make future task args spawned at) positions s) is kind place e =
      at_make frame cells (operations.Make future task args spawned at) positions s is kind
      (limit_at_make (nat_lt (st.asked + 1) lim.tasks) _ _ (st.asked + 1) at place kind e)
  by_flow st t row frame cells (stops (operations.Wait future join into) positions s) is kind place e =
      no_fault_at_wait st t row (stopped_by p frame (stops (operations.Wait future join into) positions s)).frame join _ kind place _ e

  -- the next segment of a task, if it meets a fault, has a snapshot of that kind
  pub snapshot_is_there : (st : State) (t : ℕ) (row : Option TaskRow) (kind : FaultKind) (place : Place) → (ran p lim st t row).1 ≡ ends.Fault kind place
      → HasSnapshot kind (snapshot_ahead p st kind row)
  snapshot_is_there st t None kind place e = absurd (cc)
  snapshot_is_there st t (Some row) kind place e =
      let frame : Frame = ready_frame st.tasks row.frame in
      let left : Stopped = segment p frame st.cells in
      let stored : State = record st { cells = left.cells } in
      by_flow (state_after_join stored (joined_child row.out (link_of stored.links t).waits)) t row frame st.cells (flow_of p frame frame.body st.cells) refl kind place e
