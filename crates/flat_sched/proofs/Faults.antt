-- A move that ends in a fault leaves a state with a fault.
use Rattle.std.proofs.Common.{◌≡◌, ◌+◌, ℕ, ℤ, Bool, List, Option, Some, None, true, false, refl}
use Rattle.std.specs.Prelude.{if◌then◌else◌, nat_lt, slice_get}
use Rattle.effect_sets.specs.declared.effects.Summary.{Summary}
use Rattle.twe_base.specs.declared.fault.FaultKind.{FaultKind}
use Rattle.twe_base.specs.declared.fault.FaultKind.TheVariants.{TaskLimit}
use Rattle.seg_journal.specs.declared.journal.End.{End}
use Rattle.seg_journal.specs.declared.journal.End.TheVariants as ends
use Rattle.seg_journal.specs.declared.moves.Kind.{Kind}
use Rattle.seg_journal.specs.declared.moves.Kind.TheVariants.{Admit, Run}
use Rattle.twe_base.specs.Limits.{Bounds}
use Rattle.twe_base.specs.declared.place.Place.{Place}
use Rattle.twe_program.specs.Program.{Program}
use Rattle.wait_graph.specs.Link.{link_of}
use Rattle.seg_meaning.specs.declared.frame.Frame.{Frame}
use Rattle.seg_meaning.specs.declared.stop.Stop.{Stop}
use Rattle.seg_meaning.specs.declared.stop.Stop.TheVariants as stops
use Rattle.seg_meaning.specs.Segment.{segment}
use Rattle.machine_state.specs.declared.state.FirstFault.{FirstFault}
use Rattle.machine_state.specs.declared.state.State.{State}
use Rattle.machine_state.specs.declared.state.TaskRow.{TaskRow}
use Rattle.machine_state.specs.Moves.{state_after_asking, state_after_fault, first_fault_of, state_after_make, state_after_join, joined_child, ran, ready_frame, stop_result, stopped_frame, result_by_kind}
use Rattle.machine_state.specs.Runs.{is_fault}

noted : (earlier : Option FirstFault) (t : ℕ) (kind : FaultKind) (place : Place) → first_fault_of earlier t kind place ≡ None → ⊥
noted (Some fault) t kind place e = cc
noted None t kind place e = cc

-- if there is no fault after a segment, it has met none
made_well : (lim : Bounds) (st : State) (t : ℕ) (row : TaskRow) (frame : Frame) (into : ℕ) (spawned : Bool) (task : Frame) (args : List ℤ) (effects : Summary) (place : Place) (fits : Bool)
    → let after = if◌then◌else◌ {A = State × End} fits (state_after_make lim st t row frame into spawned task args effects, ends.Made (st.asked + 1))
    (state_after_fault (state_after_asking st) t row (stopped_frame frame) TaskLimit place, ends.Fault TaskLimit place) in
    after.0.first_fault ≡ None → is_fault after.1 ≡ false
made_well lim st t row frame into spawned task args effects place true none = refl
made_well lim st t row frame into spawned task args effects place false none = absurd (noted st.first_fault t TaskLimit place none)

stopped_well : (lim : Bounds) (st : State) (t : ℕ) (row : TaskRow) (frame : Frame) (stop : Stop)
    → (stop_result lim st t row frame stop).0.first_fault ≡ None → is_fault (stop_result lim st t row frame stop).1 ≡ false
stopped_well lim st t row frame (stops.Make task args effects spawned into place) none =
    made_well lim st t row frame into spawned task args effects place (nat_lt (st.asked + 1) lim.tasks) none
stopped_well lim st t row frame (stops.Waits on) none = refl
stopped_well lim st t row frame (stops.Joins on) none = refl
stopped_well lim st t row frame (stops.Done value) none = refl
stopped_well lim st t row frame (stops.Fault kind place) none = absurd (noted st.first_fault t kind place none)

ran_well : (p : Program) (lim : Bounds) (st : State) (t : ℕ) (found : Option TaskRow) → (ran p lim st t found).0.first_fault ≡ None → is_fault (ran p lim st t found).1 ≡ false
ran_well p lim st t None none = refl
ran_well p lim st t (Some row) none =
    let after = segment p (ready_frame st.tasks row.frame) st.cells in
    stopped_well lim (state_after_join (record st { cells = after.cells }) (joined_child row.out (link_of st.links t).waits)) t row after.frame after.stop none

pub taken_well : (p : Program) (lim : Bounds) (st : State) (kind : Kind) (t : ℕ) → (result_by_kind p lim st kind t).0.first_fault ≡ None → is_fault (result_by_kind p lim st kind t).1 ≡ false
taken_well p lim st Admit t none = refl
taken_well p lim st Run t none = ran_well p lim st t (slice_get st.tasks t) none
