-- The end of a segment, whatever it is, keeps what stands.
use Rattle.std.proofs.Common.{◌≡◌, ◌≢◌, ◌⊎◌, ◌+◌, ℕ, ℤ, Bool, true, false, cond, List, Option, inl, inr, refl, arith, ltb-true, nat_lt}
use Rattle.twe_base.specs.declared.place.Place.{Place}
use Rattle.effect_sets.specs.declared.effects.Summary.{Summary}
use Rattle.seg_journal.specs.declared.journal.End.{End}
use Rattle.seg_journal.specs.declared.journal.End.TheVariants as ends
use Rattle.twe_base.specs.declared.fault.FaultKind.TheVariants.{TaskLimit}
use Rattle.twe_base.specs.Limits.{Bounds}
use Rattle.twe_program.specs.Program.{Program}
use Rattle.twe_program.specs.WellFormed.{IsWellFormed}
use Rattle.seg_meaning.specs.declared.frame.Frame.{Frame}
use Rattle.seg_meaning.specs.declared.frame.Next.TheVariants.{Join, Ended}
use Rattle.seg_meaning.specs.declared.stop.Stop.{Stop}
use Rattle.seg_meaning.specs.declared.stop.Stop.TheVariants as stops
use Rattle.machine_state.specs.segment_laws.Keeps.{IsClosing}
use Rattle.machine_state.specs.declared.state.State.{State}
use Rattle.machine_state.specs.declared.state.TaskRow.{TaskRow}
use Rattle.machine_state.specs.declared.state.TaskStatus.TheVariants.{Enabled}
use Rattle.machine_state.specs.Moves.{state_after_make, state_after_fault, faulted_row, stopped_frame, state_after_asking, stop_result}
use Rattle.machine_state.proofs.standing.AfterStop.{stopped_stands, going_stands, done_stands, faulted_stands}
use Rattle.machine_state.proofs.standing.Halfway.{Carries, carries, Halfway}
use Rattle.machine_state.proofs.standing.Moving.{Kept, same_task, going_kept, done_kept, fault_kept, make_kept}
use Rattle.machine_state.proofs.standing.Standing.{RowStands}

joins_on : (frame : Frame) (on : ℕ) → ((into : Option ℕ) × (frame.next ≡ Join on into)) ⊎ IsClosing frame on → frame.next ≢ Ended
joins_on frame on (inl join) is = cc (join.1, is)
joins_on frame on (inr closing) is = cc (closing.next, is)

module _ (p : Program) (lim : Bounds) (well : IsWellFormed p) (st : State) (t : ℕ) (row : TaskRow) (enabled : row.status ≡ Enabled) (frame : Frame) (half : Halfway p lim st t row frame) where
  own_stands : RowStands p lim st.tasks t row
  own_stands = half.almost.stand t row half.almost.own

  make_stopped : (b : Bool) (child : Frame) (args : List ℤ) (effects : Summary) (spawned : Bool) (future : ℕ) (place : Place) → nat_lt (st.asked + 1) lim.tasks ≡ b
      → Carries p row frame (stops.Make child args effects spawned future place)
      → Kept p lim (cond {A = State × End} b (state_after_make lim st t row frame future spawned child args effects, ends.Made (st.asked + 1))
      (state_after_fault (state_after_asking st) t row (stopped_frame frame) TaskLimit place, ends.Fault TaskLimit place)).0
  make_stopped true child args effects spawned future place is carries =
      make_kept p lim well t row enabled frame st half child args effects spawned future (carries.declared child args effects spawned future place refl)
      carries.next carries.decl (carries.made child args effects spawned future place refl) (ltb-true (st.asked + 1) lim.tasks is)
  make_stopped false child args effects spawned future place is carries =
      let new = faulted_row row (stopped_frame frame) in
      fault_kept p lim well t row enabled frame st half new (same_task row new refl refl refl refl) refl refl refl
      (faulted_stands p lim st.tasks t row own_stands enabled (stopped_frame frame) (stopped_stands p lim st.tasks t frame half.frame_stands) carries.ended carries.decl refl)
      (st.asked + 1) (omega arith) TaskLimit place _ _

  pub stop_kept : (stop : Stop) → Carries p row frame stop → Kept p lim (stop_result lim st t row frame stop).0
  stop_kept (stops.Make child args effects spawned future place) carries = make_stopped (nat_lt (st.asked + 1) lim.tasks) child args effects spawned future place refl carries
  stop_kept (stops.Waits on) carries =
      going_kept p lim well t row enabled frame st half
      (going_stands p lim st.tasks t row own_stands enabled frame half.frame_stands (carries.later (λ child args effects spawned future place is. cc (is))) carries.decl (λ is. cc (carries.next.1, is)))
  stop_kept (stops.Joins on) carries =
      going_kept p lim well t row enabled frame st half
      (going_stands p lim st.tasks t row own_stands enabled frame half.frame_stands (carries.later (λ child args effects spawned future place is. cc (is))) carries.decl (joins_on frame on carries.next))
  stop_kept (stops.Done value) carries =
      done_kept p lim well t row enabled frame st half value
      (done_stands p lim st.tasks t row own_stands enabled frame half.frame_stands (carries.later (λ child args effects spawned future place is. cc (is))) carries.decl value carries.next.0 carries.next.2)
  stop_kept (stops.Fault kind place) carries =
      let new = faulted_row row frame in
      fault_kept p lim well t row enabled frame st half new (same_task row new refl refl refl refl) refl refl refl
      (faulted_stands p lim st.tasks t row own_stands enabled frame half.frame_stands (carries.later (λ child args effects spawned future place is. cc (is))) carries.decl carries.next.0)
      st.asked (omega arith) kind place _ _
