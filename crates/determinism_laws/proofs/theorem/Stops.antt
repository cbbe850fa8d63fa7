-- How a segment stopped, by the end of its entry in the journal.
use Rattle.std.proofs.Common.{◌≡◌, ◌⊎◌, ◌+◌, ℕ, ℤ, Bool, true, false, cond, List, Option, None, Some, inl, inr, refl, sym, ap, ◌∙◌, subst, nat_lt}
use Rattle.std.specs.Prelude.{slice_get}
use Rattle.twe_base.specs.declared.place.Place.{Place}
use Rattle.effect_sets.specs.declared.effects.Summary.{Summary}
use Rattle.twe_base.specs.declared.fault.FaultKind.TheVariants.{TaskLimit}
use Rattle.twe_base.specs.Limits.{Bounds}
use Rattle.seg_journal.specs.declared.journal.End.{End}
use Rattle.seg_journal.specs.declared.journal.End.TheVariants as entry_ends
use Rattle.seg_journal.specs.declared.journal.Entry.{Entry}
use Rattle.seg_journal.specs.declared.moves.Kind.TheVariants.{Run}
use Rattle.wait_graph.specs.Link.{link_of}
use Rattle.twe_program.specs.Program.{Program}
use Rattle.twe_program.specs.WellFormed.{IsWellFormed}
use Rattle.seg_meaning.specs.declared.frame.Frame.{Frame}
use Rattle.seg_meaning.specs.declared.stop.Stop.{Stop}
use Rattle.seg_meaning.specs.declared.stop.Stop.TheVariants as stops
use Rattle.machine_state.specs.declared.state.State.{State}
use Rattle.machine_state.specs.declared.state.TaskRow.{TaskRow}
use Rattle.machine_state.specs.Moves.{joined_child, ran, result_by_kind, state_after_asking, state_after_fault, state_after_join, state_after_make, stop_result, stopped_frame}
use Rattle.machine_state.specs.Rows.{IsRow}
use Rattle.machine_state.specs.Runs.{Legal}
use Rattle.determinism_laws.specs.Segments.{IsSegmentOf, state_before}
use Rattle.determinism_laws.proofs.JournalPlaces.{taken_at}
use Rattle.determinism_laws.proofs.NewTasks.{left_by}

abbrev pub EndOf : Stop → End → Type 0
EndOf (stops.Make child args effects spawned future place) end = ((number : ℕ) × (end ≡ entry_ends.Made number)) ⊎ (end ≡ entry_ends.Fault TaskLimit place)
EndOf (stops.Waits on) end = end ≡ entry_ends.Waits on
EndOf (stops.Joins on) end = end ≡ entry_ends.Joins on
EndOf (stops.Done value) end = end ≡ entry_ends.Done value
EndOf (stops.Fault kind place) end = end ≡ entry_ends.Fault kind place

module _ (lim : Bounds) (st : State) (t : ℕ) (row : TaskRow) (frame : Frame) where
  made_end : (b : Bool) → (child : Frame) (args : List ℤ) (effects : Summary) (spawned : Bool) (future : ℕ) (place : Place)
      → EndOf (stops.Make child args effects spawned future place)
      (cond {A = State × End} b (state_after_make lim st t row frame future spawned child args effects, entry_ends.Made (st.asked + 1))
      (state_after_fault (state_after_asking st) t row (stopped_frame frame) TaskLimit place, entry_ends.Fault TaskLimit place)).1
  made_end true child args effects spawned future place = inl (st.asked + 1, refl)
  made_end false child args effects spawned future place = inr refl

  stop_end : (stop : Stop) → EndOf stop (stop_result lim st t row frame stop).1
  stop_end (stops.Make child args effects spawned future place) = made_end (nat_lt (st.asked + 1) lim.tasks) child args effects spawned future place
  stop_end (stops.Waits on) = refl
  stop_end (stops.Joins on) = refl
  stop_end (stops.Done value) = refl
  stop_end (stops.Fault kind place) = refl

ran_end : (p : Program) (lim : Bounds) (st : State) (t : ℕ) (row : TaskRow) (found : Option TaskRow) → slice_get st.tasks t ≡ found → found ≡ Some row
    → EndOf (left_by p st row).stop (ran p lim st t found).1
ran_end p lim st t row None e is = absurd (cc (is))
ran_end p lim st t row (Some other) e is =
    let same : other ≡ row = cc (is) in
    let left = left_by p st other in
    let later : State = record st { cells = left.cells } in
    subst (λ (r : TaskRow). EndOf (left_by p st r).stop (ran p lim st t (Some other)).1) same
    (stop_end lim (state_after_join later (joined_child other.out (link_of st.links t).waits)) t other left.frame left.stop)

pub end_of : (p : Program) → IsWellFormed p → (lim : Bounds) (journal : List Entry) → Legal p lim journal → (u place : ℕ) (segment : IsSegmentOf journal u place) (row : TaskRow)
    → IsRow (state_before p lim journal place) u row → EndOf (left_by p (state_before p lim journal place) row).stop segment.entry.end
end_of p wf lim journal legal u place segment row there =
    let st : State = state_before p lim journal place in
    let taken = taken_at p wf lim journal legal place segment.entry segment.there in
    let to : result_by_kind p lim st segment.entry.mv.kind segment.entry.mv.task ≡ result_by_kind p lim st Run u =
    λ i. result_by_kind p lim st (segment.runs i) (segment.task i) in
    subst (EndOf (left_by p st row).stop) (sym (ap (λ (r : State × End). r.1) to) ∙ taken.end)
    (ran_end p lim st u row (slice_get st.tasks u) refl there)

pub done_stop : (stop : Stop) (end : End) (value : ℤ) → EndOf stop end → end ≡ entry_ends.Done value → stop ≡ stops.Done value
done_stop (stops.Make child args effects spawned future place) end value (inl made) is = let both = sym made.1 ∙ is in absurd (cc (both))
done_stop (stops.Make child args effects spawned future place) end value (inr faulted) is = let both = sym faulted ∙ is in absurd (cc (both))
done_stop (stops.Waits on) end value of is = let both = sym of ∙ is in absurd (cc (both))
done_stop (stops.Joins on) end value of is = let both = sym of ∙ is in absurd (cc (both))
done_stop (stops.Done other) end value of is =
    let both : entry_ends.Done other ≡ entry_ends.Done value = sym of ∙ is in
    let same : other ≡ value = cc (both) in
    ap (λ (v : ℤ). stops.Done v) same
done_stop (stops.Fault kind place) end value of is = let both = sym of ∙ is in absurd (cc (both))

pub join_stop : (stop : Stop) (end : End) (on : ℕ) → EndOf stop end → end ≡ entry_ends.Joins on → stop ≡ stops.Joins on
join_stop (stops.Make child args effects spawned future place) end on (inl made) is = let both = sym made.1 ∙ is in absurd (cc (both))
join_stop (stops.Make child args effects spawned future place) end on (inr faulted) is = let both = sym faulted ∙ is in absurd (cc (both))
join_stop (stops.Waits other) end on of is = let both = sym of ∙ is in absurd (cc (both))
join_stop (stops.Joins other) end on of is =
    let both : entry_ends.Joins other ≡ entry_ends.Joins on = sym of ∙ is in
    let same : other ≡ on = cc (both) in
    ap (λ (n : ℕ). stops.Joins n) same
join_stop (stops.Done value) end on of is = let both = sym of ∙ is in absurd (cc (both))
join_stop (stops.Fault kind place) end on of is = let both = sym of ∙ is in absurd (cc (both))

-- a make
pub record IsMake (stop : Stop) : Type 0 where
  pub child : Frame
  pub args : List ℤ
  pub effects : Summary
  pub spawned : Bool
  pub future : ℕ
  pub place : Place
  pub is : stop ≡ stops.Make child args effects spawned future place

pub make_stop : (stop : Stop) (end : End) (child : ℕ) → EndOf stop end → end ≡ entry_ends.Made child → IsMake stop
make_stop (stops.Make child args effects spawned future place) end number of is =
    record { child = child; args = args; effects = effects; spawned = spawned; future = future; place = place; is = refl }
make_stop (stops.Waits on) end number of is = let both = sym of ∙ is in absurd (cc (both))
make_stop (stops.Joins on) end number of is = let both = sym of ∙ is in absurd (cc (both))
make_stop (stops.Done value) end number of is = let both = sym of ∙ is in absurd (cc (both))
make_stop (stops.Fault kind place) end number of is = let both = sym of ∙ is in absurd (cc (both))
