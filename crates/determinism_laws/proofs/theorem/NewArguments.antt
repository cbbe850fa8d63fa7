-- The arguments of a task that a move made are those of the make.
use Rattle.std.proofs.Common.{◌≡◌, ◌≤◌, ◌+◌, ℕ, ℤ, Bool, true, false, cond, List, [], length, Option, None, Some, inl, inr, refl, sym, ap, ◌∙◌, subst, arith, nat_lt, length-set}
use Rattle.std.specs.Prelude.{slice_get, slice_set}
use Rattle.std.proofs.lemmas.Option.{slice_get_within}
use Rattle.twe_base.specs.declared.place.Place.{Place}
use Rattle.effect_sets.specs.declared.effects.Summary.{Summary}
use Rattle.twe_base.specs.declared.fault.FaultKind.TheVariants.{TaskLimit}
use Rattle.twe_base.specs.Limits.{Bounds}
use Rattle.seg_journal.specs.declared.journal.End.{End}
use Rattle.seg_journal.specs.declared.journal.End.TheVariants as entry_ends
use Rattle.seg_journal.specs.declared.moves.Kind.{Kind}
use Rattle.seg_journal.specs.declared.moves.Kind.TheVariants.{Admit, Run}
use Rattle.wait_graph.specs.Link.{link_of}
use Rattle.twe_program.specs.Program.{Program}
use Rattle.seg_meaning.specs.declared.frame.Frame.{Frame}
use Rattle.seg_meaning.specs.declared.stop.Stop.{Stop}
use Rattle.seg_meaning.specs.declared.stop.Stop.TheVariants as stops
use Rattle.seg_meaning.specs.Entry.{entry_frame}
use Rattle.machine_state.proofs.segment_laws.Following.{makes_follow}
use Rattle.machine_state.specs.declared.state.State.{State}
use Rattle.machine_state.specs.declared.state.TaskRow.{TaskRow}
use Rattle.machine_state.specs.Moves.{admitted, admitted_row, done_row, faulted_row, going_row, joined_child, making_frame, new_row, parent_of, ran, ready_frame, result_by_kind, state_after_asking, state_after_fault, state_after_join, state_after_make, stop_result, stopped_frame}
use Rattle.machine_state.specs.Rows.{IsRow}
use Rattle.machine_state.proofs.weight.JoinedWeight.{length_joined}
use Rattle.machine_state.proofs.lists.Places.{got_one, put_cases}
use Rattle.machine_state.proofs.standing.Standing.{Stands}
use Rattle.determinism_laws.proofs.NewTasks.{left_by, move_row}
use Rattle.determinism_laws.specs.elision.Elision.{first_frame}

-- the stop is a make with the arguments of the row
abbrev ArgsOf : Stop → TaskRow → Type 0
ArgsOf (stops.Make child args effects spawned future place) new = new.args ≡ args
ArgsOf (stops.Waits on) new = ⊥
ArgsOf (stops.Joins on) new = ⊥
ArgsOf (stops.Done value) new = ⊥
ArgsOf (stops.Fault kind place) new = ⊥

module _ (lim : Bounds) (st : State) (t : ℕ) (row : TaskRow) (frame : Frame) (c : ℕ) (past : length st.tasks ≤ c) (new : TaskRow) where
  none_set : (changed : TaskRow) → slice_get (slice_set st.tasks t changed) c ≡ Some new → ⊥
  none_set changed here =
      let below = slice_get_within (slice_set st.tasks t changed) c new here in
      let same = length-set st.tasks t changed in
      omega (arith, below, same, past)

  made_args : (b : Bool) → (child : Frame) (args : List ℤ) (effects : Summary) (spawned : Bool) (future : ℕ) (place : Place)
      → IsRow (cond {A = State × End} b (state_after_make lim st t row frame future spawned child args effects, entry_ends.Made (st.asked + 1))
      (state_after_fault (state_after_asking st) t row (stopped_frame frame) TaskLimit place, entry_ends.Fault TaskLimit place)).0 c new → new.args ≡ args
  made_args true child args effects spawned future place here =
      let going = going_row row (making_frame future spawned (st.asked + 1) frame) in
      elim (put_cases (slice_set st.tasks t going) (new_row lim (st.asked + 1) (parent_of t spawned) child args effects) c new here) [
        | inl before ↦ absurd (none_set going before)
        | inr last ↦ sym (ap (λ (r : TaskRow). r.args) last.1)
      ]
  made_args false child args effects spawned future place here = absurd (none_set (faulted_row row (stopped_frame frame)) here)

  stop_args : (stop : Stop) → IsRow (stop_result lim st t row frame stop).0 c new → ArgsOf stop new
  stop_args (stops.Make child args effects spawned future place) here = made_args (nat_lt (st.asked + 1) lim.tasks) child args effects spawned future place here
  stop_args (stops.Waits on) here = none_set (going_row row frame) here
  stop_args (stops.Joins on) here = none_set (going_row row frame) here
  stop_args (stops.Done value) here = none_set (done_row row frame value) here
  stop_args (stops.Fault kind place) here = none_set (faulted_row row frame) here

module _ (p : Program) (lim : Bounds) (st : State) (stands : Stands p lim st) (t c : ℕ) (past : length st.tasks ≤ c) (new : TaskRow) where
  abbrev NewArgs : Type 0
  NewArgs = (row : TaskRow) × IsRow st t row × ArgsOf (left_by p st row).stop new

  ran_args : (found : Option TaskRow) → slice_get st.tasks t ≡ found → IsRow (ran p lim st t found).0 c new → NewArgs
  ran_args None e here = let below = slice_get_within st.tasks c new here in absurd (omega (arith, past, below))
  ran_args (Some row) e here =
      let left = left_by p st row in
      let later : State = record st { cells = left.cells } in
      let child = joined_child row.out (link_of st.links t).waits in
      (row, e, stop_args lim (state_after_join later child) t row left.frame c (omega (arith, past, length_joined later child)) new left.stop here)

  admitted_args : (found : Option TaskRow) → IsRow (admitted st t found) c new → NewArgs
  admitted_args None here = let below = slice_get_within st.tasks c new here in absurd (omega (arith, past, below))
  admitted_args (Some row) here =
      let below = slice_get_within (slice_set st.tasks t (admitted_row row)) c new here in
      let same = length-set st.tasks t (admitted_row row) in
      absurd (omega (arith, past, below, same))

  kind_args : (kind : Kind) → IsRow (result_by_kind p lim st kind t).0 c new → NewArgs
  kind_args Admit here = admitted_args (slice_get st.tasks t) here
  kind_args Run here = ran_args (slice_get st.tasks t) refl here

  -- so its frame is the first one of its declaration with its arguments
  pub new_fresh : (kind : Kind) → IsRow (result_by_kind p lim st kind t).0 c new → new.frame ≡ first_frame lim c (entry_frame p new.decl new.args)
  new_fresh kind here =
      let a = kind_args kind here in
      let m = move_row p lim st stands t kind c past new here in
      let made = m.makes in
      let same : a.0 ≡ m.row = got_one (slice_get st.tasks t) a.1 m.there in
      let args : new.args ≡ made.args =
      subst (λ (stop : Stop). ArgsOf stop new) (ap (λ (r : TaskRow). (left_by p st r).stop) same ∙ made.stops_at) a.2 in
      let comes = makes_follow p (ready_frame st.tasks m.row.frame) st.cells [] made.child made.args made.effects made.spawned made.future made.place made.stops_at in
      let decl : new.decl ≡ comes.task = made.decl ∙ ap (λ (f : Frame). f.decl) comes.child_is in
      made.frame ∙ ap (first_frame lim c) comes.child_is ∙ (λ i. first_frame lim c (entry_frame p (sym decl i) (sym args i)))
