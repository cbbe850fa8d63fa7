-- Over a run no task goes, and each keeps its declaration, its arguments, its effects and its parent.
use Rattle.std.proofs.Common.{◌≡◌, ◌≢◌, ◌+◌, ◌<◌, ◌++◌, ℕ, ℤ, Bool, true, false, cond, List, [], ◌∷◌, Option, None, Some, refl, arith, nat_lt}
use Rattle.std.specs.Prelude.{slice_get, slice_set}
use Rattle.twe_base.specs.declared.place.Place.{Place}
use Rattle.effect_sets.specs.declared.effects.Summary.{Summary}
use Rattle.seg_journal.specs.declared.journal.End.{End}
use Rattle.seg_journal.specs.declared.journal.End.TheVariants as ends
use Rattle.seg_journal.specs.declared.journal.Entry.{Entry}
use Rattle.twe_base.specs.declared.fault.FaultKind.TheVariants.{TaskLimit}
use Rattle.seg_journal.specs.declared.moves.Kind.{Kind}
use Rattle.seg_journal.specs.declared.moves.Kind.TheVariants.{Admit, Run}
use Rattle.twe_base.specs.Limits.{Bounds}
use Rattle.wait_graph.specs.Link.{link_of}
use Rattle.twe_program.specs.Program.{Program}
use Rattle.seg_meaning.specs.declared.frame.Frame.{Frame}
use Rattle.seg_meaning.specs.declared.stop.Stop.{Stop}
use Rattle.seg_meaning.specs.declared.stop.Stop.TheVariants as stops
use Rattle.seg_meaning.specs.Segment.{Stopped, segment}
use Rattle.machine_state.specs.declared.state.State.{State}
use Rattle.machine_state.specs.declared.state.TaskRow.{TaskRow}
use Rattle.machine_state.specs.Moves.{admitted, admitted_row, state_after_join, joined_child, joined_row, joined_rows, going_row, done_row, faulted_row, stopped_frame, making_frame, new_row, parent_of, state_after_make, state_after_fault, state_after_asking, stop_result, ran, ready_frame, result_by_kind}
use Rattle.machine_state.specs.Runs.{LegalFrom, replayed}
use Rattle.machine_state.proofs.standing.Later.{IsSameTask, Later, later_itself, later_then, later_set, later_put}
use Rattle.machine_state.proofs.links.Linked.{Linked, child_in, joined_keeps}
use Rattle.machine_state.proofs.links.LinksAgree.{taken_linked}

same : (row new : TaskRow) → new.decl ≡ row.decl → new.args ≡ row.args → new.effects ≡ row.effects → new.parent ≡ row.parent → IsSameTask row new
same row new decl args effects parent = record { decl = decl; args = args; effects = effects; parent = parent }

joined_rows_later : (rows : List TaskRow) (c : ℕ) (found : Option TaskRow) → slice_get rows c ≡ found → Later rows (joined_rows rows c found)
joined_rows_later rows c None e = later_itself rows
joined_rows_later rows c (Some row) e = later_set rows c row (joined_row row) e (same row (joined_row row) refl refl refl refl)

joined_later : (st : State) (child : Option ℕ) → Later st.tasks (state_after_join st child).tasks
joined_later st None = later_itself st.tasks
joined_later st (Some c) = joined_rows_later st.tasks c (slice_get st.tasks c) refl

module _ (lim : Bounds) (st : State) (t : ℕ) (row : TaskRow) (frame : Frame) (found : slice_get st.tasks t ≡ Some row) where
  set_later : (new : TaskRow) → IsSameTask row new → Later st.tasks (slice_set st.tasks t new)
  set_later new kept = later_set st.tasks t row new found kept

  make_later : (b : Bool) (child : Frame) (args : List ℤ) (effects : Summary) (spawned : Bool) (future : ℕ) (place : Place)
      → Later st.tasks (cond {A = State × End} b (state_after_make lim st t row frame future spawned child args effects, ends.Made (st.asked + 1))
      (state_after_fault (state_after_asking st) t row (stopped_frame frame) TaskLimit place, ends.Fault TaskLimit place)).0.tasks
  make_later true child args effects spawned future place =
      let going = going_row row (making_frame future spawned (st.asked + 1) frame) in
      let new = new_row lim (st.asked + 1) (parent_of t spawned) child args effects in
      later_then st.tasks (slice_set st.tasks t going) (slice_set st.tasks t going ++ new ∷ []) (set_later going (same row going refl refl refl refl)) (later_put (slice_set st.tasks t going) new)
  make_later false child args effects spawned future place =
      let new = faulted_row row (stopped_frame frame) in set_later new (same row new refl refl refl refl)

  stopped_later : (stop : Stop) → Later st.tasks (stop_result lim st t row frame stop).0.tasks
  stopped_later (stops.Make child args effects spawned future place) = make_later (nat_lt (st.asked + 1) lim.tasks) child args effects spawned future place
  stopped_later (stops.Waits on) = set_later (going_row row frame) (same row (going_row row frame) refl refl refl refl)
  stopped_later (stops.Joins on) = set_later (going_row row frame) (same row (going_row row frame) refl refl refl refl)
  stopped_later (stops.Done value) = set_later (done_row row frame value) (same row (done_row row frame value) refl refl refl refl)
  stopped_later (stops.Fault kind place) = set_later (faulted_row row frame) (same row (faulted_row row frame) refl refl refl refl)

module _ (p : Program) (lim : Bounds) where
  admitted_later : (st : State) (t : ℕ) (found : Option TaskRow) → slice_get st.tasks t ≡ found → Later st.tasks (admitted st t found).tasks
  admitted_later st t None e = later_itself st.tasks
  admitted_later st t (Some row) e = later_set st.tasks t row (admitted_row row) e (same row (admitted_row row) refl refl refl refl)

  ran_later : (st : State) (t : ℕ) (found : Option TaskRow) → slice_get st.tasks t ≡ found → Linked lim st → Later st.tasks (ran p lim st t found).0.tasks
  ran_later st t None e linked = later_itself st.tasks
  ran_later st t (Some row) e linked =
      let after : Stopped = segment p (ready_frame st.tasks row.frame) st.cells in
      let st0 : State = record st { cells = after.cells } in
      let child = joined_child row.out (link_of st0.links t).waits in
      let apart : (c : ℕ) → child ≡ Some c → t ≢ c = λ c is equal. let above : t < c = (linked.outs t row e).up c (child_in row.out (link_of st0.links t).waits c is) in omega arith in
      later_then st.tasks (state_after_join st0 child).tasks (stop_result lim (state_after_join st0 child) t row after.frame after.stop).0.tasks (joined_later st0 child)
      (stopped_later lim (state_after_join st0 child) t row after.frame (joined_keeps st0 t row child e apart) after.stop)

  -- over one move
  pub taken_later : (st : State) (kind : Kind) (t : ℕ) → Linked lim st → Later st.tasks (result_by_kind p lim st kind t).0.tasks
  taken_later st Admit t linked = admitted_later st t (slice_get st.tasks t) refl
  taken_later st Run t linked = ran_later st t (slice_get st.tasks t) refl linked

  -- over legal moves
  pub replayed_later : (st : State) (entries : List Entry) → LegalFrom p lim st entries → Linked lim st → Later st.tasks (replayed p lim st entries).tasks
  replayed_later st [] legal linked = later_itself st.tasks
  replayed_later st (entry ∷ entries) legal linked =
      let next : State = (result_by_kind p lim st entry.mv.kind entry.mv.task).0 in
      later_then st.tasks next.tasks (replayed p lim next entries).tasks (taken_later st entry.mv.kind entry.mv.task linked)
      (replayed_later next entries legal.2 (taken_linked p lim st entry.mv.kind entry.mv.task legal.0 linked))
