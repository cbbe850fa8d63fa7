-- In each state that a run of any program comes to the links are those that the rows say: the induction over the run.
use Rattle.std.proofs.Common.{◌≡◌, ◌≢◌, ◌<◌, ℕ, zero, suc, ℤ, false, List, [], ◌∷◌, map, Option, None, Some, refl, sym, ap, ◌∙◌, subst, arith, length-set}
use Rattle.std.specs.Prelude.{slice_get, slice_set}
use Rattle.seg_journal.specs.declared.journal.Entry.{Entry}
use Rattle.seg_journal.specs.declared.moves.Kind.{Kind}
use Rattle.seg_journal.specs.declared.moves.Kind.TheVariants.{Admit, Run}
use Rattle.twe_base.specs.Limits.{Bounds}
use Rattle.wait_graph.specs.declared.tasks.Link.{Link}
use Rattle.wait_graph.specs.Link.{link_of}
use Rattle.twe_program.specs.Program.{Program}
use Rattle.seg_meaning.specs.declared.frame.Frame.{Frame}
use Rattle.seg_meaning.specs.declared.frame.Next.{Next}
use Rattle.seg_meaning.specs.declared.frame.Next.TheVariants.{Go, Get, Join, Closing, Ended}
use Rattle.seg_meaning.specs.declared.stop.Stop.{Stop}
use Rattle.seg_meaning.specs.declared.stop.Stop.TheVariants as stops
use Rattle.seg_meaning.specs.Giving.{given_by}
use Rattle.seg_meaning.specs.Segment.{segment}
use Rattle.machine_state.proofs.segment_laws.Following.{makes_follow}
use Rattle.machine_state.proofs.segment_laws.SegmentKept.{segment_keeps}
use Rattle.machine_state.specs.declared.state.State.{State}
use Rattle.machine_state.specs.declared.state.TaskRow.{TaskRow}
use Rattle.machine_state.specs.declared.state.TaskStatus.{TaskStatus}
use Rattle.machine_state.specs.declared.state.TaskStatus.TheVariants.{Made, Enabled}
use Rattle.machine_state.specs.Legal.{MayTake}
use Rattle.machine_state.specs.Moves.{state_after_join, joined_child, admitted, admitted_row, ran, result_by_kind, ready_frame, awaited_value, start_of}
use Rattle.machine_state.specs.Rows.{HasStatus, row_awaited, is_done_row, is_done_status, link_of_row}
use Rattle.machine_state.specs.Runs.{LegalFrom, replayed, IsReached}
use Rattle.machine_state.proofs.links.Linked.{OutUp, Linked, joined_linked, child_in, joined_keeps}
use Rattle.machine_state.proofs.links.LinkedMoves.{StopFresh, stopped_linked, set_outs}
use Rattle.machine_state.proofs.lists.Members.{IsIn, without_in}
use Rattle.machine_state.proofs.lists.Places.{got_one}

-- the row of a task that has come so far
pub status_of : (st : State) (t : ℕ) (row : TaskRow) (status : TaskStatus) → HasStatus st t status → slice_get st.tasks t ≡ Some row → row.status ≡ status
status_of st t row status (other, found, is) here = ap (λ (r : TaskRow). r.status) (got_one (slice_get st.tasks t) here found) ∙ is

-- what is left of the unjoined children once an awaited value was taken were unjoined children before
pub given_out : (next : Next) (frame : Frame) (value : ℤ) (c : ℕ) → IsIn c (given_by next frame value).out.items → IsIn c frame.out.items
given_out Go frame value c h = h
given_out (Get on into) frame value c h = h
given_out (Join on into) frame value c h = without_in frame.out.items on c h
given_out (Closing on) frame value c h = without_in frame.out.items on c h
given_out Ended frame value c h = h

same_links : (rows : List TaskRow) (t : ℕ) (row new : TaskRow) → slice_get rows t ≡ Some row → link_of_row new ≡ link_of_row row
    → map link_of_row rows ≡ map link_of_row (slice_set rows t new)
same_links [] t row new e same = refl
same_links (r ∷ rows) zero row new e same =
    let first : r ≡ row = cc in
    ap (λ (l : Link). l ∷ map link_of_row rows) (ap (λ (x : TaskRow). link_of_row x) first ∙ sym same)
same_links (r ∷ rows) (suc t) row new e same = ap (λ (ls : List Link). link_of_row r ∷ ls) (same_links rows t row new e same)

module _ (p : Program) (lim : Bounds) where
  segment_fresh : (frame : Frame) (cells : List ℤ) (stop : Stop) → (segment p frame cells).stop ≡ stop → StopFresh stop
  segment_fresh frame cells (stops.Make child args effects spawned future place) is =
      let comes = makes_follow p frame cells [] child args effects spawned future place is in
      (ap (λ (f : Frame). f.next) comes.child_is, ap (λ (f : Frame). f.out.items) comes.child_is)
  segment_fresh frame cells (stops.Waits on) is = tt
  segment_fresh frame cells (stops.Joins on) is = tt
  segment_fresh frame cells (stops.Done value) is = tt
  segment_fresh frame cells (stops.Fault kind place) is = tt

  ran_linked : (st : State) (t : ℕ) (found : Option TaskRow) → HasStatus st t Enabled → slice_get st.tasks t ≡ found → Linked lim st → Linked lim (ran p lim st t found).0
  ran_linked st t None may e linked = linked
  ran_linked st t (Some row) may e linked =
      let before = ready_frame st.tasks row.frame in
      let after = segment p before st.cells in
      let st0 : State = record st { cells = after.cells } in
      let child = joined_child row.out (link_of st0.links t).waits in
      let up : OutUp t row = linked.outs t row e in
      let ups : (c : ℕ) → IsIn c after.frame.out.items → t < c =
      λ c h. up.up c (subst (IsIn c) (sym up.same)
      (given_out row.frame.next row.frame (awaited_value st.tasks (row_awaited row.frame.next)) c (subst (IsIn c) (segment_keeps p before st.cells).out h))) in
      let apart : (c : ℕ) → child ≡ Some c → t ≢ c = λ c is same. let above : t < c = up.up c (child_in row.out (link_of st0.links t).waits c is) in omega arith in
      stopped_linked lim t row after.frame (status_of st t row Enabled may e) ups (state_after_join st0 child) after.stop (joined_keeps st0 t row child e apart)
      (segment_fresh before st.cells after.stop refl)
      (joined_linked lim st0 child (record { links = linked.links; number = linked.number; outs = linked.outs }))

  admitted_linked : (st : State) (t : ℕ) (found : Option TaskRow) → HasStatus st t Made → slice_get st.tasks t ≡ found → Linked lim st → Linked lim (admitted st t found)
  admitted_linked st t None may e linked = linked
  admitted_linked st t (Some row) may e linked =
      let new = admitted_row row in
      let was : is_done_row row ≡ false = ap is_done_status (status_of st t row Made may e) in
      let up : OutUp t row = linked.outs t row e in
      record {
        links = linked.links ∙ same_links st.tasks t row new e (λ i. record { waits = row_awaited row.frame.next; parent = row.parent; joined = row.joined; done = sym was i });
        number = λ few. linked.number few ∙ sym (length-set st.tasks t new);
        outs = set_outs st.tasks t new linked.outs (record { same = up.same; up = up.up });
      }

  pub taken_linked : (st : State) (kind : Kind) (t : ℕ) → MayTake st kind t → Linked lim st → Linked lim (result_by_kind p lim st kind t).0
  taken_linked st Admit t may linked = admitted_linked st t (slice_get st.tasks t) may.0 refl linked
  taken_linked st Run t may linked = ran_linked st t (slice_get st.tasks t) may.0 refl linked

  pub start_linked : Linked lim (start_of p lim)
  start_linked = record { links = refl; number = λ few. refl; outs = first_up } where
    first_up : (t : ℕ) (row : TaskRow) → slice_get (start_of p lim).tasks t ≡ Some row → OutUp t row
    first_up zero row e =
        let first : (c : ℕ) → IsIn c [] → 0 < c = λ c h. absurd h in
        subst (OutUp 0) (got_one (Some row) (sym e) refl) (record { same = refl; up = first })
    first_up (suc t) row e = absurd (cc)

  run_linked : (st : State) (entries : List Entry) → LegalFrom p lim st entries → Linked lim st → Linked lim (replayed p lim st entries)
  run_linked st [] legal linked = linked
  run_linked st (entry ∷ entries) legal linked =
      run_linked (result_by_kind p lim st entry.mv.kind entry.mv.task).0 entries legal.2 (taken_linked st entry.mv.kind entry.mv.task legal.0 linked)

  pub reached_linked : (st : State) → IsReached p lim st → Linked lim st
  reached_linked st r = subst (Linked lim) (sym r.same) (run_linked (start_of p lim) r.journal r.legal start_linked)
