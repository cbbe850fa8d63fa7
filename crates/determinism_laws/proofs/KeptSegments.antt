-- The next segment of a task that may run stays the same while other tasks move: the accesses of two segments that may come
-- next do not conflict, so neither writes what the other reads.
use Rattle.std.proofs.Common.{◌≡◌, ◌≢◌, ◌++◌, ℕ, ℤ, Bool, true, false, List, [], ◌∷◌, Option, None, Some, refl, sym, ap, ◌∙◌, subst, eqb-true, inl, inr}
use Rattle.std.specs.Prelude.{slice_get}
use Rattle.std.specs.List.{list_any}
use Rattle.std.proofs.lemmas.Bool.{cases_Bool}
use Rattle.std.proofs.lemmas.Option.{slice_get_within}
use Rattle.effect_check.proofs.Members.{in-contains, list_any-in}
use Rattle.effect_sets.specs.Access.{Conflict}
use Rattle.seg_journal.specs.declared.moves.Kind.{Kind}
use Rattle.seg_journal.specs.declared.moves.Kind.TheVariants.{Admit, Run}
use Rattle.seg_journal.specs.declared.moves.Move.{Move}
use Rattle.twe_base.specs.Limits.{Bounds}
use Rattle.wait_graph.specs.declared.tasks.Link.{Link}
use Rattle.wait_graph.specs.Link.{link_of}
use Rattle.wait_graph.specs.Waiting.{WaitsFor}
use Rattle.twe_program.specs.Program.{Program}
use Rattle.twe_program.specs.WellFormed.{IsWellFormed}
use Rattle.seg_meaning.specs.declared.frame.Frame.{Frame}
use Rattle.seg_meaning.specs.Access.{Access, Prints, Reads, Writes, after}
use Rattle.seg_meaning.specs.Giving.{given}
use Rattle.seg_meaning.specs.Segment.{Stopped, segment}
use Rattle.seg_meaning.proofs.Determined.{segment_agrees, segment_determined}
use Rattle.isolation_laws.specs.soundness.CellPaths.{path_of_cell}
use Rattle.isolation_laws.specs.soundness.DeclaredNow.{access_of}
use Rattle.isolation_laws.specs.soundness.KeepsEffects.{KeepsEffects}
use Rattle.isolation_laws.proofs.rows.LinksOfRows.{done_row, link_there}
use Rattle.isolation_laws.proofs.running.Movers.{movers_apart}
use Rattle.machine_state.specs.declared.state.State.{State}
use Rattle.machine_state.specs.declared.state.TaskRow.{TaskRow}
use Rattle.machine_state.specs.declared.state.TaskStatus.TheVariants.{Enabled}
use Rattle.machine_state.specs.Changes.{LeavesAlone, ResultsAfter, TakesJoin, next_segment}
use Rattle.machine_state.specs.Legal.{MayMove, MayRun, MayTake}
use Rattle.machine_state.specs.Moves.{awaited_value, move_result, ready_frame, value_of}
use Rattle.machine_state.specs.Rows.{IsRow, is_done_status, row_awaited}
use Rattle.machine_state.specs.Runs.{IsReached, entry_of}
use Rattle.machine_state.specs.Changes.{IsDoneWith}
use Rattle.machine_state.proofs.tasks.DoneStays.{value_stays}
use Rattle.machine_state.proofs.tasks.LeftAlone.{moves_leave_alone}
use Rattle.machine_state.proofs.lists.Places.{got_one}
use Rattle.machine_state.proofs.replays.Replayed.{run_more}
use Rattle.machine_state.proofs.standing.ReachedStands.{reached_stands}
use Rattle.machine_state.proofs.standing.Standing.{Stands}
use Rattle.determinism_laws.specs.Orders.{is_access_of, is_write_of}
use Rattle.determinism_laws.proofs.SameValues.{agrees_alike, unwritten}
use Rattle.determinism_laws.specs.Independence.{KeepsNextSegment}

-- a write of a cell and an access of it conflict
pub conflict_at : (p : Program) (c : ℕ) (x y : Access) → is_write_of c x ≡ true → is_access_of c y ≡ true → Conflict (access_of p x) (access_of p y)
conflict_at p c (Reads one value) y write access = absurd (cc (write))
conflict_at p c (Prints value) y write access = absurd (cc (write))
conflict_at p c (Writes one value) (Prints other) write access = absurd (cc (access))
conflict_at p c (Writes one value) (Reads two other) write access = (refl, ap (path_of_cell p) (eqb-true one c write ∙ sym (eqb-true two c access)))
conflict_at p c (Writes one value) (Writes two other) write access = (refl, ap (path_of_cell p) (eqb-true one c write ∙ sym (eqb-true two c access)))

module _ (p : Program) (wf : IsWellFormed p) (keeps : KeepsEffects p) (lim : Bounds) (st : State) (reached : IsReached p lim st) (s : ℕ) (row : TaskRow) (mv : Move) (other : mv.task ≢ s)
    (here : IsRow st s row) (may_s : MayRun st s) (may : MayMove st mv) where
  abbrev new : State
  new = (move_result p lim st mv).0

  stands : Stands p lim st
  stands = reached_stands p lim st wf reached

  new_stands : Stands p lim new
  new_stands =
      let run = run_more p lim reached.journal st mv (record { legal = reached.legal; same = reached.same }) may in
      reached_stands p lim new wf (record { journal = reached.journal ++ entry_of p lim st mv ∷ []; legal = run.legal; same = run.same })

  alone : LeavesAlone p st new mv (move_result p lim st mv).1
  alone = moves_leave_alone p lim st mv wf reached may

  enabled : row.status ≡ Enabled
  enabled = ap (λ (r : TaskRow). r.status) (got_one (slice_get st.tasks s) here may_s.0.1) ∙ may_s.0.2

  not_joined : ¬ TakesJoin st mv s
  not_joined takes =
      let runs : MayRun st mv.task = subst (λ (k : Kind). MayTake st k mv.task) takes.runs may in
      let undone : (link_of st.links s).done ≡ false = ap (λ (l : Link). l.done) (link_there st stands.links s row here) ∙ ap is_done_status enabled in
      runs.1 s (record { waits = takes.waited; undone = undone })

  abbrev apart : s ≢ mv.task
  apart = λ e. other (sym e)

  there : IsRow new s row
  there = alone.rows s row apart not_joined here

  -- the task that it awaits, if there is one, is done with a value, before and after the move
  awaited_done : (u : ℕ) → (link_of st.links s).waits ≡ Some u → (r : TaskRow) × IsRow st u r × IsDoneWith new u r.value
  awaited_done u waits = by_done (link_of st.links u).done refl
    where
      by_done : (d : Bool) → (link_of st.links u).done ≡ d → (r : TaskRow) × IsRow st u r × IsDoneWith new u r.value
      by_done false undone = absurd (may_s.1 u (record { waits = waits; undone = undone }))
      by_done true done =
          let had = done_row st stands.links u done in
          (had.0, had.1, value_stays p lim st mv.kind mv.task u (had.0).value may (record { row = had.0; there = had.1; done = had.2; value_is = refl }))

  free : (u : ℕ) → ¬ WaitsFor new.links s u
  free u wait =
      let link : link_of new.links s ≡ link_of st.links s = alone.links s (slice_get_within st.tasks s row here) apart not_joined in
      let was = awaited_done u (sym (ap (λ (l : Link). l.waits) link) ∙ wait.waits) in
      let now = was.2 in
      let done : (link_of new.links u).done ≡ true = ap (λ (l : Link). l.done) (link_there new new_stands.links u now.row now.there) ∙ ap is_done_status now.done in
      let undone : (link_of new.links u).done ≡ false = wait.undone in
      let both : true ≡ false = sym done ∙ undone in
      cc (both)

  same_value : (o : Option ℕ) → row_awaited row.frame.next ≡ o → awaited_value new.tasks o ≡ awaited_value st.tasks o
  same_value None is = refl
  same_value (Some u) is =
      let was = awaited_done u (ap (λ (l : Link). l.waits) (link_there st stands.links s row here) ∙ is) in
      let now = was.2 in
      ap value_of now.there ∙ (now.value_is ∙ sym (ap value_of was.1))

  abbrev frame : Frame
  frame = ready_frame st.tasks row.frame

  same_frame : ready_frame new.tasks row.frame ≡ frame
  same_frame = ap (given row.frame) (same_value (row_awaited row.frame.next) refl)

  abbrev left : Stopped
  left = next_segment p st row

  -- no cell that the segment accesses is changed
  same_cell : (c : ℕ) → list_any (is_access_of c) left.accesses ≡ true → slice_get new.cells c ≡ slice_get st.cells c
  same_cell c accessed = by_kind mv.kind refl
    where
      by_kind : (k : Kind) → mv.kind ≡ k → slice_get new.cells c ≡ slice_get st.cells c
      by_kind Admit e =
          let results = subst (λ (k : Kind). ResultsAfter p st new k mv.task) e alone.results in
          ap (λ (cells : List ℤ). slice_get cells c) results.cells
      by_kind Run e =
          let runs : MayRun st mv.task = subst (λ (k : Kind). MayTake st k mv.task) e may in
          let results = subst (λ (k : Kind). ResultsAfter p st new k mv.task) e alone.results in
          let mover = runs.0.0 in
          let theirs = next_segment p st mover in
          let cells : new.cells ≡ after st.cells theirs.accesses = (results mover runs.0.1).cells ∙ (segment_agrees p (ready_frame st.tasks mover.frame) st.cells).cells_after in
          let spared : list_any (is_write_of c) theirs.accesses ≡ false = elim (cases_Bool (list_any (is_write_of c) theirs.accesses)) [
            | inl some ↦
                let x = list_any-in (is_write_of c) theirs.accesses some in
                let y = list_any-in (is_access_of c) left.accesses accessed in
                absurd (movers_apart p wf keeps lim st reached mv.task s mover row other runs.0.1 here runs may_s st.cells st.cells x.0 y.0
                (in-contains theirs.accesses x.0 x.1) (in-contains left.accesses y.0 y.1) (conflict_at p c x.0 y.0 x.2 y.2))
            | inr nothing ↦ nothing
          ] in
          ap (λ (l : List ℤ). slice_get l c) cells ∙ unwritten theirs.accesses st.cells c spared

  same_segment : next_segment p new row ≡ record left { cells = after new.cells left.accesses }
  same_segment =
      let agrees = agrees_alike st.cells new.cells left.accesses same_cell (segment_agrees p frame st.cells).agrees in
      ap (λ (f : Frame). segment p f new.cells) same_frame ∙ segment_determined p frame st.cells new.cells agrees

  keeps_next : KeepsNextSegment p st new s row
  keeps_next = record { there = there; may = ((row, there, enabled), free); same = same_segment }

pub keeps_next_segment : (p : Program) → IsWellFormed p → KeepsEffects p → (lim : Bounds) (st : State) → IsReached p lim st → (s : ℕ) (row : TaskRow) (mv : Move) → mv.task ≢ s → IsRow st s row
    → MayRun st s → MayMove st mv → KeepsNextSegment p st (move_result p lim st mv).0 s row
keeps_next_segment p wf keeps lim st reached s row mv other here may_s may = keeps_next p wf keeps lim st reached s row mv other here may_s may
