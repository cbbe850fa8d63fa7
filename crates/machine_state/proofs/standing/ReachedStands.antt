-- In each state that a run of a well-formed program comes to the rows, the links and the counts stand.
use Rattle.std.proofs.Common.{◌≡◌, ◌+◌, ℕ, zero, suc, List, [], ◌∷◌, length, length-append, replicate, Option, None, Some, refl, sym, ap, ◌∙◌, subst, arith}
use Rattle.std.specs.Prelude.{slice_get}
use Rattle.std.proofs.lemmas.List.{length-replicate}
use Rattle.seg_journal.specs.declared.journal.Entry.{Entry}
use Rattle.seg_journal.specs.declared.moves.Kind.{Kind}
use Rattle.seg_journal.specs.declared.moves.Kind.TheVariants.{Admit, Run}
use Rattle.twe_base.specs.Limits.{Bounds}
use Rattle.wait_graph.specs.Link.{link_of}
use Rattle.wait_graph.specs.Waiting.{WaitsFor}
use Rattle.twe_program.specs.declared.program.CellDecl.{CellDecl}
use Rattle.twe_program.specs.declared.program.Decl.{Decl}
use Rattle.twe_program.specs.Fitting.{TakesArguments}
use Rattle.twe_program.specs.Program.{Program, cells_made, size_of}
use Rattle.twe_program.specs.WellFormed.{IsWellFormed, IsMain}
use Rattle.seg_meaning.specs.Entry.{effects_at, entry_frame}
use Rattle.seg_meaning.specs.Segment.{Stopped, segment}
use Rattle.machine_state.specs.declared.state.State.{State}
use Rattle.machine_state.specs.declared.state.TaskRow.{TaskRow}
use Rattle.machine_state.specs.declared.state.TaskStatus.TheVariants.{Made, Enabled, Faulted}
use Rattle.machine_state.specs.Legal.{MayTake}
use Rattle.machine_state.specs.Moves.{admitted, admitted_row, awaited_value, initial_values, state_after_join, joined_child, new_row, ran, ready_frame, start_of, result_by_kind}
use Rattle.machine_state.specs.Rows.{HasStatus, row_awaited}
use Rattle.machine_state.specs.Runs.{LegalFrom, replayed, IsReached}
use Rattle.machine_state.proofs.standing.Almost.{Almost, set_settled}
use Rattle.machine_state.proofs.standing.Beginning.{new_stands}
use Rattle.machine_state.proofs.standing.Counts.{set_counts}
use Rattle.machine_state.proofs.standing.Halfway.{carries, halfway, counts_of, children_of}
use Rattle.machine_state.proofs.standing.Joining.{ChildrenAre}
use Rattle.machine_state.proofs.links.Linked.{Linked}
use Rattle.machine_state.proofs.links.LinksAgree.{status_of, taken_linked, start_linked}
use Rattle.machine_state.proofs.lists.Members.{IsIn, in_contains, contains_in}
use Rattle.machine_state.proofs.standing.Moving.{Kept, same_task}
use Rattle.machine_state.proofs.lists.Places.{got_one}
use Rattle.machine_state.proofs.standing.Standing.{IsChild, RowStands, Stands}
use Rattle.machine_state.proofs.standing.Stopping.{stop_kept}

stands_from : (p : Program) (lim : Bounds) (st : State) → Kept p lim st → Linked lim st → Stands p lim st
stands_from p lim st kept linked = record {
  rows = kept.settled.stand;
  links = linked.links;
  cells = kept.cells;
  children = λ t row here c.
      (λ h. (kept.settled.children t row here c).0 (contains_in row.out c h), λ child. in_contains row.out c ((kept.settled.children t row here c).1 child));
  some = kept.counts.some;
  limit = kept.counts.limit;
  number = linked.number;
  asked = kept.counts.few;
  fault = kept.counts.fault;
  no_fault = kept.counts.no_fault;
}

-- there are as many initial values as cells
length-initial_values : (decls : List CellDecl) → length (initial_values decls) ≡ cells_made decls
length-initial_values [] = refl
length-initial_values (cell ∷ cells) =
    length-append (replicate (size_of cell.dims) cell.init) (initial_values cells)
    ∙ λ i. length-replicate (size_of cell.dims) cell.init i + length-initial_values cells i

takes_none : (o : Option Decl) → IsMain o → TakesArguments o 0
takes_none None main = main
takes_none (Some decl) main = main.0

module _ (p : Program) (lim : Bounds) (well : IsWellFormed p) where
  -- At the start.

  first_stands : (t : ℕ) (row : TaskRow) → slice_get (start_of p lim).tasks t ≡ Some row → RowStands p lim (start_of p lim).tasks t row
  first_stands zero row e =
      subst (RowStands p lim (start_of p lim).tasks 0) (got_one (Some row) (sym e) refl)
      (new_stands p lim (start_of p lim).tasks 0 well p.main [] None (takes_none (slice_get p.tasks p.main) well.main) (λ q is. absurd (cc (is))))
  first_stands (suc t) row e = absurd (cc (e))

  first_none : (s c : ℕ) → ¬ IsChild (start_of p lim).tasks s c
  first_none s zero child =
      let same : new_row lim 0 None (entry_frame p p.main []) [] (effects_at p p.main []) ≡ child.row = got_one (slice_get (start_of p lim).tasks 0) refl child.there in
      let none : None ≡ child.row.parent = ap (λ (r : TaskRow). r.parent) same in
      cc (none, child.parent)
  first_none s (suc c) child = cc (child.there)

  first_children : (s : ℕ) (a : TaskRow) → slice_get (start_of p lim).tasks s ≡ Some a → ChildrenAre (start_of p lim).tasks s a.out
  first_children zero a here c =
      let empty : a.out ≡ [] = ap (λ (r : TaskRow). r.out) (got_one (slice_get (start_of p lim).tasks 0) here refl) in
      (λ h. absurd (subst (IsIn c) empty h), λ child. absurd (first_none 0 c child))
  first_children (suc s) a here c = absurd (cc (here))

  first_no_fault : (t : ℕ) → ¬ HasStatus (start_of p lim) t Faulted
  first_no_fault zero has =
      let made : has.0.status ≡ Made = ap (λ (r : TaskRow). r.status) (got_one (slice_get (start_of p lim).tasks 0) has.1 refl) in
      cc (made, has.2)
  first_no_fault (suc t) has = cc (has.1)

  start_kept : Kept p lim (start_of p lim)
  start_kept = record {
    settled = record { stand = first_stands; children = first_children };
    counts = record { some = omega arith; limit = λ one. omega (arith, one); few = omega arith; fault = λ fault is. absurd (cc (is)); no_fault = λ none. first_no_fault };
    cells = length-initial_values p.cells;
  }

  -- An admission.

  admitted_stands : (st : State) (t : ℕ) (row : TaskRow) → row.status ≡ Made → RowStands p lim st.tasks t row → RowStands p lim st.tasks t (admitted_row row)
  admitted_stands st t row was stands =
      let fresh = ap (λ (r : TaskRow). r.frame.next) (stands.made was) in
      record {
        frame = stands.frame;
        ready = stands.ready;
        decl = stands.decl;
        out = stands.out;
        prints = stands.prints;
        count = stands.count;
        effects = stands.effects;
        parent = stands.parent;
        made = λ is. absurd (cc (is));
        over = λ over. absurd over;
        ended = λ is. absurd (cc (is, fresh));
        done = λ is. absurd (cc (is));
        joined = λ is. absurd (cc (stands.joined is, was));
      }

  admitted_kept : (st : State) (t : ℕ) (found : Option TaskRow) → HasStatus st t Made → slice_get st.tasks t ≡ found → Stands p lim st → Kept p lim (admitted st t found)
  admitted_kept st t None may e stands = absurd (cc (may.1, e))
  admitted_kept st t (Some row) may e stands =
      let was : row.status ≡ Made = status_of st t row Made may e in
      let new = admitted_row row in
      let almost : Almost p lim st.tasks t row row.out = record { stand = stands.rows; own = e; children = λ s a ne here. children_of p lim st stands s a here; own_children = children_of p lim st stands t row e } in
      record {
        settled = set_settled p lim st.tasks t row new row.out almost (same_task row new refl refl refl refl) refl refl (admitted_stands st t row was (stands.rows t row e));
        counts = set_counts lim st.tasks st.asked st.first_fault (counts_of p lim st stands) t row new e (λ is. cc (is, was)) (λ is. cc (is));
        cells = stands.cells;
      }

  -- A segment.

  ran_kept : (st : State) (t : ℕ) (found : Option TaskRow) → HasStatus st t Enabled → ((u : ℕ) → ¬ WaitsFor st.links t u) → slice_get st.tasks t ≡ found → Stands p lim st → Kept p lim (ran p lim st t found).0
  ran_kept st t None may free e stands = absurd (cc (may.1, e))
  ran_kept st t (Some row) may free e stands =
      let after : Stopped = segment p (ready_frame st.tasks row.frame) st.cells in
      stop_kept p lim well (state_after_join (record st { cells = after.cells }) (joined_child row.out (link_of st.links t).waits)) t row (status_of st t row Enabled may e) after.frame
      (halfway p lim st stands t row e free) after.stop (carries p row (stands.rows t row e).ready (awaited_value st.tasks (row_awaited row.frame.next)) st.cells)

  taken_kept : (st : State) (kind : Kind) (t : ℕ) → MayTake st kind t → Stands p lim st → Kept p lim (result_by_kind p lim st kind t).0
  taken_kept st Admit t may stands = admitted_kept st t (slice_get st.tasks t) may.0 refl stands
  taken_kept st Run t may stands = ran_kept st t (slice_get st.tasks t) may.0 may.1 refl stands

  -- A run.

  pub linked_of : (st : State) → Stands p lim st → Linked lim st
  linked_of st stands = record {
    links = stands.links;
    number = stands.number;
    outs = λ t row here. record {
      same = (stands.rows t row here).out;
      up = λ c h. let child = (children_of p lim st stands t row here c).0 h in (stands.rows c child.row child.there).parent t child.parent;
    };
  }

  -- a legal move keeps what stands
  pub taken_stands : (st : State) (kind : Kind) (t : ℕ) → MayTake st kind t → Stands p lim st → Stands p lim (result_by_kind p lim st kind t).0
  taken_stands st kind t may stands =
      stands_from p lim (result_by_kind p lim st kind t).0 (taken_kept st kind t may stands) (taken_linked p lim st kind t may (linked_of st stands))

  pub start_stands : Stands p lim (start_of p lim)
  start_stands = stands_from p lim (start_of p lim) start_kept (start_linked p lim)

  pub run_stands : (st : State) (entries : List Entry) → LegalFrom p lim st entries → Stands p lim st → Stands p lim (replayed p lim st entries)
  run_stands st [] legal stands = stands
  run_stands st (entry ∷ entries) legal stands =
      run_stands (result_by_kind p lim st entry.mv.kind entry.mv.task).0 entries legal.2 (taken_stands st entry.mv.kind entry.mv.task legal.0 stands)

-- in each state that a run comes to all stands
pub reached_stands : (p : Program) (lim : Bounds) (st : State) → IsWellFormed p → IsReached p lim st → Stands p lim st
reached_stands p lim st well r = subst (Stands p lim) (sym r.same) (run_stands p lim well (start_of p lim) r.journal r.legal (start_stands p lim well))
