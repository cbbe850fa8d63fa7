-- What is known between the two parts of a segment's end: the join that it took is taken, and the frame that it left is
-- to go home.
use Rattle.std.proofs.Common.{◌≡◌, ◌<◌, ◌+◌, ℕ, ℤ, Bool, false, List, length, Option, None, Some, refl, sym, ap, ◌∙◌, subst}
use Rattle.std.specs.Prelude.{slice_get, slice_set}
use Rattle.twe_base.specs.declared.place.Place.{Place}
use Rattle.effect_sets.specs.declared.effects.Summary.{Summary}
use Rattle.twe_base.specs.Limits.{Bounds}
use Rattle.wait_graph.specs.Link.{link_of, new_link}
use Rattle.wait_graph.specs.Waiting.{WaitsFor}
use Rattle.twe_program.specs.Program.{Program, cell_count}
use Rattle.seg_meaning.specs.declared.frame.Frame.{Frame}
use Rattle.seg_meaning.specs.declared.frame.Next.TheVariants.{Ended}
use Rattle.seg_meaning.specs.declared.stop.Stop.{Stop}
use Rattle.seg_meaning.specs.declared.stop.Stop.TheVariants as stops
use Rattle.seg_meaning.specs.Children.{Children}
use Rattle.seg_meaning.specs.Giving.{given, given_by}
use Rattle.seg_meaning.specs.Segment.{Stopped, segment}
use Rattle.machine_state.specs.segment_laws.Keeps.{NextAfter}
use Rattle.machine_state.specs.segment_laws.Ready.{IsReady, MakesDeclared, futures_at}
use Rattle.machine_state.proofs.segment_laws.BeingReady.{ready_same, ready_ended, ready_given, ready_later, ready_declared, ready_made}
use Rattle.machine_state.proofs.segment_laws.SegmentKept.{segment_keeps}
use Rattle.machine_state.specs.declared.state.State.{State}
use Rattle.machine_state.specs.declared.state.TaskRow.{TaskRow}
use Rattle.machine_state.specs.declared.state.TaskStatus.{TaskStatus}
use Rattle.machine_state.specs.declared.state.TaskStatus.TheVariants.{Made, Enabled, Done, Faulted}
use Rattle.machine_state.specs.Moves.{state_after_join, joined_child, stopped_frame, ready_frame, awaited_value}
use Rattle.machine_state.specs.Rows.{row_awaited, is_done_row, is_done_status, link_of_row}
use Rattle.machine_state.proofs.standing.Almost.{Almost}
use Rattle.machine_state.proofs.standing.Carried.{given_keeps, segment_stands}
use Rattle.machine_state.proofs.standing.Counts.{Counts, same_counts}
use Rattle.machine_state.proofs.standing.Joining.{ChildrenAre, AfterJoin, rows_joined, after_join}
use Rattle.machine_state.proofs.standing.Later.{frame_later}
use Rattle.machine_state.proofs.lists.Members.{in_contains, contains_in}
use Rattle.machine_state.proofs.lists.Places.{map_index}
use Rattle.machine_state.proofs.standing.Standing.{FrameStands, RowStands, Stands}

-- What is known of the frame and the stop of a segment: what the task does next, and what it makes.
pub record Carries (p : Program) (row : TaskRow) (frame : Frame) (stop : Stop) : Type 0 where
  pub decl : frame.decl ≡ row.frame.decl
  pub next : NextAfter stop frame
  pub ended : IsReady p (stopped_frame frame)
  pub later : ((child : Frame) (args : List ℤ) (effects : Summary) (spawned : Bool) (future : ℕ) (place : Place) → ¬ (stop ≡ stops.Make child args effects spawned future place)) → IsReady p frame
  pub declared : (child : Frame) (args : List ℤ) (effects : Summary) (spawned : Bool) (future : ℕ) (place : Place)
      → stop ≡ stops.Make child args effects spawned future place → MakesDeclared p frame child args effects spawned future
  pub made : (child : Frame) (args : List ℤ) (effects : Summary) (spawned : Bool) (future : ℕ) (place : Place)
      → stop ≡ stops.Make child args effects spawned future place
      → (task : ℕ) (out : Children) → IsReady p (record frame { futures = slice_set frame.futures future (Some task); out = out })

pub carries : (p : Program) (row : TaskRow) → IsReady p row.frame → (value : ℤ) (cells : List ℤ)
    → let after = segment p (given row.frame value) cells in Carries p row after.frame after.stop
carries p row ready value cells =
    let before = given row.frame value in
    let after : Stopped = segment p before cells in
    let keeps = segment_keeps p before cells in
    let ready_before = ready_given p row.frame value ready in
    record {
      decl = keeps.decl ∙ (given_keeps row.frame.next row.frame value).decl;
      next = keeps.next;
      ended = ready_same p (record before { body = None; next = Ended }) (stopped_frame after.frame) keeps.decl refl keeps.futures (ready_ended p before ready_before);
      later = ready_later p before cells ready_before;
      declared = λ child args effects spawned future place is.
          let makes = ready_declared p before cells ready_before child args effects spawned future place is in record {
            task = makes.task;
            child_is = makes.child_is;
            effects_are = makes.effects_are;
            takes = makes.takes;
            declared = ap (λ (n : ℕ). slice_get (futures_at p n) future) keeps.decl ∙ makes.declared;
          };
      made = λ child args effects spawned future place is. ready_made p before cells ready_before child args effects spawned future place is;
    }

-- the state once the join was taken
pub record Halfway (p : Program) (lim : Bounds) (st : State) (t : ℕ) (row : TaskRow) (frame : Frame) : Type 0 where
  pub almost : Almost p lim st.tasks t row frame.out.items
  pub frame_stands : FrameStands p lim st.tasks t frame
  pub counts : Counts lim st.tasks st.asked st.first_fault
  pub number : st.asked + 1 < lim.tasks → st.asked + 1 ≡ length st.tasks
  pub cells : length st.cells ≡ cell_count p

pub counts_of : (p : Program) (lim : Bounds) (st : State) → Stands p lim st → Counts lim st.tasks st.asked st.first_fault
counts_of p lim st stands = record { some = stands.some; limit = stands.limit; few = stands.asked; fault = stands.fault; no_fault = stands.no_fault }

pub children_of : (p : Program) (lim : Bounds) (st : State) → Stands p lim st → (s : ℕ) (a : TaskRow) → slice_get st.tasks s ≡ Some a → ChildrenAre st.tasks s a.out
children_of p lim st stands s a here c =
    (λ h. (stands.children s a here c).0 (in_contains a.out c h), λ child. contains_in a.out c ((stands.children s a here c).1 child))

module _ (p : Program) (lim : Bounds) (st : State) (stands : Stands p lim st) (t : ℕ) (row : TaskRow) (found : slice_get st.tasks t ≡ Some row) where
  -- what the links say that the task waits for is what its row says
  waits_is : (link_of st.links t).waits ≡ row_awaited row.frame.next
  waits_is = ap (λ links. (link_of links t).waits) stands.links ∙ ap (λ link. link.waits) (map_index link_of_row st.tasks t row (new_link None) found)

  abbrev value : ℤ
  value = awaited_value st.tasks (row_awaited row.frame.next)

  abbrev after : Stopped
  after = segment p (ready_frame st.tasks row.frame) st.cells

  own_stands : RowStands p lim st.tasks t row
  own_stands = stands.rows t row found

  own_children : ChildrenAre st.tasks t row.frame.out.items
  own_children = subst (ChildrenAre st.tasks t) own_stands.out (children_of p lim st stands t row found)

  pub left_stands : FrameStands p lim st.tasks t after.frame
  left_stands = segment_stands p lim st.tasks stands.rows t row own_stands own_children value st.cells

  halfway_by : (child : Option ℕ) → AfterJoin p lim st.tasks (rows_joined st.tasks child) t row after.frame.out.items → Halfway p lim (state_after_join (record st { cells = after.cells }) child) t row after.frame
  halfway_by None join = record {
    almost = record { stand = join.stand; own = join.own; children = join.children; own_children = join.own_children };
    frame_stands = left_stands;
    counts = counts_of p lim st stands;
    number = stands.number;
    cells = (segment_keeps p (ready_frame st.tasks row.frame) st.cells).cells ∙ stands.cells;
  }
  halfway_by (Some c) join = record {
    almost = record { stand = join.stand; own = join.own; children = join.children; own_children = join.own_children };
    frame_stands = frame_later p lim st.tasks _ t after.frame join.later left_stands;
    counts = same_counts lim st.tasks _ st.asked st.first_fault join.as_many join.faulted join.status join.status_back (counts_of p lim st stands);
    number = λ few. stands.number few ∙ sym join.as_many;
    cells = (segment_keeps p (ready_frame st.tasks row.frame) st.cells).cells ∙ stands.cells;
  }

  -- if the task may run, the awaited task is done
  done_link : (u : ℕ) (b : TaskRow) → slice_get st.tasks u ≡ Some b → (link_of st.links u).done ≡ is_done_row b
  done_link u b here = ap (λ links. (link_of links u).done) stands.links ∙ ap (λ link. link.done) (map_index link_of_row st.tasks u b (new_link None) here)

  awaited_done : ((u : ℕ) → ¬ WaitsFor st.links t u) → (on : ℕ) (b : TaskRow) → row_awaited row.frame.next ≡ Some on → slice_get st.tasks on ≡ Some b → b.status ≡ Done
  awaited_done free on b waits here =
      done_by b.status refl (λ undone. free on (record { waits = waits_is ∙ waits; undone = done_link on b here ∙ ap is_done_status undone.1 ∙ undone.0 })) where
        done_by : (status : TaskStatus) → b.status ≡ status → ¬ ((is_done_status status ≡ false) × (b.status ≡ status)) → b.status ≡ Done
        done_by Made is done = absurd (done (refl, is))
        done_by Enabled is done = absurd (done (refl, is))
        done_by Done is done = is
        done_by Faulted is done = absurd (done (refl, is))

  pub halfway : ((u : ℕ) → ¬ WaitsFor st.links t u) → Halfway p lim (state_after_join (record st { cells = after.cells }) (joined_child row.out (link_of st.links t).waits)) t row after.frame
  halfway free =
      let join = after_join p lim st.tasks stands.rows (children_of p lim st stands) t row found (awaited_done free) value in
      let same_out : after.frame.out.items ≡ (given_by row.frame.next row.frame value).out.items = (segment_keeps p (ready_frame st.tasks row.frame) st.cells).out in
      subst (λ (waits : Option ℕ). Halfway p lim (state_after_join (record st { cells = after.cells }) (joined_child row.out waits)) t row after.frame) (sym waits_is)
      (halfway_by (joined_child row.out (row_awaited row.frame.next))
      (subst (AfterJoin p lim st.tasks (rows_joined st.tasks (joined_child row.out (row_awaited row.frame.next))) t row) (sym same_out) join))
