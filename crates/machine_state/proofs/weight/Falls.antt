-- Each legal move makes a state lighter.
use Rattle.std.proofs.Common.{◌≡◌, ◌+◌, ◌<◌, ◌≤◌, ◌-◌, ◌*◌, inl, inr, ℕ, ℤ, Bool, List, [], ◌∷◌, ◌++◌, length, Option, Some, true, false, refl, sym, ap, ◌∙◌, arith, length-append, length-set}
use Rattle.std.specs.Prelude.{nat_lt, if◌then◌else◌, slice_get, slice_set}
use Rattle.std.proofs.lemmas.Bool.{ltb-true}
use Rattle.effect_sets.specs.declared.effects.Summary.{Summary}
use Rattle.seg_journal.specs.declared.moves.Kind.{Kind}
use Rattle.seg_journal.specs.declared.moves.Kind.TheVariants.{Admit, Run}
use Rattle.twe_base.specs.declared.fault.FaultKind.TheVariants.{TaskLimit}
use Rattle.seg_journal.specs.declared.journal.End.{End}
use Rattle.seg_journal.specs.declared.journal.End.TheVariants as end_is
use Rattle.twe_base.specs.Limits.{Bounds}
use Rattle.twe_base.specs.declared.place.Place.{Place}
use Rattle.twe_program.specs.Program.{Program}
use Rattle.wait_graph.specs.Link.{link_of}
use Rattle.seg_meaning.specs.declared.frame.Frame.{Frame}
use Rattle.seg_meaning.specs.declared.frame.Next.{Next}
use Rattle.seg_meaning.specs.declared.frame.Next.TheVariants.{Go, Get, Join, Closing, Ended}
use Rattle.seg_meaning.specs.declared.stop.Stop.{Stop}
use Rattle.seg_meaning.specs.declared.stop.Stop.TheVariants as stops
use Rattle.seg_meaning.specs.Segment.{segment}
use Rattle.machine_state.specs.segment_laws.Keeps.{NextAfter, SegmentKeeps}
use Rattle.machine_state.specs.declared.state.State.{State}
use Rattle.machine_state.specs.declared.state.TaskRow.{TaskRow}
use Rattle.machine_state.specs.declared.state.TaskStatus.{TaskStatus}
use Rattle.machine_state.specs.declared.state.TaskStatus.TheVariants.{Made, Enabled}
use Rattle.machine_state.specs.Legal.{MayTake}
use Rattle.machine_state.specs.Moves.{admitted, admitted_row, done_row, faulted_row, going_row, making_frame, new_row, parent_of, stopped_frame, state_after_join, joined_child, stop_result, ran, result_by_kind, ready_frame, state_after_asking, state_after_make, state_after_fault}
use Rattle.machine_state.specs.Rows.{HasStatus}
use Rattle.machine_state.proofs.weight.Weight.{weight, rows_weight, row_weight, room_weight, weight_at, work_of, children_left, added_weight, set_weight, less_room}
use Rattle.machine_state.proofs.weight.JoinedWeight.{joined_weight, length_joined, asked_joined}
use Rattle.machine_state.proofs.weight.GivenWork.{ClosesFirst}
use Rattle.machine_state.proofs.weight.GivenWork as giving
use Rattle.machine_state.proofs.weight.Spending.{IsLeft, got_weight, join_weight, closing_weight, made_weight}

pub childless : (next : Next) → children_left next 0 ≡ 0
childless Go = refl
childless (Get on into) = refl
childless (Join on into) = refl
childless (Closing on) = refl
childless Ended = refl

-- a task that is made is no heavier than what was kept for it
new_weight : (lim : Bounds) (number t : ℕ) (spawned : Bool) (child : Frame) (args : List ℤ) (effects : Summary)
    → row_weight (new_row lim number (parent_of t spawned) child args effects) ≤ 2 * lim.fuel + 2
new_weight lim number t true child args effects = omega (arith, childless child.next)
new_weight lim number t false child args effects = omega (arith, childless child.next)

-- what is known of a segment that left this frame and stopped in this way
pub record IsSpent (row : TaskRow) (frame : Frame) (stop : Stop) : Type 0 where
  pub left : IsLeft row frame
  pub made : (child : Frame) (args : List ℤ) (effects : Summary) (spawned : Bool) (future : ℕ) (place : Place)
      → stop ≡ stops.Make child args effects spawned future place → frame.fuel < row.frame.fuel
  pub got : (on : ℕ) (into : Option ℕ) → frame.next ≡ Get on into → frame.fuel < row.frame.fuel
  pub joined : (on : ℕ) (into : Option ℕ) → frame.next ≡ Join on into → frame.fuel < row.frame.fuel
  pub next : NextAfter stop frame

-- while another task may be made, the number of those that were asked for is that of those that were made
abbrev pub CountsMade : Bounds → State → Type 0
CountsMade lim st = st.asked + 1 < lim.tasks → st.asked + 1 ≡ length st.tasks

module _ (lim : Bounds) (st : State) (t : ℕ) (row : TaskRow) (found : slice_get st.tasks t ≡ Some row) (child : Option ℕ) where
  -- a lighter row in the place of the one that was there
  placed : (new : TaskRow) → row_weight new < row_weight row
      → rows_weight (slice_set (state_after_join st child).tasks t new) + room_weight lim (lim.tasks - length (slice_set (state_after_join st child).tasks t new)) < weight lim st
  placed new lighter =
      let sum = joined_weight st child t row new found in
      let count : length (slice_set (state_after_join st child).tasks t new) ≡ length st.tasks = length-set (state_after_join st child).tasks t new ∙ length_joined st child in
      rw count (omega (arith, sum))

  -- and another row beside it
  grown : (new other : TaskRow) → row_weight new < row_weight row → row_weight other ≤ 2 * lim.fuel + 2 → length st.tasks < lim.tasks
      → rows_weight (slice_set (state_after_join st child).tasks t new ++ other ∷ []) + room_weight lim (lim.tasks - length (slice_set (state_after_join st child).tasks t new ++ other ∷ [])) < weight lim st
  grown new other lighter light room =
      let rows = slice_set (state_after_join st child).tasks t new in
      let sum = joined_weight st child t row new found in
      let more = added_weight rows other in
      let count : length (rows ++ other ∷ []) ≡ length st.tasks + 1 =
      length-append rows (other ∷ []) ∙ ap (λ (n : ℕ). n + 1) (length-set (state_after_join st child).tasks t new ∙ length_joined st child) in
      let one : lim.tasks - length (rows ++ other ∷ []) ≡ lim.tasks - length st.tasks - 1 = omega (arith, count) in
      let kept = less_room lim (lim.tasks - length st.tasks) (omega arith) in
      rw one (omega (arith, sum, more, kept))

  -- an ended row weighs nothing
  ended : (new : TaskRow) → row.status ≡ Enabled → row_weight new ≡ 0 → row_weight new < row_weight row
  ended new enabled none =
      let some : row_weight row ≡ work_of row + 1 = ap (λ (s : TaskStatus). weight_at s (work_of row)) enabled in
      omega (arith, none, some)

  -- the making of a task
  made_falls : (frame : Frame) (into : ℕ) (spawned : Bool) (task : Frame) (args : List ℤ) (effects : Summary) (place : Place) (fits : Bool)
      → IsSpent row frame (stops.Make task args effects spawned into place) → CountsMade lim st → nat_lt ((state_after_join st child).asked + 1) lim.tasks ≡ fits
      → weight lim (if◌then◌else◌ {A = State × End} fits (state_after_make lim (state_after_join st child) t row frame into spawned task args effects, end_is.Made ((state_after_join st child).asked + 1))
      (state_after_fault (state_after_asking (state_after_join st child)) t row (stopped_frame frame) TaskLimit place, end_is.Fault TaskLimit place)).0 < weight lim st
  made_falls frame into spawned task args effects place true spent counts e =
      let number = (state_after_join st child).asked + 1 in
      let below : number < lim.tasks = ltb-true number lim.tasks e in
      let asked = asked_joined st child in
      let room : length st.tasks < lim.tasks = let is = counts (omega (arith, below, asked)) in omega (arith, is, below, asked) in
      let other = new_row lim number (parent_of t spawned) task args effects in
      grown (going_row row (making_frame into spawned number frame)) other
      (made_weight row frame into number spawned spent.left spent.next (spent.made task args effects spawned into place refl))
      (new_weight lim number t spawned task args effects) room
  made_falls frame into spawned task args effects place false spent counts e =
      placed (faulted_row row (stopped_frame frame)) (ended (faulted_row row (stopped_frame frame)) spent.left.enabled refl)

  -- a segment that has stopped
  stopped_falls : (frame : Frame) (stop : Stop) → IsSpent row frame stop → CountsMade lim st → weight lim (stop_result lim (state_after_join st child) t row frame stop).0 < weight lim st
  stopped_falls frame (stops.Make task args effects spawned into place) spent counts = made_falls frame into spawned task args effects place _ spent counts refl
  stopped_falls frame (stops.Waits on) spent counts =
      let next = spent.next in
      placed (going_row row frame) (got_weight row frame on next.0 spent.left next.1 (spent.got on next.0 next.1))
  stopped_falls frame (stops.Joins on) spent counts =
      elim spent.next [
        | inl next ↦ placed (going_row row frame) (join_weight row frame on next.0 spent.left next.1 (spent.joined on next.0 next.1))
        | inr closing ↦ placed (going_row row frame) (closing_weight row frame on spent.left closing)
      ]
  stopped_falls frame (stops.Done value) spent counts = placed (done_row row frame value) (ended (done_row row frame value) spent.left.enabled refl)
  stopped_falls frame (stops.Fault kind place) spent counts = placed (faulted_row row frame) (ended (faulted_row row frame) spent.left.enabled refl)

admitted_falls : (lim : Bounds) (st : State) (t : ℕ) → HasStatus st t Made → weight lim (admitted st t (slice_get st.tasks t)) < weight lim st
admitted_falls lim st t made =
    let row = made.0 in
    let sum = set_weight st.tasks t row (admitted_row row) made.1 in
    let was : row_weight row ≡ work_of row + 2 = ap (λ (s : TaskStatus). weight_at s (work_of row)) made.2 in
    let is : row_weight (admitted_row row) ≡ work_of row + 1 = refl in
    let count : length (slice_set st.tasks t (admitted_row row)) ≡ length st.tasks = length-set st.tasks t (admitted_row row) in
    rw made.1 (rw count (omega (arith, sum, was, is)))

module _ (p : Program) (lim : Bounds) (st : State) (t : ℕ) (keeps : (frame : Frame) (cells : List ℤ) → SegmentKeeps frame cells (segment p frame cells)) (counts : CountsMade lim st) where
  -- what the segment of a task leaves of its work
  spent : (row : TaskRow) → row.status ≡ Enabled → row.out ≡ row.frame.out.items → ClosesFirst row.frame
      → let after = segment p (ready_frame st.tasks row.frame) st.cells in IsSpent row after.frame after.stop
  spent row enabled out closes =
      let before = ready_frame st.tasks row.frame in
      let after = segment p before st.cells in
      let k : SegmentKeeps before st.cells after = keeps before st.cells in
      let gave : giving.Taken row.frame before = giving.taken row.frame _ closes in
      let fuel : before.fuel ≡ row.frame.fuel = gave.fuel in
      let same : length after.frame.out.items ≡ length before.out.items = ap length k.out in
      let had : children_left row.frame.next (length row.frame.out.items) ≡ children_left row.frame.next (length row.out) = ap (λ (l : List ℕ). children_left row.frame.next (length l)) (sym out) in
      record {
        left = record { enabled = enabled; fuel = omega (arith, k.fuel, fuel); out = omega (arith, gave.out, same, had) };
        made = λ child args effects spawned future place e. omega (arith, k.made child args effects spawned future place e, fuel);
        got = λ on into e. omega (arith, k.got on into e, fuel);
        joined = λ on into e. omega (arith, k.joined on into e, fuel);
        next = k.next;
      }

  -- a run of one segment
  ran_falls : (row : TaskRow) → slice_get st.tasks t ≡ Some row → row.status ≡ Enabled → row.out ≡ row.frame.out.items → ClosesFirst row.frame
      → weight lim (ran p lim st t (slice_get st.tasks t)).0 < weight lim st
  ran_falls row found enabled out closes =
      let after = segment p (ready_frame st.tasks row.frame) st.cells in
      let later : State = record st { cells = after.cells } in
      let falls = stopped_falls lim later t row found (joined_child row.out (link_of st.links t).waits) after.frame after.stop (spent row enabled out closes) counts in
      rw found falls

  pub falls : (kind : Kind) → MayTake st kind t → ((row : TaskRow) → slice_get st.tasks t ≡ Some row → (row.out ≡ row.frame.out.items) × ClosesFirst row.frame)
      → weight lim (result_by_kind p lim st kind t).0 < weight lim st
  falls Admit may rows = admitted_falls lim st t may.0
  falls Run may rows = let row = may.0 in let facts = rows row.0 row.1 in ran_falls row.0 row.1 row.2 facts.0 facts.1
