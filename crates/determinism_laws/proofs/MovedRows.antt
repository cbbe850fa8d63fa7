-- What a segment that meets no fault makes of the rows of the tasks.
use Rattle.std.proofs.Common.{◌≡◌, ◌≢◌, ◌<◌, ◌+◌, ◌++◌, not, ℕ, ℤ, Bool, true, false, cond, List, [], ◌∷◌, length, Option, None, Some, inl, inr, refl, sym, ap, ◌∙◌, subst, arith, nat_lt, eq-eqb, ne_eqb, ltb-true, length-set}
use Rattle.std.specs.Prelude.{◌==◌, if◌then◌else◌, slice_get, slice_set}
use Rattle.twe_base.specs.declared.place.Place.{Place}
use Rattle.twe_base.specs.declared.fault.FaultKind.TheVariants.{TaskLimit}
use Rattle.twe_base.specs.Limits.{Bounds}
use Rattle.effect_sets.specs.declared.effects.Summary.{Summary}
use Rattle.seg_journal.specs.declared.journal.End.{End}
use Rattle.seg_journal.specs.declared.journal.End.TheVariants as ends
use Rattle.seg_journal.specs.declared.moves.Kind.TheVariants.{Run}
use Rattle.wait_graph.specs.declared.tasks.Link.{Link}
use Rattle.wait_graph.specs.Link.{link_of}
use Rattle.twe_program.specs.Program.{Program}
use Rattle.twe_program.specs.WellFormed.{IsWellFormed}
use Rattle.seg_meaning.specs.declared.frame.Frame.{Frame}
use Rattle.seg_meaning.specs.declared.stop.Stop.{Stop}
use Rattle.seg_meaning.specs.declared.stop.Stop.TheVariants as stops
use Rattle.seg_meaning.specs.Segment.{Stopped}
use Rattle.isolation_laws.proofs.rows.LinksOfRows.{link_there}
use Rattle.machine_state.specs.declared.state.State.{State}
use Rattle.machine_state.specs.declared.state.TaskRow.{TaskRow}
use Rattle.machine_state.specs.Changes.{LeavesAlone, asked_by, made_by, next_segment}
use Rattle.machine_state.specs.Legal.{MayRun}
use Rattle.machine_state.specs.Moves.{done_row, faulted_row, going_row, joined_child, joined_row, making_frame, new_row, parent_of, ran, result_by_kind, state_after_asking, state_after_fault, state_after_join, state_after_make, stop_result, stopped_frame}
use Rattle.machine_state.specs.Rows.{IsRow, row_awaited}
use Rattle.machine_state.specs.Runs.{IsReached}
use Rattle.machine_state.proofs.lists.Places.{put_before, put_last, set_same}
use Rattle.machine_state.proofs.standing.Halfway.{halfway}
use Rattle.machine_state.proofs.standing.ReachedStands.{reached_stands}
use Rattle.machine_state.proofs.standing.Standing.{Stands}
use Rattle.machine_state.proofs.tasks.LeftAlone.{moves_leave_alone}
use Rattle.machine_state.proofs.tasks.OtherRows.{child_of, row_after, taken_child}
use Rattle.machine_state.proofs.weight.JoinedWeight.{asked_joined, length_joined}
use Rattle.determinism_laws.proofs.NearFaults.{ends_in_fault}

-- the row of the task that ran, if its segment left this frame and stopped in this way; a task that it made has this number
abbrev pub own_after : Stop → ℕ → TaskRow → Frame → TaskRow
own_after (stops.Make child args effects spawned future place) number row frame = going_row row (making_frame future spawned number frame)
own_after (stops.Waits on) number row frame = going_row row frame
own_after (stops.Joins on) number row frame = going_row row frame
own_after (stops.Done value) number row frame = done_row row frame value
own_after (stops.Fault kind place) number row frame = faulted_row row frame

-- the row of the task that it made, if it made one
abbrev pub made_after : Bounds → ℕ → Stop → ℕ → Option TaskRow
made_after lim t (stops.Make child args effects spawned future place) number = Some (new_row lim number (parent_of t spawned) child args effects)
made_after lim t (stops.Waits on) number = None
made_after lim t (stops.Joins on) number = None
made_after lim t (stops.Done value) number = None
made_after lim t (stops.Fault kind place) number = None

-- the child that a task joins when it runs next
abbrev pub child_joined : TaskRow → Option ℕ
child_joined row = joined_child row.out (row_awaited row.frame.next)

-- the row of u, which is marked as joined if u is this child
abbrev pub marked : Option ℕ → ℕ → TaskRow → TaskRow
marked None u row = row
marked (Some c) u row = if c == u then joined_row row else row

pub marked_child : (c u : ℕ) (row : TaskRow) → c ≡ u → marked (Some c) u row ≡ joined_row row
marked_child c u row same = ap (λ (b : Bool). if b then joined_row row else row) (eq-eqb c u same)

pub marked_other : (child : Option ℕ) (u : ℕ) (row : TaskRow) → child ≢ Some u → marked child u row ≡ row
marked_other None u row differ = refl
marked_other (Some c) u row differ = ap (λ (b : Bool). if b then joined_row row else row) (ne_eqb c u (λ same. differ (ap Some same)))

-- The rows, the cells and the count after the next segment of task t.
pub record RowsAfter (lim : Bounds) (st new : State) (t : ℕ) (row : TaskRow) (left : Stopped) : Type 0 where
  pub own : IsRow new t (own_after left.stop (length st.tasks) row left.frame)
  pub others : (u : ℕ) (r : TaskRow) → u ≢ t → IsRow st u r → IsRow new u (marked (child_joined row) u r)
  pub made : (r : TaskRow) → made_after lim t left.stop (length st.tasks) ≡ Some r → IsRow new (length st.tasks) r
  pub count : length new.tasks ≡ length st.tasks + asked_by left.stop
  pub cells : new.cells ≡ left.cells
  pub asked : new.asked ≡ st.asked + asked_by left.stop

-- Once the join is taken: the stop.
record Leaves (lim : Bounds) (mid : State) (t : ℕ) (row : TaskRow) (frame : Frame) (after : State × End) (stop : Stop) : Type 0 where
  own : IsRow after.0 t (own_after stop (length mid.tasks) row frame)
  made : (r : TaskRow) → made_after lim t stop (length mid.tasks) ≡ Some r → IsRow after.0 (length mid.tasks) r
  count : made_by after.1 ≡ asked_by stop

module _ (lim : Bounds) (mid : State) (t : ℕ) (row : TaskRow) (frame : Frame) (here : IsRow mid t row) (number : nat_lt (mid.asked + 1) lim.tasks ≡ true → mid.asked + 1 ≡ length mid.tasks) where
  leaves_made : (child : Frame) (args : List ℤ) (effects : Summary) (spawned : Bool) (future : ℕ) (place : Place) (b : Bool) → nat_lt (mid.asked + 1) lim.tasks ≡ b → not b ≡ false
      → Leaves lim mid t row frame (cond {A = State × End} b (state_after_make lim mid t row frame future spawned child args effects, ends.Made (mid.asked + 1))
      (state_after_fault (state_after_asking mid) t row (stopped_frame frame) TaskLimit place, ends.Fault TaskLimit place)) (stops.Make child args effects spawned future place)
  leaves_made child args effects spawned future place false e fits = absurd (cc (fits))
  leaves_made child args effects spawned future place true e fits =
      let is = number e in
      let going = going_row row (making_frame future spawned (mid.asked + 1) frame) in
      let added = new_row lim (mid.asked + 1) (parent_of t spawned) child args effects in
      let rows = slice_set mid.tasks t going ++ added ∷ [] in
      let own_row = put_before (slice_set mid.tasks t going) added t going (set_same mid.tasks t row going here) in
      let last_row : slice_get rows (length mid.tasks) ≡ Some added = put_last (slice_set mid.tasks t going) added (length mid.tasks) (sym (length-set mid.tasks t going)) in
      record {
        own = subst (λ (n : ℕ). slice_get rows t ≡ Some (going_row row (making_frame future spawned n frame))) is own_row;
        made = λ r some.
            let same : new_row lim (length mid.tasks) (parent_of t spawned) child args effects ≡ r = cc (some) in
            last_row ∙ ap Some (ap (λ (n : ℕ). new_row lim n (parent_of t spawned) child args effects) is ∙ same);
        count = refl;
      }

  leaves : (stop : Stop) → ends_in_fault lim mid.asked stop ≡ false → Leaves lim mid t row frame (stop_result lim mid t row frame stop) stop
  leaves (stops.Make child args effects spawned future place) fits = leaves_made child args effects spawned future place (nat_lt (mid.asked + 1) lim.tasks) refl fits
  leaves (stops.Waits on) fits = record { own = set_same mid.tasks t row (going_row row frame) here; made = λ r some. absurd (cc (some)); count = refl }
  leaves (stops.Joins on) fits = record { own = set_same mid.tasks t row (going_row row frame) here; made = λ r some. absurd (cc (some)); count = refl }
  leaves (stops.Done value) fits = record { own = set_same mid.tasks t row (done_row row frame value) here; made = λ r some. absurd (cc (some)); count = refl }
  leaves (stops.Fault kind place) fits = absurd (cc (fits))

module _ (p : Program) (wf : IsWellFormed p) (lim : Bounds) (st : State) (reached : IsReached p lim st) (t : ℕ) (row : TaskRow) (here : IsRow st t row) (may : MayRun st t)
    (fits : ends_in_fault lim st.asked (next_segment p st row).stop ≡ false) where
  abbrev left : Stopped
  left = next_segment p st row

  abbrev new : State
  new = (result_by_kind p lim st Run t).0

  abbrev child : Option ℕ
  child = joined_child row.out (link_of st.links t).waits

  abbrev mid : State
  mid = state_after_join (record st { cells = left.cells }) child

  stands : Stands p lim st
  stands = reached_stands p lim st wf reached

  asked_mid : mid.asked ≡ st.asked
  asked_mid = asked_joined (record st { cells = left.cells }) child

  count_mid : length mid.tasks ≡ length st.tasks
  count_mid = length_joined (record st { cells = left.cells }) child

  number_mid : nat_lt (mid.asked + 1) lim.tasks ≡ true → mid.asked + 1 ≡ length mid.tasks
  number_mid e =
      let less : mid.asked + 1 < lim.tasks = ltb-true (mid.asked + 1) lim.tasks e in
      let number = stands.number (omega (arith, less, asked_mid)) in
      omega (arith, number, asked_mid, count_mid)

  moved : result_by_kind p lim st Run t ≡ stop_result lim mid t row left.frame left.stop
  moved = ap (ran p lim st t) here

  left_mid : Leaves lim mid t row left.frame (stop_result lim mid t row left.frame left.stop) left.stop
  left_mid = leaves lim mid t row left.frame (halfway p lim st stands t row here may.1).almost.own number_mid left.stop (ap (λ (n : ℕ). ends_in_fault lim n left.stop) asked_mid ∙ fits)

  alone : LeavesAlone p st new (record { task = t; kind = Run }) (result_by_kind p lim st Run t).1
  alone = moves_leave_alone p lim st (record { task = t; kind = Run }) wf reached may

  child_is : taken_child st Run t ≡ child_joined row
  child_is =
      ap (child_of st t) here
      ∙ ap (joined_child row.out) (ap (λ (l : Link). l.waits) (link_there st stands.links t row here))

  other_rows : (u : ℕ) (r : TaskRow) → u ≢ t → IsRow st u r → IsRow new u (marked (child_joined row) u r)
  other_rows u r other there = elim (row_after p lim st t u other r there Run) [
    | inl stays ↦ stays.1 ∙ ap Some (sym (marked_other (child_joined row) u r (λ is. stays.0 (child_is ∙ is))))
    | inr joins ↦
        let is : Some u ≡ child_joined row = sym joins.0 ∙ child_is in
        joins.1 ∙ ap Some (sym (marked_child u u r refl) ∙ ap (λ (c : Option ℕ). marked c u r) is)
  ]

  pub rows_after : RowsAfter lim st new t row left
  rows_after =
      let results = alone.results row here in
      let own_row : IsRow new t (own_after left.stop (length mid.tasks) row left.frame) = subst (λ (x : State × End). IsRow x.0 t (own_after left.stop (length mid.tasks) row left.frame)) (sym moved) left_mid.own in
      record {
        own = subst (λ (n : ℕ). IsRow new t (own_after left.stop n row left.frame)) count_mid own_row;
        others = other_rows;
        made = λ r some.
            let there : IsRow new (length mid.tasks) r =
            subst (λ (x : State × End). IsRow x.0 (length mid.tasks) r) (sym moved) (left_mid.made r (ap (made_after lim t left.stop) count_mid ∙ some)) in
            subst (λ (n : ℕ). IsRow new n r) count_mid there;
        count = alone.tasks ∙ ap (λ (n : ℕ). length st.tasks + n) (ap (λ (x : State × End). made_by x.1) moved ∙ left_mid.count);
        cells = results.cells;
        asked = results.asked;
      }
