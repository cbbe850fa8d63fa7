-- What a move makes: a row that was not there before is the one of the task that the entry made. And the frame of
-- the task that moves.
use Rattle.std.proofs.Common.{◌≡◌, ◌⊎◌, ◌≤◌, ◌<◌, ◌+◌, ◌++◌, ℕ, ℤ, Bool, true, false, cond, List, [], ◌∷◌, length, Option, None, Some, inl, inr, refl, sym, ap, ◌∙◌, subst, arith, nat_lt, length-set, ltb-true}
use Rattle.std.specs.Prelude.{slice_get, slice_set}
use Rattle.std.proofs.lemmas.Option.{slice_get_within}
use Rattle.twe_base.specs.declared.place.Place.{Place}
use Rattle.twe_base.specs.declared.fault.FaultKind.TheVariants.{TaskLimit}
use Rattle.twe_base.specs.Limits.{Bounds}
use Rattle.effect_sets.specs.declared.effects.Summary.{Summary}
use Rattle.seg_journal.specs.declared.journal.End.{End}
use Rattle.seg_journal.specs.declared.journal.End.TheVariants as ends
use Rattle.seg_journal.specs.declared.moves.Kind.{Kind}
use Rattle.seg_journal.specs.declared.moves.Kind.TheVariants.{Admit, Run}
use Rattle.wait_graph.specs.Link.{link_of}
use Rattle.twe_program.specs.Program.{Program}
use Rattle.seg_meaning.specs.declared.frame.Frame.{Frame}
use Rattle.seg_meaning.specs.declared.frame.Next.TheVariants.{Ended}
use Rattle.seg_meaning.specs.declared.stop.Stop.{Stop}
use Rattle.seg_meaning.specs.declared.stop.Stop.TheVariants as stops
use Rattle.seg_meaning.specs.Segment.{Stopped, segment}
use Rattle.machine_state.specs.declared.state.State.{State}
use Rattle.machine_state.specs.declared.state.TaskRow.{TaskRow}
use Rattle.machine_state.specs.Legal.{MayTake}
use Rattle.machine_state.specs.Moves.{admitted, admitted_row, done_row, faulted_row, frame_without_prints, going_row, joined_child, making_frame, new_row, parent_of, ran, ready_frame, result_by_kind, state_after_asking, state_after_fault, state_after_join, state_after_make, status_at_start, stop_result, stopped_frame}
use Rattle.machine_state.specs.Rows.{IsRow}
use Rattle.machine_state.proofs.standing.Halfway.{halfway}
use Rattle.machine_state.proofs.weight.JoinedWeight.{length_joined}
use Rattle.machine_state.proofs.lists.Places.{got_one, put_before, put_cases, set_same}
use Rattle.machine_state.proofs.standing.Standing.{Stands}

-- A segment of t with this stop made task c, which has this row: the stop is at the make of a frame of the row's
-- declaration, and t is the row's parent if the make is a spawn. It begins as it was made.
pub record MakesRow (lim : Bounds) (t c : ℕ) (stop : Stop) (end : End) (row : TaskRow) : Type 0 where
  pub child : Frame
  pub args : List ℤ
  pub effects : Summary
  pub spawned : Bool
  pub future : ℕ
  pub place : Place
  pub stops_at : stop ≡ stops.Make child args effects spawned future place
  pub end_is : end ≡ ends.Made c
  pub decl : row.decl ≡ child.decl
  pub parent : row.parent ≡ parent_of t spawned
  pub next : row.frame.next ≡ child.next
  pub status : row.status ≡ status_at_start (parent_of t spawned)
  pub frame : row.frame ≡ record child { task = c; fuel = lim.fuel }

module _ (lim : Bounds) (st : State) (t : ℕ) (row : TaskRow) (frame : Frame) where
  module _ (number : st.asked + 1 < lim.tasks → st.asked + 1 ≡ length st.tasks) (c : ℕ) (past : length st.tasks ≤ c) (new : TaskRow) where
    none_set : (changed : TaskRow) → slice_get (slice_set st.tasks t changed) c ≡ Some new → ⊥
    none_set changed here =
        let below = slice_get_within (slice_set st.tasks t changed) c new here in
        let same = length-set st.tasks t changed in
        omega arith

    made_row : (b : Bool) → nat_lt (st.asked + 1) lim.tasks ≡ b → (child : Frame) (args : List ℤ) (effects : Summary) (spawned : Bool) (future : ℕ) (place : Place)
        → let after = cond {A = State × End} b (state_after_make lim st t row frame future spawned child args effects, ends.Made (st.asked + 1))
        (state_after_fault (state_after_asking st) t row (stopped_frame frame) TaskLimit place, ends.Fault TaskLimit place) in
        IsRow after.0 c new → MakesRow lim t c (stops.Make child args effects spawned future place) after.1 new
    made_row true e child args effects spawned future place here =
        let going = going_row row (making_frame future spawned (st.asked + 1) frame) in
        let added = new_row lim (st.asked + 1) (parent_of t spawned) child args effects in
        elim (put_cases (slice_set st.tasks t going) added c new here) [
          | inl before ↦ absurd (none_set going before)
          | inr last ↦
              let same : c ≡ st.asked + 1 = last.0 ∙ (length-set st.tasks t going ∙ sym (number (ltb-true (st.asked + 1) lim.tasks e))) in
              record {
                child = child;
                args = args;
                effects = effects;
                spawned = spawned;
                future = future;
                place = place;
                stops_at = refl;
                end_is = ap ends.Made (sym same);
                decl = sym (ap (λ (r : TaskRow). r.decl) last.1);
                parent = sym (ap (λ (r : TaskRow). r.parent) last.1);
                next = sym (ap (λ (r : TaskRow). r.frame.next) last.1);
                status = sym (ap (λ (r : TaskRow). r.status) last.1);
                frame = sym (ap (λ (r : TaskRow). r.frame) last.1) ∙ ap (λ (n : ℕ). record child { task = n; fuel = lim.fuel }) (sym same);
              }
        ]
    made_row false e child args effects spawned future place here = absurd (none_set (faulted_row row (stopped_frame frame)) here)

    stop_row : (stop : Stop) → IsRow (stop_result lim st t row frame stop).0 c new → MakesRow lim t c stop (stop_result lim st t row frame stop).1 new
    stop_row (stops.Make child args effects spawned future place) here = made_row (nat_lt (st.asked + 1) lim.tasks) refl child args effects spawned future place here
    stop_row (stops.Waits on) here = absurd (none_set (going_row row frame) here)
    stop_row (stops.Joins on) here = absurd (none_set (going_row row frame) here)
    stop_row (stops.Done value) here = absurd (none_set (done_row row frame value) here)
    stop_row (stops.Fault kind place) here = absurd (none_set (faulted_row row frame) here)

-- The frame of t after a stop: what the segment left, with the new task in it if it made one; or the task has ended.

abbrev pub FrameAfter : Stop → Frame → End → TaskRow → Type 0
FrameAfter (stops.Make child args effects spawned future place) frame end new =
    ((number : ℕ) × (new.frame ≡ frame_without_prints (making_frame future spawned number frame)) × (end ≡ ends.Made number))
    ⊎ ((new.frame.body ≡ None) × (new.frame.next ≡ Ended) × (end ≡ ends.Fault TaskLimit place))
FrameAfter (stops.Waits on) frame end new = new.frame ≡ frame_without_prints frame
FrameAfter (stops.Joins on) frame end new = new.frame ≡ frame_without_prints frame
FrameAfter (stops.Done value) frame end new = new.frame ≡ frame_without_prints frame
FrameAfter (stops.Fault kind place) frame end new = new.frame ≡ frame_without_prints frame

module _ (lim : Bounds) (st : State) (t : ℕ) (row : TaskRow) (frame : Frame) (there : IsRow st t row) (new : TaskRow) where
  set_frame : (changed : TaskRow) → slice_get (slice_set st.tasks t changed) t ≡ Some new → new.frame ≡ changed.frame
  set_frame changed here =
      sym (ap (λ (r : TaskRow). r.frame) (got_one (slice_get (slice_set st.tasks t changed) t) (set_same st.tasks t row changed there) here))

  made_frame : (b : Bool) → (child : Frame) (args : List ℤ) (effects : Summary) (spawned : Bool) (future : ℕ) (place : Place)
      → let after = cond {A = State × End} b (state_after_make lim st t row frame future spawned child args effects, ends.Made (st.asked + 1))
      (state_after_fault (state_after_asking st) t row (stopped_frame frame) TaskLimit place, ends.Fault TaskLimit place) in
      IsRow after.0 t new → FrameAfter (stops.Make child args effects spawned future place) frame after.1 new
  made_frame true child args effects spawned future place here =
      let going = going_row row (making_frame future spawned (st.asked + 1) frame) in
      let added = new_row lim (st.asked + 1) (parent_of t spawned) child args effects in
      let own = put_before (slice_set st.tasks t going) added t going (set_same st.tasks t row going there) in
      let same : going ≡ new = got_one (slice_get (slice_set st.tasks t going ++ added ∷ []) t) own here in
      inl (st.asked + 1, sym (ap (λ (r : TaskRow). r.frame) same), refl)
  made_frame false child args effects spawned future place here =
      let same = set_frame (faulted_row row (stopped_frame frame)) here in
      inr (ap (λ (f : Frame). f.body) same, ap (λ (f : Frame). f.next) same, refl)

  stopped_row_frame : (stop : Stop) → IsRow (stop_result lim st t row frame stop).0 t new → FrameAfter stop frame (stop_result lim st t row frame stop).1 new
  stopped_row_frame (stops.Make child args effects spawned future place) here =
      made_frame (nat_lt (st.asked + 1) lim.tasks) child args effects spawned future place here
  stopped_row_frame (stops.Waits on) here = set_frame (going_row row frame) here
  stopped_row_frame (stops.Joins on) here = set_frame (going_row row frame) here
  stopped_row_frame (stops.Done value) here = set_frame (done_row row frame value) here
  stopped_row_frame (stops.Fault kind place) here = set_frame (faulted_row row frame) here

-- The same of a move.

-- the segment that the task of this row runs next
abbrev pub left_by : Program → State → TaskRow → Stopped
left_by p st row = segment p (ready_frame st.tasks row.frame) st.cells

-- a move of t made task c: it is a segment of t
pub record MoveMakesRow (p : Program) (lim : Bounds) (st : State) (kind : Kind) (t c : ℕ) (end : End) (new : TaskRow) : Type 0 where
  pub runs : kind ≡ Run
  pub row : TaskRow
  pub there : IsRow st t row
  pub makes : MakesRow lim t c (left_by p st row).stop end new

-- its frame after a move
abbrev pub FrameAfterMove : Program → State → Kind → TaskRow → End → TaskRow → Type 0
FrameAfterMove p st Admit row end new = new.frame ≡ row.frame
FrameAfterMove p st Run row end new = FrameAfter (left_by p st row).stop (left_by p st row).frame end new

module _ (p : Program) (lim : Bounds) (st : State) (stands : Stands p lim st) (t : ℕ) where
  asked_joined : (s : State) (o : Option ℕ) → (s.asked + 1 < lim.tasks → s.asked + 1 ≡ length s.tasks)
      → (state_after_join s o).asked + 1 < lim.tasks → (state_after_join s o).asked + 1 ≡ length (state_after_join s o).tasks
  asked_joined s None counts few = counts few
  asked_joined s (Some c) counts few = counts few ∙ sym (length_joined s (Some c))

  ran_row : (c : ℕ) → length st.tasks ≤ c → (new : TaskRow) (found : Option TaskRow) → slice_get st.tasks t ≡ found
      → IsRow (ran p lim st t found).0 c new → MoveMakesRow p lim st Run t c (ran p lim st t found).1 new
  ran_row c past new None e here = let below = slice_get_within st.tasks c new here in absurd (omega (arith, past, below))
  ran_row c past new (Some row) e here =
      let left = left_by p st row in
      let later : State = record st { cells = left.cells } in
      let child = joined_child row.out (link_of st.links t).waits in
      record {
        runs = refl;
        row = row;
        there = e;
        makes = stop_row lim (state_after_join later child) t row left.frame (asked_joined later child stands.number) c
            (omega (arith, past, length_joined later child)) new left.stop here;
      }

  admitted_none : (c : ℕ) → length st.tasks ≤ c → (new : TaskRow) (found : Option TaskRow) → IsRow (admitted st t found) c new → ⊥
  admitted_none c past new None here = let below = slice_get_within st.tasks c new here in omega (arith, past, below)
  admitted_none c past new (Some row) here =
      let below = slice_get_within (slice_set st.tasks t (admitted_row row)) c new here in
      let same = length-set st.tasks t (admitted_row row) in
      omega (arith, past, below, same)

  -- a row that was not there before the move is that of the task which it made
  pub move_row : (kind : Kind) (c : ℕ) → length st.tasks ≤ c → (new : TaskRow) → IsRow (result_by_kind p lim st kind t).0 c new
      → MoveMakesRow p lim st kind t c (result_by_kind p lim st kind t).1 new
  move_row Admit c past new here = absurd (admitted_none c past new (slice_get st.tasks t) here)
  move_row Run c past new here = ran_row c past new (slice_get st.tasks t) refl here

  ran_frame : (may : MayTake st Run t) (row new : TaskRow) (found : Option TaskRow) → slice_get st.tasks t ≡ found → found ≡ Some row
      → IsRow (ran p lim st t found).0 t new → FrameAfterMove p st Run row (ran p lim st t found).1 new
  ran_frame may row new None e is here = absurd (cc (is))
  ran_frame may row new (Some other) e is here =
      let same : other ≡ row = cc (is) in
      let left = left_by p st other in
      let later : State = record st { cells = left.cells } in
      let child = joined_child other.out (link_of st.links t).waits in
      subst (λ (r : TaskRow). FrameAfterMove p st Run r (ran p lim st t (Some other)).1 new) same
      (stopped_row_frame lim (state_after_join later child) t other left.frame (halfway p lim st stands t other e may.1).almost.own new left.stop here)

  admitted_frame : (row new : TaskRow) (found : Option TaskRow) → slice_get st.tasks t ≡ found → found ≡ Some row → IsRow (admitted st t found) t new → new.frame ≡ row.frame
  admitted_frame row new None e is here = absurd (cc (is))
  admitted_frame row new (Some other) e is here =
      let same : other ≡ row = cc (is) in
      let set : admitted_row other ≡ new = got_one (slice_get (slice_set st.tasks t (admitted_row other)) t) (set_same st.tasks t other (admitted_row other) e) here in
      sym (ap (λ (r : TaskRow). r.frame) set) ∙ ap (λ (r : TaskRow). r.frame) same

  pub move_frame : (kind : Kind) → MayTake st kind t → (row new : TaskRow) → IsRow st t row → IsRow (result_by_kind p lim st kind t).0 t new → FrameAfterMove p st kind row (result_by_kind p lim st kind t).1 new
  move_frame Admit may row new there here = admitted_frame row new (slice_get st.tasks t) refl there here
  move_frame Run may row new there here = ran_frame may row new (slice_get st.tasks t) refl there here
