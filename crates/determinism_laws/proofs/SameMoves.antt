-- States that are the same but for the numbers of the tasks allow the same segments, and these lead to such states again.
use Rattle.std.proofs.Common.{◌≡◌, ◌≢◌, ◌≤◌, ◌<◌, ◌+◌, ℕ, false, [], length, Option, None, Some, inl, inr, refl, sym, ap, ◌∙◌, subst, arith}
use Rattle.std.specs.Prelude.{option_map, slice_get}
use Rattle.std.proofs.lemmas.Bool.{cases_eq, cases_lt}
use Rattle.std.proofs.lemmas.Option.{slice_get_within}
use Rattle.twe_base.specs.Limits.{Bounds}
use Rattle.seg_journal.specs.declared.moves.Kind.TheVariants.{Run}
use Rattle.wait_graph.specs.declared.tasks.Link.{Link}
use Rattle.wait_graph.specs.Link.{link_of}
use Rattle.wait_graph.specs.Waiting.{WaitsFor}
use Rattle.twe_program.specs.Program.{Program}
use Rattle.twe_program.specs.WellFormed.{IsWellFormed}
use Rattle.seg_meaning.specs.declared.frame.Frame.{Frame}
use Rattle.seg_meaning.specs.declared.stop.Stop.{Stop}
use Rattle.seg_meaning.specs.declared.stop.Stop.TheVariants as stops
use Rattle.seg_meaning.specs.Giving.{given}
use Rattle.seg_meaning.specs.Segment.{Stopped, segment}
use Rattle.isolation_laws.proofs.rows.LinksOfRows.{link_not_there, link_there}
use Rattle.machine_state.specs.declared.state.State.{State}
use Rattle.machine_state.specs.declared.state.TaskRow.{TaskRow}
use Rattle.machine_state.specs.declared.state.TaskStatus.TheVariants.{Enabled}
use Rattle.machine_state.specs.Changes.{asked_by, next_segment}
use Rattle.machine_state.specs.Legal.{MayRun}
use Rattle.machine_state.specs.Moves.{awaited_value, ready_frame, result_by_kind, value_of}
use Rattle.machine_state.specs.Rows.{IsRow, row_awaited}
use Rattle.machine_state.specs.Runs.{IsReached}
use Rattle.machine_state.proofs.lists.Places.{below_there, got_one}
use Rattle.machine_state.proofs.segment_laws.BeingReady.{ready_given}
use Rattle.machine_state.proofs.segment_laws.Following.{makes_follow}
use Rattle.machine_state.proofs.standing.ReachedStands.{reached_stands}
use Rattle.machine_state.proofs.standing.Standing.{Stands}
use Rattle.determinism_laws.specs.numbering.Played.{IsInjective}
use Rattle.determinism_laws.specs.numbering.Renumbering.{Numbering, frame_renumbered, stopped_renumbered}
use Rattle.determinism_laws.proofs.numbering.BetweenSegments.{given_renumbered}
use Rattle.determinism_laws.proofs.numbering.Renumbered.{same_segment}
use Rattle.determinism_laws.proofs.MovedRows.{RowsAfter, child_joined, made_after, marked, own_after, rows_after}
use Rattle.determinism_laws.proofs.NearFaults.{ends_in_fault}
use Rattle.determinism_laws.proofs.RenumberedRows.{MakesFirst, asked_of_stop, awaited_renumbered, child_joined_renumbered, fault_of_stop, made_after_renumbered, marked_renumbered, own_renumbered, row_renumbered}

-- the numbering is its own inverse, and changes no number from this one on
pub record Exchanges (to : Numbering) (n : ℕ) : Type 0 where
  pub back : (k : ℕ) → to (to k) ≡ k
  pub beyond : (k : ℕ) → n ≤ k → to k ≡ k

pub tells_apart : (to : Numbering) (n : ℕ) → Exchanges to n → IsInjective to
tells_apart to n exchanges a b same = sym (exchanges.back a) ∙ (ap to same ∙ exchanges.back b)

-- The states are the same but for the numbers of the tasks, and for what was printed.
pub record SameStates (to : Numbering) (st other : State) : Type 0 where
  pub rows : (t : ℕ) (row : TaskRow) → IsRow st t row → IsRow other (to t) (row_renumbered to row)
  pub count : length other.tasks ≡ length st.tasks
  pub cells : other.cells ≡ st.cells
  pub asked : other.asked ≡ st.asked

-- the row of a task after a segment: its own, that of a task that was there, or that of the task that was made
pub data WasRow (lim : Bounds) (st : State) (t : ℕ) (row : TaskRow) (left : Stopped) (u : ℕ) (r : TaskRow) : Type 0 where
  its_own : u ≡ t → r ≡ own_after left.stop (length st.tasks) row left.frame → WasRow lim st t row left u r
  was_there : (old : TaskRow) → u ≢ t → IsRow st u old → r ≡ marked (child_joined row) u old → WasRow lim st t row left u r
  was_made : u ≡ length st.tasks → asked_by left.stop ≡ 1 → made_after lim t left.stop (length st.tasks) ≡ Some r → WasRow lim st t row left u r

module _ (lim : Bounds) (st after : State) (t : ℕ) (row : TaskRow) (left : Stopped) (rows : RowsAfter lim st after t row left) where
  -- a task that was made, if one was
  new_row_is : (stop : Stop) → left.stop ≡ stop → (u : ℕ) (r : TaskRow) → length st.tasks ≤ u → u < length st.tasks + asked_by stop → IsRow after u r → WasRow lim st t row left u r
  new_row_is (stops.Make child args effects spawned future place) stop u r least less here =
      let is : u ≡ length st.tasks = omega (arith, least, less) in
      let made = ap (λ (x : Stop). made_after lim t x (length st.tasks)) stop in
      let there = rows.made _ made in
      was_made is (ap asked_by stop) (made ∙ sym there ∙ ap (slice_get after.tasks) (sym is) ∙ here)
  new_row_is (stops.Waits on) stop u r least less here = absurd (omega (arith, least, less))
  new_row_is (stops.Joins on) stop u r least less here = absurd (omega (arith, least, less))
  new_row_is (stops.Done value) stop u r least less here = absurd (omega (arith, least, less))
  new_row_is (stops.Fault kind place) stop u r least less here = absurd (omega (arith, least, less))

  pub was_row : (u : ℕ) (r : TaskRow) → IsRow after u r → WasRow lim st t row left u r
  was_row u r here = elim (cases_eq u t) [
    | inl same ↦ its_own same (got_one (slice_get after.tasks t) (subst (λ (n : ℕ). IsRow after n r) same here) rows.own)
    | inr differ ↦ elim (cases_lt u (length st.tasks)) [
      | inl below ↦
          let old = below_there st.tasks u below in
          was_there old.0 differ old.1 (got_one (slice_get after.tasks u) here (rows.others u old.0 differ old.1))
      | inr least ↦
          let within = slice_get_within after.tasks u r here in
          new_row_is left.stop refl u r least (omega (arith, within, rows.count)) here
    ]
  ]

module _ (p : Program) (wf : IsWellFormed p) (lim : Bounds) (to : Numbering) (st other_st : State) (exchanges : Exchanges to (length st.tasks)) (reached : IsReached p lim st) (reached_too : IsReached p lim other_st)
    (same : SameStates to st other_st) where
  stands : Stands p lim st
  stands = reached_stands p lim st wf reached

  stands_too : Stands p lim other_st
  stands_too = reached_stands p lim other_st wf reached_too

  apart : IsInjective to
  apart = tells_apart to (length st.tasks) exchanges

  -- each row of the other state is one of this with other numbers
  pub row_back : (u : ℕ) (r : TaskRow) → IsRow other_st u r → (row : TaskRow) × IsRow st (to u) row × (r ≡ row_renumbered to row)
  row_back u r here = elim (cases_lt (to u) (length st.tasks)) [
    | inl below ↦
        let row = below_there st.tasks (to u) below in
        let there : IsRow other_st u (row_renumbered to row.0) = subst (λ (n : ℕ). IsRow other_st n (row_renumbered to row.0)) (exchanges.back u) (same.rows (to u) row.0 row.1) in
        (row.0, row.1, got_one (slice_get other_st.tasks u) here there)
    | inr least ↦
        let fixed : to u ≡ u = sym (exchanges.beyond (to u) least) ∙ exchanges.back u in
        let within = slice_get_within other_st.tasks u r here in
        absurd (omega (arith, least, fixed, within, same.count))
  ]

  module _ (t : ℕ) (row : TaskRow) (here : IsRow st t row) (may : MayRun st t) where
    abbrev row_too : TaskRow
    row_too = row_renumbered to row

    there : IsRow other_st (to t) row_too
    there = same.rows t row here

    -- the task waits for nobody
    free : (u : ℕ) → ¬ WaitsFor other_st.links (to t) u
    free u wait = by_awaited (row_awaited row.frame.next) refl
      where
        waits : option_map to (row_awaited row.frame.next) ≡ Some u
        waits = sym (ap (λ (l : Link). l.waits) (link_there other_st stands_too.links (to t) row_too there) ∙ awaited_renumbered to row.frame.next) ∙ wait.waits

        by_row : (on : ℕ) → row_awaited row.frame.next ≡ Some on → to on ≡ u → (found : Option TaskRow) → slice_get st.tasks on ≡ found → ⊥
        by_row on is to_on None gone = may.1 on (record {
          waits = ap (λ (l : Link). l.waits) (link_there st stands.links t row here) ∙ is;
          undone = ap (λ (l : Link). l.done) (link_not_there st stands.links on gone);
        })
        by_row on is to_on (Some b) at = may.1 on (record {
          waits = ap (λ (l : Link). l.waits) (link_there st stands.links t row here) ∙ is;
          undone =
              ap (λ (l : Link). l.done) (link_there st stands.links on b at)
              ∙ (sym (ap (λ (l : Link). l.done) (link_there other_st stands_too.links (to on) (row_renumbered to b) (same.rows on b at)))
              ∙ (ap (λ (n : ℕ). (link_of other_st.links n).done) to_on ∙ wait.undone));
        })

        by_awaited : (o : Option ℕ) → row_awaited row.frame.next ≡ o → ⊥
        by_awaited None is = let none : None ≡ Some u = sym (ap (option_map to) is) ∙ waits in cc (none)
        by_awaited (Some on) is =
            let some : Some (to on) ≡ Some u = sym (ap (option_map to) is) ∙ waits in
            let to_on : to on ≡ u = cc (some) in
            by_row on is to_on (slice_get st.tasks on) refl

    enabled : row.status ≡ Enabled
    enabled = ap (λ (r : TaskRow). r.status) (got_one (slice_get st.tasks t) here may.0.1) ∙ may.0.2

    pub may_too : MayRun other_st (to t)
    may_too = ((row_too, there, enabled), free)

    -- its next segment is the same but for the numbers
    value_renumbered : (o : Option ℕ) → awaited_value other_st.tasks (option_map to o) ≡ awaited_value st.tasks o
    value_renumbered None = refl
    value_renumbered (Some on) = by_found (slice_get st.tasks on) refl
      where
        by_found : (found : Option TaskRow) → slice_get st.tasks on ≡ found → value_of (slice_get other_st.tasks (to on)) ≡ value_of (slice_get st.tasks on)
        by_found (Some b) at = ap value_of (same.rows on b at) ∙ sym (ap value_of at)
        by_found None gone = by_other (slice_get other_st.tasks (to on)) refl
          where
            by_other : (found : Option TaskRow) → slice_get other_st.tasks (to on) ≡ found → value_of (slice_get other_st.tasks (to on)) ≡ value_of (slice_get st.tasks on)
            by_other None is = ap value_of is ∙ sym (ap value_of gone)
            by_other (Some r) is =
                let was = row_back (to on) r is in
                let at : slice_get st.tasks on ≡ Some was.0 = subst (λ (n : ℕ). slice_get st.tasks n ≡ Some was.0) (exchanges.back on) was.1 in
                absurd (cc (gone, at))

    abbrev frame : Frame
    frame = ready_frame st.tasks row.frame

    frame_too : ready_frame other_st.tasks row_too.frame ≡ frame_renumbered to frame
    frame_too =
        ap (given row_too.frame) (ap (awaited_value other_st.tasks) (awaited_renumbered to row.frame.next) ∙ value_renumbered (row_awaited row.frame.next))
        ∙ given_renumbered to row.frame row_too.frame (awaited_value st.tasks (row_awaited row.frame.next)) (λ on child is in_out equal. apart child on equal) refl

    abbrev left : Stopped
    left = next_segment p st row

    left_too : next_segment p other_st row_too ≡ stopped_renumbered to left
    left_too =
        ap (λ (f : Frame). segment p f other_st.cells) frame_too
        ∙ (ap (segment p (frame_renumbered to frame)) same.cells
        ∙ same_segment p to frame (frame_renumbered to frame) st.cells (ready_given p row.frame (awaited_value st.tasks (row_awaited row.frame.next)) (stands.rows t row here).ready) refl)

    first : MakesFirst p left.stop
    first child args effects spawned future place is = let made = makes_follow p frame st.cells [] child args effects spawned future place is in (made.task, made.child_is)

    module _ (fits : ends_in_fault lim st.asked left.stop ≡ false) where
      abbrev new : State
      new = (result_by_kind p lim st Run t).0

      abbrev new_too : State
      new_too = (result_by_kind p lim other_st Run (to t)).0

      pub fits_too : ends_in_fault lim other_st.asked (next_segment p other_st row_too).stop ≡ false
      fits_too =
          ap (λ (x : Stopped). ends_in_fault lim other_st.asked x.stop) left_too
          ∙ (fault_of_stop to lim other_st.asked left.stop ∙ (ap (λ (n : ℕ). ends_in_fault lim n left.stop) same.asked ∙ fits))

      after : RowsAfter lim st new t row left
      after = rows_after p wf lim st reached t row here may fits

      after_too : RowsAfter lim other_st new_too (to t) row_too (stopped_renumbered to left)
      after_too = subst (RowsAfter lim other_st new_too (to t) row_too) left_too (rows_after p wf lim other_st reached_too (to t) row_too there may_too fits_too)

      number : to (length st.tasks) ≡ length other_st.tasks
      number = exchanges.beyond (length st.tasks) (omega arith) ∙ sym same.count

      row_there : (u : ℕ) (r : TaskRow) → WasRow lim st t row left u r → IsRow new_too (to u) (row_renumbered to r)
      row_there u r (its_own is own_row) =
          let own_too = after_too.own ∙ ap Some (own_renumbered to left.stop (length st.tasks) (length other_st.tasks) row left.frame number ∙ ap (row_renumbered to) (sym own_row)) in
          subst (λ (n : ℕ). IsRow new_too (to n) (row_renumbered to r)) (sym is) own_too
      row_there u r (was_there old differ at marked_row) =
          after_too.others (to u) (row_renumbered to old) (λ is. differ (apart u t is)) (same.rows u old at)
          ∙ ap Some (ap (λ (c : Option ℕ). marked c (to u) (row_renumbered to old)) (child_joined_renumbered to apart row)
          ∙ (marked_renumbered to apart (child_joined row) u old ∙ ap (row_renumbered to) (sym marked_row)))
      row_there u r (was_made is asked made) =
          let made_too = after_too.made (row_renumbered to r) (made_after_renumbered to p lim t (length st.tasks) (length other_st.tasks) left.stop number first r made) in
          subst (λ (n : ℕ). IsRow new_too n (row_renumbered to r)) (sym number ∙ ap to (sym is)) made_too

      pub same_after : SameStates to new new_too
      same_after = record {
        rows = λ u r at. row_there u r (was_row lim st new t row left after u r at);
        count = after_too.count ∙ (ap (λ (n : ℕ). length other_st.tasks + n) (asked_of_stop to left.stop) ∙ (ap (λ (n : ℕ). n + asked_by left.stop) same.count ∙ sym after.count));
        cells = after_too.cells ∙ sym after.cells;
        asked = after_too.asked ∙ (ap (λ (n : ℕ). other_st.asked + n) (asked_of_stop to left.stop) ∙ (ap (λ (n : ℕ). n + asked_by left.stop) same.asked ∙ sym after.asked));
      }
