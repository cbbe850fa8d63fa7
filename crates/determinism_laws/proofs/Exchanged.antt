-- Two tasks that may run may do so in either order: the two orders lead to states that are the same but for the numbers of
-- the tasks that they make.
use Rattle.std.proofs.Common.{◌≡◌, ◌≢◌, ◌≤◌, ◌<◌, ◌+◌, not, ℕ, suc, ℤ, Bool, true, false, List, [], ◌∷◌, length, Option, None, Some, inl, inr, refl, sym, ap, ◌∙◌, subst, arith, nat_lt}
use Rattle.std.specs.Prelude.{◌==◌, if◌then◌else◌, slice_get}
use Rattle.std.specs.List.{list_any}
use Rattle.std.proofs.lemmas.Bool.{cases_Bool}
use Rattle.std.proofs.lemmas.Option.{slice_get_within}
use Rattle.effect_check.proofs.Members.{in-contains, list_any-in}
use Rattle.twe_base.specs.Limits.{Bounds}
use Rattle.seg_journal.specs.declared.moves.Kind.TheVariants.{Run}
use Rattle.twe_program.specs.Program.{Program}
use Rattle.twe_program.specs.WellFormed.{IsWellFormed}
use Rattle.seg_meaning.specs.declared.frame.Frame.{Frame}
use Rattle.seg_meaning.specs.declared.stop.Stop.{Stop}
use Rattle.seg_meaning.specs.declared.stop.Stop.TheVariants as stops
use Rattle.seg_meaning.specs.Access.{Access, Prints, Reads, Writes, after}
use Rattle.seg_meaning.specs.Segment.{Stopped}
use Rattle.seg_meaning.proofs.Determined.{segment_agrees}
use Rattle.isolation_laws.specs.soundness.KeepsEffects.{KeepsEffects}
use Rattle.isolation_laws.proofs.running.Movers.{movers_apart}
use Rattle.machine_state.specs.declared.state.State.{State}
use Rattle.machine_state.specs.declared.state.TaskRow.{TaskRow}
use Rattle.machine_state.specs.declared.state.TaskStatus.TheVariants.{Done, Enabled}
use Rattle.machine_state.specs.Changes.{asked_by, next_segment}
use Rattle.machine_state.specs.Legal.{MayRun}
use Rattle.machine_state.specs.Moves.{going_row, joined_row, done_row, faulted_row, ready_frame, result_by_kind}
use Rattle.machine_state.specs.Rows.{IsRow}
use Rattle.machine_state.specs.Runs.{IsReached}
use Rattle.machine_state.proofs.lists.Places.{got_one}
use Rattle.machine_state.proofs.segment_laws.Following.{makes_follow}
use Rattle.machine_state.proofs.standing.ReachedStands.{reached_stands}
use Rattle.machine_state.proofs.standing.Standing.{Stands}
use Rattle.determinism_laws.specs.Orders.{is_access_of, is_write_of}
use Rattle.determinism_laws.specs.numbering.Renumbering.{Numbering, frame_renumbered, stop_renumbered}
use Rattle.determinism_laws.proofs.SameValues.{after_alike, unwritten}
use Rattle.determinism_laws.specs.Independence.{KeepsNextSegment}
use Rattle.determinism_laws.proofs.KeptSegments.{conflict_at, keeps_next_segment}
use Rattle.determinism_laws.proofs.MovedRows.{RowsAfter, child_joined, made_after, marked, marked_other, own_after, rows_after}
use Rattle.determinism_laws.proofs.NearFaults.{ends_in_fault, reached_more}
use Rattle.determinism_laws.proofs.RenumberedRows.{MakesFirst, frame_fixed, made_after_renumbered, made_of_stop, own_renumbered, row_fixed, row_renumbered}
use Rattle.determinism_laws.proofs.RowNumbers.{child_below, joined_is_done, left_numbers, parent_below, row_numbers}
use Rattle.determinism_laws.proofs.SameMoves.{SameStates, WasRow, its_own, was_made, was_row, was_there}

-- Lists of cells.

same_list : (xs ys : List ℤ) → ((c : ℕ) → slice_get xs c ≡ slice_get ys c) → xs ≡ ys
same_list [] [] same = refl
same_list [] (y ∷ ys) same = let no = same 0 in absurd (cc (no))
same_list (x ∷ xs) [] same = let no = same 0 in absurd (cc (no))
same_list (x ∷ xs) (y ∷ ys) same =
    let head : Some x ≡ Some y = same 0 in
    let equal : x ≡ y = cc (head) in
    ap (λ (z : ℤ). z ∷ xs) equal ∙ ap (λ (l : List ℤ). y ∷ l) (same_list xs ys (λ c. same (suc c)))

write_is_access : (c : ℕ) (x : Access) → is_write_of c x ≡ true → is_access_of c x ≡ true
write_is_access c (Reads cell value) e = absurd (cc (e))
write_is_access c (Writes cell value) e = e
write_is_access c (Prints value) e = absurd (cc (e))

-- accesses that write no cell in common may be done in either order
orders_agree : (cells : List ℤ) (one two : List Access) → ((c : ℕ) → list_any (is_write_of c) one ≡ true → list_any (is_write_of c) two ≡ true → ⊥)
    → after (after cells one) two ≡ after (after cells two) one
orders_agree cells one two apart = same_list (after (after cells one) two) (after (after cells two) one) at
  where
    at : (c : ℕ) → slice_get (after (after cells one) two) c ≡ slice_get (after (after cells two) one) c
    at c = elim (cases_Bool (list_any (is_write_of c) two)) [
      | inr none ↦
          unwritten two (after cells one) c none
          ∙ sym (after_alike one (after cells two) cells c (unwritten two cells c none))
      | inl some ↦ elim (cases_Bool (list_any (is_write_of c) one)) [
        | inl both ↦ absurd (apart c both some)
        | inr none ↦
            after_alike two (after cells one) cells c (unwritten one cells c none)
            ∙ sym (unwritten one (after cells two) c none)
      ]
    ]

-- Marks.

marks_agree : (row : TaskRow) (a b : Bool) → (if a then joined_row (if b then joined_row row else row) else (if b then joined_row row else row))
    ≡ (if b then joined_row (if a then joined_row row else row) else (if a then joined_row row else row))
marks_agree row true true = refl
marks_agree row true false = refl
marks_agree row false true = refl
marks_agree row false false = refl

marked_twice : (one two : Option ℕ) (u : ℕ) (row : TaskRow) → marked one u (marked two u row) ≡ marked two u (marked one u row)
marked_twice None two u row = refl
marked_twice (Some c) None u row = refl
marked_twice (Some c) (Some d) u row = marks_agree row (c == u) (d == u)

mark_fixed : (to : Numbering) (row : TaskRow) (b : Bool) → row_renumbered to row ≡ row → row_renumbered to (if b then joined_row row else row) ≡ (if b then joined_row row else row)
mark_fixed to row true fixed = ap joined_row fixed
mark_fixed to row false fixed = fixed

marked_fixed : (to : Numbering) (child : Option ℕ) (u : ℕ) (row : TaskRow) → row_renumbered to row ≡ row → row_renumbered to (marked child u row) ≡ marked child u row
marked_fixed to None u row fixed = fixed
marked_fixed to (Some c) u row fixed = mark_fixed to row (c == u) fixed

-- the row of a task that ran, with other numbers: only the number of the task that it made may change
own_exchanged : (to : Numbering) (stop : Stop) (number new : ℕ) (row : TaskRow) (frame : Frame) → (asked_by stop ≡ 1 → to number ≡ new) → row_renumbered to row ≡ row → frame_renumbered to frame ≡ frame
    → row_renumbered to (own_after stop number row frame) ≡ own_after stop new row frame
own_exchanged to (stops.Make child args effects spawned future place) number new row frame is fixed same =
    sym (own_renumbered to (stops.Make child args effects spawned future place) number new row frame (is refl))
    ∙ (λ i. own_after (stops.Make child args effects spawned future place) new (fixed i) (same i))
own_exchanged to (stops.Waits on) number new row frame is fixed same = sym (own_renumbered to (stops.Waits on) number (to number) row frame refl) ∙ (λ i. going_row (fixed i) (same i))
own_exchanged to (stops.Joins on) number new row frame is fixed same = sym (own_renumbered to (stops.Joins on) number (to number) row frame refl) ∙ (λ i. going_row (fixed i) (same i))
own_exchanged to (stops.Done value) number new row frame is fixed same = sym (own_renumbered to (stops.Done value) number (to number) row frame refl) ∙ (λ i. done_row (fixed i) (same i) value)
own_exchanged to (stops.Fault kind place) number new row frame is fixed same = sym (own_renumbered to (stops.Fault kind place) number (to number) row frame refl) ∙ (λ i. faulted_row (fixed i) (same i))

-- The task numbers of the two orders: tasks that were there keep theirs, and the new ones have each the other's place.
pub record Swaps (to : Numbering) (n : ℕ) (first second : Stop) : Type 0 where
  pub fixed : (k : ℕ) → k < n → to k ≡ k
  pub of_first : asked_by first ≡ 1 → to n ≡ n + asked_by second
  pub of_second : asked_by second ≡ 1 → to (n + asked_by first) ≡ n

none_more : (n : ℕ) → n + 0 ≡ n
none_more n = omega arith

-- what is asked for by two segments fits in either order
fits_in_either_order : (lim : Bounds) (asked : ℕ) (first second : Stop) → ends_in_fault lim asked first ≡ false → ends_in_fault lim (asked + asked_by first) second ≡ false
    → ends_in_fault lim (asked + asked_by second) first ≡ false
fits_in_either_order lim asked (stops.Waits on) second one two = refl
fits_in_either_order lim asked (stops.Joins on) second one two = refl
fits_in_either_order lim asked (stops.Done value) second one two = refl
fits_in_either_order lim asked (stops.Fault kind place) second one two = one
fits_in_either_order lim asked (stops.Make child args effects spawned future place) (stops.Make child2 args2 effects2 spawned2 future2 place2) one two = two
fits_in_either_order lim asked (stops.Make child args effects spawned future place) (stops.Waits on) one two = ap (λ (n : ℕ). not (nat_lt (n + 1) lim.tasks)) (none_more asked) ∙ one
fits_in_either_order lim asked (stops.Make child args effects spawned future place) (stops.Joins on) one two = ap (λ (n : ℕ). not (nat_lt (n + 1) lim.tasks)) (none_more asked) ∙ one
fits_in_either_order lim asked (stops.Make child args effects spawned future place) (stops.Done value) one two = ap (λ (n : ℕ). not (nat_lt (n + 1) lim.tasks)) (none_more asked) ∙ one
fits_in_either_order lim asked (stops.Make child args effects spawned future place) (stops.Fault kind at) one two = absurd (cc (two))

-- a task that may run, with its row and with room for what it makes
pub record Ready (p : Program) (lim : Bounds) (st : State) (t : ℕ) : Type 0 where
  pub row : TaskRow
  pub here : IsRow st t row
  pub may : MayRun st t
  pub fits : ends_in_fault lim st.asked (next_segment p st row).stop ≡ false

abbrev pub after_run : Program → Bounds → State → ℕ → State
after_run p lim st t = (result_by_kind p lim st Run t).0

-- One of two tasks, and what its segment is before and after the move of the other.
module _ (p : Program) (wf : IsWellFormed p) (keeps : KeepsEffects p) (lim : Bounds) (st : State) (reached : IsReached p lim st) (s t : ℕ) (differ : s ≢ t) (of_s : Ready p lim st s) (of_t : Ready p lim st t) where
  stands : Stands p lim st
  stands = reached_stands p lim st wf reached

  abbrev left_s : Stopped
  left_s = next_segment p st of_s.row

  abbrev left_t : Stopped
  left_t = next_segment p st of_t.row

  abbrev after_s : State
  after_s = after_run p lim st s

  reached_s : IsReached p lim after_s
  reached_s = reached_more p wf keeps lim st (record { task = s; kind = Run }) reached of_s.may

  kept_t : KeepsNextSegment p st after_s t of_t.row
  kept_t = keeps_next_segment p wf keeps lim st reached t of_t.row (record { task = s; kind = Run }) differ of_t.here of_t.may of_s.may

  rows_s : RowsAfter lim st after_s s of_s.row left_s
  rows_s = rows_after p wf lim st reached s of_s.row of_s.here of_s.may of_s.fits

  -- the second task after the first, if it has room
  module _ (fits : ends_in_fault lim after_s.asked left_t.stop ≡ false) where
    abbrev left_later : Stopped
    left_later = record left_t { cells = after after_s.cells left_t.accesses }

    pub second_fits : ends_in_fault lim after_s.asked (next_segment p after_s of_t.row).stop ≡ false
    second_fits = ap (λ (x : Stopped). ends_in_fault lim after_s.asked x.stop) kept_t.same ∙ fits

    pub rows_st : RowsAfter lim after_s (after_run p lim after_s t) t of_t.row left_later
    rows_st = subst (RowsAfter lim after_s (after_run p lim after_s t) t of_t.row) kept_t.same (rows_after p wf lim after_s reached_s t of_t.row kept_t.there kept_t.may second_fits)

    pub cells_st : (after_run p lim after_s t).cells ≡ after (after st.cells left_s.accesses) left_t.accesses
    cells_st = rows_st.cells ∙ ap (λ (cells : List ℤ). after cells left_t.accesses) (rows_s.cells ∙ (segment_agrees p (ready_frame st.tasks of_s.row.frame) st.cells).cells_after)

  -- its frame and its row have no new numbers
  row_t_fixed : (to : Numbering) → ((k : ℕ) → k < length st.tasks → to k ≡ k) → row_renumbered to of_t.row ≡ of_t.row
  row_t_fixed to fixed =
      row_fixed to (length st.tasks) fixed of_t.row (row_numbers p lim st stands t of_t.row of_t.here) (parent_below p lim st stands t of_t.row of_t.here) (child_below p lim st stands t of_t.row of_t.here)

  frame_t_fixed : (to : Numbering) → ((k : ℕ) → k < length st.tasks → to k ≡ k) → frame_renumbered to left_t.frame ≡ left_t.frame
  frame_t_fixed to fixed = frame_fixed to (length st.tasks) fixed left_t.frame (left_numbers p lim st stands t of_t.row of_t.here of_t.may)

  -- a task that is not done is not joined by it
  not_joined : (u : ℕ) (r : TaskRow) → IsRow st u r → r.status ≡ Enabled → child_joined of_t.row ≢ Some u
  not_joined u r here enabled is =
      let done = joined_is_done p lim st stands t of_t.row of_t.here of_t.may u is in
      let same : r ≡ done.0 = got_one (slice_get st.tasks u) here done.1 in
      let both : Enabled ≡ Done = sym enabled ∙ (ap (λ (x : TaskRow). x.status) same ∙ done.2) in
      cc (both)

  not_new : (u : ℕ) → length st.tasks ≤ u → child_joined of_t.row ≢ Some u
  not_new u least is =
      let done = joined_is_done p lim st stands t of_t.row of_t.here of_t.may u is in
      let within = slice_get_within st.tasks u done.0 done.1 in
      omega (arith, least, within)

  makes_first : MakesFirst p left_t.stop
  makes_first child args effects spawned future place is =
      let made = makes_follow p (ready_frame st.tasks of_t.row.frame) st.cells [] child args effects spawned future place is in (made.task, made.child_is)

  enabled_t : of_t.row.status ≡ Enabled
  enabled_t = ap (λ (r : TaskRow). r.status) (got_one (slice_get st.tasks t) of_t.here of_t.may.0.1) ∙ of_t.may.0.2

-- The two orders.
module _ (p : Program) (wf : IsWellFormed p) (keeps : KeepsEffects p) (lim : Bounds) (st : State) (reached : IsReached p lim st) (s t : ℕ) (differ : s ≢ t) (of_s : Ready p lim st s) (of_t : Ready p lim st t)
    (fits : ends_in_fault lim (after_run p lim st s).asked (next_segment p st of_t.row).stop ≡ false) where
  abbrev n : ℕ
  n = length st.tasks

  abbrev one : Stopped
  one = next_segment p st of_s.row

  abbrev two : Stopped
  two = next_segment p st of_t.row

  abbrev st_one : State
  st_one = after_run p lim st s

  abbrev st_two : State
  st_two = after_run p lim st t

  abbrev one_two : State
  one_two = after_run p lim st_one t

  abbrev two_one : State
  two_one = after_run p lim st_two s

  back : t ≢ s
  back e = differ (sym e)

  rows_one : RowsAfter lim st st_one s of_s.row one
  rows_one = rows_s p wf keeps lim st reached s t differ of_s of_t

  rows_two : RowsAfter lim st st_two t of_t.row two
  rows_two = rows_s p wf keeps lim st reached t s back of_t of_s

  pub fits_back : ends_in_fault lim st_two.asked one.stop ≡ false
  fits_back =
      ap (λ (k : ℕ). ends_in_fault lim k one.stop) rows_two.asked
      ∙ fits_in_either_order lim st.asked one.stop two.stop of_s.fits (ap (λ (k : ℕ). ends_in_fault lim k two.stop) (sym rows_one.asked) ∙ fits)

  pub rows_one_two : RowsAfter lim st_one one_two t of_t.row (record two { cells = after st_one.cells two.accesses })
  rows_one_two = rows_st p wf keeps lim st reached s t differ of_s of_t fits

  rows_two_one : RowsAfter lim st_two two_one s of_s.row (record one { cells = after st_two.cells one.accesses })
  rows_two_one = rows_st p wf keeps lim st reached t s back of_t of_s fits_back

  within : (u : ℕ) (r : TaskRow) → IsRow st u r → u < n
  within u r here = slice_get_within st.tasks u r here

  -- the segments write no cell in common
  no_common : (c : ℕ) → list_any (is_write_of c) two.accesses ≡ true → list_any (is_write_of c) one.accesses ≡ true → ⊥
  no_common c in_two in_one =
      let x = list_any-in (is_write_of c) two.accesses in_two in
      let y = list_any-in (is_write_of c) one.accesses in_one in
      movers_apart p wf keeps lim st reached t s of_t.row of_s.row back of_t.here of_s.here of_t.may of_s.may st.cells st.cells x.0 y.0
      (in-contains two.accesses x.0 x.1) (in-contains one.accesses y.0 y.1) (conflict_at p c x.0 y.0 x.2 (write_is_access c y.0 y.2))

  same_cells : two_one.cells ≡ one_two.cells
  same_cells =
      cells_st p wf keeps lim st reached t s back of_t of_s fits_back
      ∙ (orders_agree st.cells two.accesses one.accesses no_common ∙ sym (cells_st p wf keeps lim st reached s t differ of_s of_t fits))

  pub count_is : length one_two.tasks ≡ n + asked_by one.stop + asked_by two.stop
  count_is = rows_one_two.count ∙ ap (λ (k : ℕ). k + asked_by two.stop) rows_one.count

  module _ (to : Numbering) (swaps : Swaps to n one.stop two.stop) where
    fixed_at : (u : ℕ) (r : TaskRow) → IsRow st u r → to u ≡ u
    fixed_at u r here = swaps.fixed u (within u r here)

    at_number : (u v : ℕ) (r : TaskRow) → to u ≡ v → IsRow two_one v r → IsRow two_one (to u) r
    at_number u v r is here = subst (λ (k : ℕ). IsRow two_one k r) (sym is) here

    -- the task that ran second in the one order and first in the other
    own_two : IsRow two_one t (row_renumbered to (own_after two.stop (length st_one.tasks) of_t.row two.frame))
    own_two =
        let was = own_after two.stop n of_t.row two.frame in
        let spared = marked_other (child_joined of_s.row) t was (not_joined p wf keeps lim st reached t s back of_t of_s t of_t.row of_t.here (enabled_t p wf keeps lim st reached s t differ of_s of_t)) in
        let same = own_exchanged to two.stop (length st_one.tasks) n of_t.row two.frame (λ asked. ap to rows_one.count ∙ swaps.of_second asked)
        (row_t_fixed p wf keeps lim st reached s t differ of_s of_t to swaps.fixed) (frame_t_fixed p wf keeps lim st reached s t differ of_s of_t to swaps.fixed) in
        rows_two_one.others t was back rows_two.own ∙ ap Some (spared ∙ sym same)

    -- the other one
    own_one : IsRow two_one s (row_renumbered to (own_after one.stop n of_s.row one.frame))
    own_one =
        let same = own_exchanged to one.stop n (length st_two.tasks) of_s.row one.frame (λ asked. swaps.of_first asked ∙ sym rows_two.count)
        (row_t_fixed p wf keeps lim st reached t s back of_t of_s to swaps.fixed) (frame_t_fixed p wf keeps lim st reached t s back of_t of_s to swaps.fixed) in
        rows_two_one.own ∙ ap Some (sym same)

    -- a task that was there, and runs in neither
    kept_row : (u : ℕ) (r : TaskRow) → u ≢ s → u ≢ t → IsRow st u r → IsRow two_one u (row_renumbered to (marked (child_joined of_t.row) u (marked (child_joined of_s.row) u r)))
    kept_row u r not_s not_t here =
        let fixed = row_fixed to n swaps.fixed r (row_numbers p lim st (reached_stands p lim st wf reached) u r here) (parent_below p lim st (reached_stands p lim st wf reached) u r here)
        (child_below p lim st (reached_stands p lim st wf reached) u r here) in
        let one_mark = marked (child_joined of_s.row) u r in
        let marks = marked_fixed to (child_joined of_t.row) u one_mark (marked_fixed to (child_joined of_s.row) u r fixed) in
        rows_two_one.others u (marked (child_joined of_t.row) u r) not_s (rows_two.others u r not_t here)
        ∙ ap Some (marked_twice (child_joined of_s.row) (child_joined of_t.row) u r ∙ sym marks)

    -- a task that the first made
    made_one : (r : TaskRow) → asked_by one.stop ≡ 1 → made_after lim s one.stop n ≡ Some r → IsRow two_one (to n) (row_renumbered to r)
    made_one r asked made =
        let number : to n ≡ length st_two.tasks = swaps.of_first asked ∙ sym rows_two.count in
        let renumbered = made_after_renumbered to p lim s n (length st_two.tasks) one.stop number (makes_first p wf keeps lim st reached t s back of_t of_s) r made in
        let with_stop = ap (λ (k : ℕ). made_after lim k (stop_renumbered to one.stop) (length st_two.tasks)) (fixed_at s of_s.row of_s.here) in
        at_number n (length st_two.tasks) (row_renumbered to r) number
        (rows_two_one.made (row_renumbered to r) (sym (made_of_stop to lim s one.stop (length st_two.tasks)) ∙ (sym with_stop ∙ renumbered)))

    -- a task that the second made
    made_two : (r : TaskRow) → asked_by two.stop ≡ 1 → made_after lim t two.stop (length st_one.tasks) ≡ Some r → IsRow two_one (to (length st_one.tasks)) (row_renumbered to r)
    made_two r asked made =
        let number : to (length st_one.tasks) ≡ n = ap to rows_one.count ∙ swaps.of_second asked in
        let renumbered = made_after_renumbered to p lim t (length st_one.tasks) n two.stop number (makes_first p wf keeps lim st reached s t differ of_s of_t) r made in
        let with_stop = ap (λ (k : ℕ). made_after lim k (stop_renumbered to two.stop) n) (fixed_at t of_t.row of_t.here) in
        let there = rows_two.made (row_renumbered to r) (sym (made_of_stop to lim t two.stop n) ∙ (sym with_stop ∙ renumbered)) in
        let apart : n ≢ s = λ is. let below = within s of_s.row of_s.here in omega (arith, is, below) in
        let spared = marked_other (child_joined of_s.row) n (row_renumbered to r) (not_new p wf keeps lim st reached t s back of_t of_s n (omega arith)) in
        at_number (length st_one.tasks) n (row_renumbered to r) number (rows_two_one.others n (row_renumbered to r) apart there ∙ ap Some spared)

    -- a task that was there after the first
    other_row : (u : ℕ) (old r : TaskRow) → u ≢ t → r ≡ marked (child_joined of_t.row) u old → WasRow lim st s of_s.row one u old → IsRow two_one (to u) (row_renumbered to r)
    other_row u old r not_t is (its_own is_s row_is) =
        let enabled_s = enabled_t p wf keeps lim st reached t s back of_t of_s in
        let spared : r ≡ old = is ∙ (ap (λ (k : ℕ). marked (child_joined of_t.row) k old) is_s
        ∙ marked_other (child_joined of_t.row) s old (not_joined p wf keeps lim st reached s t differ of_s of_t s of_s.row of_s.here enabled_s)) in
        at_number u s (row_renumbered to r) (ap to is_s ∙ fixed_at s of_s.row of_s.here) (own_one ∙ ap Some (ap (row_renumbered to) (sym row_is ∙ sym spared)))
    other_row u old r not_t is (was_there first not_s here marks) =
        at_number u u (row_renumbered to r) (fixed_at u first here)
        (kept_row u first not_s not_t here ∙ ap Some (ap (row_renumbered to) (ap (marked (child_joined of_t.row) u) (sym marks) ∙ sym is)))
    other_row u old r not_t is (was_made is_new asked made) =
        let spared : r ≡ old = is ∙ (ap (λ (k : ℕ). marked (child_joined of_t.row) k old) is_new
        ∙ marked_other (child_joined of_t.row) n old (not_new p wf keeps lim st reached s t differ of_s of_t n (omega arith))) in
        subst (λ (k : ℕ). IsRow two_one (to k) (row_renumbered to r)) (sym is_new) (made_one old asked made ∙ ap Some (ap (row_renumbered to) (sym spared)))

    row_exchanged : (u : ℕ) (r : TaskRow) → WasRow lim st_one t of_t.row (record two { cells = after st_one.cells two.accesses }) u r → IsRow two_one (to u) (row_renumbered to r)
    row_exchanged u r (its_own is row_is) =
        at_number u t (row_renumbered to r) (ap to is ∙ fixed_at t of_t.row of_t.here) (own_two ∙ ap Some (ap (row_renumbered to) (sym row_is)))
    row_exchanged u r (was_there old not_t here is) = other_row u old r not_t is (was_row lim st st_one s of_s.row one rows_one u old here)
    row_exchanged u r (was_made is asked made) = subst (λ (k : ℕ). IsRow two_one (to k) (row_renumbered to r)) (sym is) (made_two r asked made)

    pub orders_lead_alike : SameStates to one_two two_one
    orders_lead_alike = record {
      rows = λ u r here. row_exchanged u r (was_row lim st_one one_two t of_t.row (record two { cells = after st_one.cells two.accesses }) rows_one_two u r here);
      count = let a = rows_one.count in let b = rows_two.count in let c = rows_one_two.count in let d = rows_two_one.count in omega (arith, a, b, c, d);
      cells = same_cells;
      asked = let a = rows_one.asked in let b = rows_two.asked in let c = rows_one_two.asked in let d = rows_two_one.asked in omega (arith, a, b, c, d);
    }
