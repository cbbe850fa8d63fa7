-- The numbers in a row of a reached state, and in the frame that its next segment leaves, are those of tasks that are there.
use Rattle.std.proofs.Common.{◌≡◌, ◌<◌, ℕ, Bool, true, false, List, length, Option, None, Some, inl, inr, refl, sym, ap, ◌∙◌, subst, arith}
use Rattle.std.specs.Prelude.{◌==◌, Contains, if◌then◌else◌, slice_get}
use Rattle.std.specs.List.{list_any}
use Rattle.std.proofs.lemmas.Bool.{cases_Bool}
use Rattle.std.proofs.lemmas.Option.{slice_get_read, slice_get_within}
use Rattle.twe_base.specs.Limits.{Bounds}
use Rattle.wait_graph.specs.declared.tasks.Link.{Link}
use Rattle.wait_graph.specs.Link.{link_of}
use Rattle.twe_program.specs.Program.{Program}
use Rattle.seg_meaning.specs.declared.frame.Frame.{Frame}
use Rattle.seg_meaning.specs.declared.frame.Next.{Next}
use Rattle.seg_meaning.specs.declared.frame.Next.TheVariants.{Go, Get, Join, Closing, Ended}
use Rattle.isolation_laws.proofs.rows.LinksOfRows.{done_row, link_there}
use Rattle.machine_state.specs.declared.state.State.{State}
use Rattle.machine_state.specs.declared.state.TaskRow.{TaskRow}
use Rattle.machine_state.specs.declared.state.TaskStatus.TheVariants.{Done}
use Rattle.machine_state.specs.Changes.{next_segment}
use Rattle.machine_state.specs.Legal.{MayRun}
use Rattle.machine_state.specs.Moves.{joined_child}
use Rattle.machine_state.specs.Rows.{HasStatus, IsRow, row_awaited}
use Rattle.machine_state.proofs.lists.Members.{contains_in}
use Rattle.machine_state.proofs.standing.Halfway.{halfway, left_stands}
use Rattle.machine_state.proofs.standing.Standing.{FrameStands, Stands}
use Rattle.machine_state.proofs.weight.JoinedWeight.{length_joined}
use Rattle.determinism_laws.proofs.MovedRows.{child_joined}
use Rattle.determinism_laws.proofs.RenumberedRows.{NumbersBelow}

module _ (p : Program) (lim : Bounds) (rows : List TaskRow) (t : ℕ) (frame : Frame) (stands : FrameStands p lim rows t frame) where
  awaited_below : (next : Next) (on : ℕ) → frame.next ≡ next → row_awaited next ≡ Some on → on < length rows
  awaited_below Go on is some = absurd (cc (some))
  awaited_below Ended on is some = absurd (cc (some))
  awaited_below (Get other into) on is some = let same : other ≡ on = cc (some) in subst (λ (n : ℕ). n < length rows) same (stands.getting other into is).below
  awaited_below (Join other into) on is some = let same : other ≡ on = cc (some) in subst (λ (n : ℕ). n < length rows) same (stands.joining other into is).below
  awaited_below (Closing other) on is some = let same : other ≡ on = cc (some) in subst (λ (n : ℕ). n < length rows) same (stands.awaited_child other is).below

  frame_numbers : t < length rows → ((c : ℕ) → Contains frame.out.items c → c < length rows) → NumbersBelow (length rows) frame
  frame_numbers within out = record {
    task = subst (λ (n : ℕ). n < length rows) (sym stands.number) within;
    futures = λ child there.
        let found : slice_get frame.futures there.0 ≡ Some (Some child) = slice_get_read frame.futures (length frame.futures) there.0 (Some child) refl there.1 (sym there.2) in
        (stands.futures there.0 child found).made.below;
    out = out;
    next = λ on some. awaited_below frame.next on refl some;
  }

module _ (p : Program) (lim : Bounds) (st : State) (stands : Stands p lim st) (t : ℕ) (row : TaskRow) (here : IsRow st t row) where
  pub child_below : (c : ℕ) → Contains row.out c → c < length st.tasks
  child_below c there = let child = (stands.children t row here c).0 there in slice_get_within st.tasks c child.row child.there

  within : t < length st.tasks
  within = slice_get_within st.tasks t row here

  pub parent_below : (q : ℕ) → row.parent ≡ Some q → q < length st.tasks
  parent_below q is = let lower : q < t = (stands.rows t row here).parent q is in omega (arith, lower, within)

  pub row_numbers : NumbersBelow (length st.tasks) row.frame
  row_numbers =
      let own = stands.rows t row here in
      frame_numbers p lim st.tasks t row.frame own.frame within (λ c there. child_below c (subst (λ (out : List ℕ). Contains out c) (sym own.out) there))

  module _ (may : MayRun st t) where
    pub left_numbers : NumbersBelow (length st.tasks) (next_segment p st row).frame
    left_numbers =
        let left = next_segment p st row in
        let child = joined_child row.out (link_of st.links t).waits in
        let own = (halfway p lim st stands t row here may.1).almost.own_children in
        frame_numbers p lim st.tasks t left.frame (left_stands p lim st stands t row here) within (λ c there.
        let is = (own c).0 (contains_in left.frame.out.items c there) in
        let inside = slice_get_within _ c is.row is.there in
        let long = length_joined (record st { cells = left.cells }) child in
        omega (arith, inside, long))

    -- the child whose join the task takes is done
    waited : (c : ℕ) → child_joined row ≡ Some c → row_awaited row.frame.next ≡ Some c
    waited c is = by_awaited (row_awaited row.frame.next) is
      where
        by_test : (on : ℕ) (b : Bool) → (if b then Some on else None) ≡ Some c → Some on ≡ Some c
        by_test on true some = some
        by_test on false some = absurd (cc (some))

        by_awaited : (o : Option ℕ) → joined_child row.out o ≡ Some c → o ≡ Some c
        by_awaited None some = absurd (cc (some))
        by_awaited (Some on) some = by_test on (list_any (λ child. child == on) row.out) some

    pub joined_is_done : (c : ℕ) → child_joined row ≡ Some c → HasStatus st c Done
    joined_is_done c is = elim (cases_Bool (link_of st.links c).done) [
      | inl done ↦ done_row st stands.links c done
      | inr undone ↦
          absurd (may.1 c (record { waits = ap (λ (l : Link). l.waits) (link_there st stands.links t row here) ∙ waited c is; undone = undone }))
    ]
