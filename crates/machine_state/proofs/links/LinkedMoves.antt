-- Each legal move keeps the links those that the rows say.
use Rattle.std.proofs.Common.{◌≡◌, ◌+◌, ◌<◌, ◌≤◌, ℕ, ℤ, Bool, true, false, cond, List, [], ◌∷◌, ◌++◌, length, map, Option, None, Some, inl, inr, refl, sym, ap, ◌∙◌, subst, arith, length-set, length-append, ltb-true, nat_lt}
use Rattle.std.specs.Prelude.{slice_get, slice_set}
use Rattle.std.proofs.lemmas.Bool.{ltb-false}
use Rattle.std.proofs.lemmas.List.{map-append}
use Rattle.std.proofs.lemmas.Option.{slice_get_within}
use Rattle.twe_base.specs.declared.place.Place.{Place}
use Rattle.effect_sets.specs.declared.effects.Summary.{Summary}
use Rattle.seg_journal.specs.declared.journal.End.{End}
use Rattle.seg_journal.specs.declared.journal.End.TheVariants as ends
use Rattle.twe_base.specs.declared.fault.FaultKind.TheVariants.{TaskLimit}
use Rattle.twe_base.specs.Limits.{Bounds}
use Rattle.wait_graph.specs.declared.tasks.Link.{Link}
use Rattle.wait_graph.specs.Link.{new_link, with_wait, with_done}
use Rattle.seg_meaning.specs.declared.frame.Frame.{Frame}
use Rattle.seg_meaning.specs.declared.frame.Next.TheVariants.{Go}
use Rattle.seg_meaning.specs.declared.stop.Stop.{Stop}
use Rattle.seg_meaning.specs.declared.stop.Stop.TheVariants as stops
use Rattle.machine_state.specs.declared.state.State.{State}
use Rattle.machine_state.specs.declared.state.TaskRow.{TaskRow}
use Rattle.machine_state.specs.declared.state.TaskStatus.TheVariants.{Enabled}
use Rattle.machine_state.specs.Moves.{state_after_storing, going_row, done_row, faulted_row, state_after_fault, state_after_finish, state_after_asking, making_frame, out_with, new_row, parent_of, state_after_make, stop_result, stopped_frame}
use Rattle.machine_state.specs.Rows.{row_awaited, is_done_row, is_done_status, link_of_row}
use Rattle.machine_state.proofs.links.Linked.{OutUp, Linked, waiting_links, done_links, set_twice}
use Rattle.machine_state.proofs.lists.Members.{IsIn, put_in_cases}
use Rattle.machine_state.proofs.lists.Places.{set_same, set_cases, put_cases}

-- A frame is stored.

pub set_outs : (rows : List TaskRow) (t : ℕ) (new : TaskRow) → ((u : ℕ) (row : TaskRow) → slice_get rows u ≡ Some row → OutUp u row) → OutUp t new
    → (u : ℕ) (row : TaskRow) → slice_get (slice_set rows t new) u ≡ Some row → OutUp u row
set_outs rows t new outs up u row here =
    elim (set_cases rows t u new row here) [
      | inl own ↦ subst (λ (n : ℕ). OutUp n row) (sym own.0) (subst (OutUp t) own.1 up)
      | inr other ↦ outs u row other.1
    ]

-- the row has the links of another of the task, but for what it waits for
abbrev WaitsNow : TaskRow → TaskRow → Frame → Type 0
WaitsNow row new frame = link_of_row new ≡ record (link_of_row row) { waits = row_awaited frame.next }

module _ (lim : Bounds) (t : ℕ) (row : TaskRow) (frame : Frame) (enabled : row.status ≡ Enabled) where
  not_done : is_done_row row ≡ false
  not_done = ap is_done_status enabled

  going_waits : WaitsNow row (going_row row frame) frame
  going_waits = refl

  faulted_waits : WaitsNow row (faulted_row row frame) frame
  faulted_waits = λ i. record { waits = row_awaited frame.next; parent = row.parent; joined = row.joined; done = sym not_done i }

  home_linked : (st : State) (new : TaskRow) → slice_get st.tasks t ≡ Some row → WaitsNow row new frame → OutUp t new → Linked lim st → Linked lim (state_after_storing st t frame new)
  home_linked st new found waits up linked = record {
    links = ap (λ (l : List Link). with_wait l t (row_awaited frame.next)) linked.links ∙ waiting_links st.tasks t row new (row_awaited frame.next) found waits;
    number = λ few. linked.number few ∙ sym (length-set st.tasks t new);
    outs = set_outs st.tasks t new linked.outs up;
  }

  finished_linked : (st : State) (value : ℤ) → slice_get st.tasks t ≡ Some row → OutUp t (done_row row frame value) → Linked lim st → Linked lim (state_after_finish st t row frame value)
  finished_linked st value found up linked =
      let going = going_row row frame in
      let new = done_row row frame value in
      let wait : with_wait st.links t (row_awaited frame.next) ≡ map link_of_row (slice_set st.tasks t going)
      = ap (λ (l : List Link). with_wait l t (row_awaited frame.next)) linked.links ∙ waiting_links st.tasks t row going (row_awaited frame.next) found refl in
      record {
        links = ap (λ (l : List Link). with_done l t) wait
            ∙ (done_links (slice_set st.tasks t going) t going new (set_same st.tasks t row going found) refl ∙ ap (λ (rows : List TaskRow). map link_of_row rows) (set_twice st.tasks t going new));
        number = λ few. linked.number few ∙ sym (length-set st.tasks t new);
        outs = set_outs st.tasks t new linked.outs up;
      }

new_link_of : (lim : Bounds) (number : ℕ) (parent : Option ℕ) (child : Frame) (args : List ℤ) (effects : Summary) → child.next ≡ Go
    → new_link parent ≡ link_of_row (new_row lim number parent child args effects)
new_link_of lim number None child args effects go = λ i. record { waits = ap row_awaited (sym go) i; parent = None; joined = false; done = false }
new_link_of lim number (Some q) child args effects go = λ i. record { waits = ap row_awaited (sym go) i; parent = Some q; joined = false; done = false }

-- A task is made.

put_outs : (rows : List TaskRow) (new : TaskRow) → ((u : ℕ) (row : TaskRow) → slice_get rows u ≡ Some row → OutUp u row) → OutUp (length rows) new
    → (u : ℕ) (row : TaskRow) → slice_get (rows ++ new ∷ []) u ≡ Some row → OutUp u row
put_outs rows new outs up u row here =
    elim (put_cases rows new u row here) [
      | inl before ↦ outs u row before
      | inr last ↦ subst (λ (n : ℕ). OutUp n row) (sym last.0) (subst (OutUp (length rows)) last.1 up)
    ]

out_with_up : (t number : ℕ) (spawned : Bool) (out : List ℕ) → t < number → ((c : ℕ) → IsIn c out → t < c) → (c : ℕ) → IsIn c (out_with spawned number out) → t < c
out_with_up t number false out above up c h = up c h
out_with_up t number true out above up c h =
    elim (put_in_cases out number c h) [ inl before ↦ up c before | inr last ↦ subst (λ (n : ℕ). t < n) (sym last) above ]

-- a task that is made has not begun
abbrev pub StopFresh : Stop → Type 0
StopFresh (stops.Make child args effects spawned future place) = (child.next ≡ Go) × (child.out.items ≡ [])
StopFresh _ = Unit {0}

module _ (lim : Bounds) (t : ℕ) (row : TaskRow) (frame : Frame) (enabled : row.status ≡ Enabled) (ups : (c : ℕ) → IsIn c frame.out.items → t < c) where
  made_linked : (st : State) (future : ℕ) (spawned : Bool) (child : Frame) (args : List ℤ) (effects : Summary) → slice_get st.tasks t ≡ Some row
      → child.next ≡ Go → child.out.items ≡ [] → st.asked + 1 < lim.tasks → Linked lim st → Linked lim (state_after_make lim st t row frame future spawned child args effects)
  made_linked st future spawned child args effects found go none few linked =
      let number = st.asked + 1 in
      let parent = parent_of t spawned in
      let maker = making_frame future spawned number frame in
      let going = going_row row maker in
      let new = new_row lim number parent child args effects in
      let rows = slice_set st.tasks t going in
      let is : number ≡ length st.tasks = linked.number few in
      let as_many : length rows ≡ length st.tasks = length-set st.tasks t going in
      let above : t < number = omega (arith, is, slice_get_within st.tasks t row found) in
      let wait : with_wait st.links t (row_awaited frame.next) ≡ map link_of_row rows
      = ap (λ (l : List Link). with_wait l t (row_awaited frame.next)) linked.links ∙ waiting_links st.tasks t row going (row_awaited frame.next) found refl in
      record {
        links = (λ i. wait i ++ new_link_of lim number parent child args effects go i ∷ []) ∙ sym (map-append link_of_row rows (new ∷ []));
        number = λ more. omega (arith, is, as_many, length-append rows (new ∷ []));
        outs = put_outs rows new (set_outs st.tasks t going linked.outs (record { same = refl; up = out_with_up t number spawned frame.out.items above ups }))
            (record { same = sym none; up = λ c h. absurd h });
      }

  stopped_linked_make : (b : Bool) (st : State) (child : Frame) (args : List ℤ) (effects : Summary) (spawned : Bool) (future : ℕ) (place : Place)
      → nat_lt (st.asked + 1) lim.tasks ≡ b → slice_get st.tasks t ≡ Some row → child.next ≡ Go → child.out.items ≡ [] → Linked lim st
      → Linked lim (cond {A = State × End} b (state_after_make lim st t row frame future spawned child args effects, ends.Made (st.asked + 1))
      (state_after_fault (state_after_asking st) t row (stopped_frame frame) TaskLimit place, ends.Fault TaskLimit place)).0
  stopped_linked_make true st child args effects spawned future place is found go none linked =
      made_linked st future spawned child args effects found go none (ltb-true (st.asked + 1) lim.tasks is) linked
  stopped_linked_make false st child args effects spawned future place is found go none linked =
      let past : lim.tasks ≤ st.asked + 1 = ltb-false (st.asked + 1) lim.tasks is in
      let asked : Linked lim (state_after_asking st) = record { links = linked.links; number = λ more. absurd (omega (arith, past, more)); outs = linked.outs } in
      let stored = home_linked lim t row (stopped_frame frame) enabled (state_after_asking st) (faulted_row row (stopped_frame frame)) found
      (faulted_waits lim t row (stopped_frame frame) enabled) (record { same = refl; up = ups }) asked in
      record { links = stored.links; number = stored.number; outs = stored.outs }

  pub stopped_linked : (st : State) (stop : Stop) → slice_get st.tasks t ≡ Some row → StopFresh stop → Linked lim st → Linked lim (stop_result lim st t row frame stop).0
  stopped_linked st (stops.Make child args effects spawned future place) found fresh linked =
      stopped_linked_make (nat_lt (st.asked + 1) lim.tasks) st child args effects spawned future place refl found fresh.0 fresh.1 linked
  stopped_linked st (stops.Waits on) found fresh linked = home_linked lim t row frame enabled st (going_row row frame) found refl (record { same = refl; up = ups }) linked
  stopped_linked st (stops.Joins on) found fresh linked = home_linked lim t row frame enabled st (going_row row frame) found refl (record { same = refl; up = ups }) linked
  stopped_linked st (stops.Done value) found fresh linked = finished_linked lim t row frame enabled st value found (record { same = refl; up = ups }) linked
  stopped_linked st (stops.Fault kind place) found fresh linked =
      let stored = home_linked lim t row frame enabled st (faulted_row row frame) found (faulted_waits lim t row frame enabled) (record { same = refl; up = ups }) linked in
      record { links = stored.links; number = stored.number; outs = stored.outs }
