-- All entries of a legal journal together weigh as much as their number and the fuel that its tasks have taken, so no more than
-- their number and the fuel of all tasks that may be made.
use Rattle.std.proofs.Common.{◌≡◌, ◌<◌, ◌≤◌, ◌+◌, ◌-◌, ◌*◌, ◌^◌, ℕ, ℤ, zero, suc, Bool, true, false, List, [], ◌∷◌, ◌++◌, length, Option, None, Some, refl, ap, ◌∙◌, arith, length-append, length-set, nat_lt}
use Rattle.std.specs.Prelude.{slice_get, slice_set, sum_by, if◌then◌else◌}
use Rattle.std.proofs.Math.Nat.{mul-le-mul_left}
use Rattle.std.proofs.lemmas.Bool.{ltb-true}
use Rattle.std.proofs.lemmas.List.Sums.{sum_by-cons}
use Rattle.twe_base.specs.declared.place.Place.{Place}
use Rattle.effect_sets.specs.declared.effects.Summary.{Summary}
use Rattle.seg_journal.specs.declared.journal.End.{End}
use Rattle.seg_journal.specs.declared.journal.End.TheVariants as ends
use Rattle.seg_journal.specs.declared.journal.Entry.{Entry}
use Rattle.seg_journal.specs.declared.moves.Kind.{Kind}
use Rattle.seg_journal.specs.declared.moves.Kind.TheVariants.{Admit, Run}
use Rattle.twe_base.specs.declared.fault.FaultKind.TheVariants.{TaskLimit}
use Rattle.twe_base.specs.Limits.{Bounds, IsWithin}
use Rattle.twe_program.specs.Program.{Program}
use Rattle.twe_program.specs.WellFormed.{IsWellFormed}
use Rattle.wait_graph.specs.Link.{link_of}
use Rattle.seg_meaning.specs.declared.frame.Frame.{Frame}
use Rattle.seg_meaning.specs.declared.frame.Next.{Next}
use Rattle.seg_meaning.specs.declared.frame.Next.TheVariants.{Go, Get, Join, Closing, Ended}
use Rattle.seg_meaning.specs.declared.stop.Stop.{Stop}
use Rattle.seg_meaning.specs.declared.stop.Stop.TheVariants as stops
use Rattle.seg_meaning.specs.Giving.{given_by}
use Rattle.seg_meaning.specs.Segment.{segment}
use Rattle.machine_state.proofs.segment_laws.SegmentKept.{segment_keeps}
use Rattle.machine_state.specs.declared.state.State.{State}
use Rattle.machine_state.specs.declared.state.TaskRow.{TaskRow}
use Rattle.machine_state.specs.Legal.{MayTake}
use Rattle.machine_state.specs.Moves.{admitted_row, awaited_value, done_row, faulted_row, going_row, joined_child, joined_row, joined_rows, making_frame, new_row, parent_of, ready_frame, result_by_kind, start_of, state_after_asking, state_after_fault, state_after_join, state_after_make, stop_result, stopped_frame}
use Rattle.machine_state.specs.Rows.{row_awaited}
use Rattle.machine_state.specs.Runs.{Legal, LegalFrom, replayed}
use Rattle.machine_state.proofs.counts.AllJournals.{journal_length}
use Rattle.machine_state.proofs.weight.JoinedWeight.{asked_joined, length_joined}
use Rattle.machine_state.proofs.standing.ReachedStands.{start_stands, taken_stands}
use Rattle.machine_state.proofs.lists.RowNumbers.{joined_there}
use Rattle.machine_state.proofs.standing.Standing.{Stands}
use Rattle.span_profile.specs.Strands.{strand_by_kind, strand_of, strands, strands_from, weight_of}

-- the fuel that a task has left, that of all tasks, and that of those that may still be made
abbrev fuel_of : TaskRow → ℕ
fuel_of row = row.frame.fuel

abbrev pub rows_fuel : List TaskRow → ℕ
rows_fuel [] = 0
rows_fuel (row ∷ rows) = fuel_of row + rows_fuel rows

abbrev pub room_fuel : Bounds → ℕ → ℕ
room_fuel lim room = room * lim.fuel

abbrev pub fuel_left : Bounds → State → ℕ
fuel_left lim st = rows_fuel st.tasks + room_fuel lim (lim.tasks - length st.tasks)

set_fuel : (rows : List TaskRow) (t : ℕ) (row new : TaskRow) → slice_get rows t ≡ Some row → rows_fuel (slice_set rows t new) + fuel_of row ≡ rows_fuel rows + fuel_of new
set_fuel [] t row new found = absurd (cc)
set_fuel (r ∷ rows) zero row new found =
    let same : r ≡ row = cc in
    let e = ap (λ (x : TaskRow). fuel_of x) same in
    omega (arith, e)
set_fuel (r ∷ rows) (suc t) row new found = let others = set_fuel rows t row new found in omega (arith, others)

added_fuel : (rows : List TaskRow) (new : TaskRow) → rows_fuel (rows ++ new ∷ []) ≡ rows_fuel rows + fuel_of new
added_fuel [] new = omega arith
added_fuel (r ∷ rows) new = let others = added_fuel rows new in omega (arith, others)

less_room : (lim : Bounds) (room : ℕ) → 0 < room → room_fuel lim room ≡ room_fuel lim (room - 1) + lim.fuel
less_room lim zero some = absurd (omega arith)
less_room lim (suc room) some = let e : suc room - 1 ≡ room = omega arith in rw e (omega arith)

-- the join of a child takes no fuel
after_join : (rows : List TaskRow) (c t : ℕ) (child : Option TaskRow) (row new : TaskRow) → slice_get rows c ≡ child → slice_get rows t ≡ Some row
    → rows_fuel (slice_set (joined_rows rows c child) t new) + fuel_of row ≡ rows_fuel rows + fuel_of new
after_join rows c t None row new there found = set_fuel rows t row new found
after_join rows c t (Some r) row new there found =
    let x = joined_there fuel_of (λ (x : TaskRow). refl) rows c t (Some r) row there found in
    let first = set_fuel rows c r (joined_row r) there in
    let second = set_fuel (slice_set rows c (joined_row r)) t x.0 new x.1 in
    let same = x.2 in
    omega (arith, first, second, same)

joined_fuel : (st : State) (child : Option ℕ) (t : ℕ) (row new : TaskRow) → slice_get st.tasks t ≡ Some row
    → rows_fuel (slice_set (state_after_join st child).tasks t new) + fuel_of row ≡ rows_fuel st.tasks + fuel_of new
joined_fuel st None t row new found = set_fuel st.tasks t row new found
joined_fuel st (Some c) t row new found = after_join st.tasks c t (slice_get st.tasks c) row new refl found

module _ (lim : Bounds) (st : State) (t : ℕ) (row : TaskRow) (found : slice_get st.tasks t ≡ Some row) (child : Option ℕ) (frame : Frame) where
  -- the row of the task with what is left of its fuel
  placed : (new : TaskRow) → fuel_of new ≡ frame.fuel
      → rows_fuel (slice_set (state_after_join st child).tasks t new) + room_fuel lim (lim.tasks - length (slice_set (state_after_join st child).tasks t new)) + fuel_of row ≡ fuel_left lim st + frame.fuel
  placed new is =
      let sum = joined_fuel st child t row new found in
      let count : length (slice_set (state_after_join st child).tasks t new) ≡ length st.tasks = length-set (state_after_join st child).tasks t new ∙ length_joined st child in
      rw count (omega (arith, sum, is))

  grown : (new other : TaskRow) → fuel_of new ≡ frame.fuel → fuel_of other ≡ lim.fuel → length st.tasks < lim.tasks
      → rows_fuel (slice_set (state_after_join st child).tasks t new ++ other ∷ []) + room_fuel lim (lim.tasks - length (slice_set (state_after_join st child).tasks t new ++ other ∷ [])) + fuel_of row
      ≡ fuel_left lim st + frame.fuel
  grown new other is full room =
      let rows = slice_set (state_after_join st child).tasks t new in
      let sum = joined_fuel st child t row new found in
      let more = added_fuel rows other in
      let count : length (rows ++ other ∷ []) ≡ length st.tasks + 1 =
      length-append rows (other ∷ []) ∙ ap (λ (n : ℕ). n + 1) (length-set (state_after_join st child).tasks t new ∙ length_joined st child) in
      let one : lim.tasks - length (rows ++ other ∷ []) ≡ lim.tasks - length st.tasks - 1 = omega (arith, count) in
      let kept = less_room lim (lim.tasks - length st.tasks) (omega arith) in
      rw one (omega (arith, sum, more, kept, is, full))

  made_fuel : (into : ℕ) (spawned : Bool) (task : Frame) (args : List ℤ) (effects : Summary) (place : Place) (fits : Bool)
      → (st.asked + 1 < lim.tasks → st.asked + 1 ≡ length st.tasks) → nat_lt ((state_after_join st child).asked + 1) lim.tasks ≡ fits
      → fuel_left lim (if◌then◌else◌ {A = State × End} fits (state_after_make lim (state_after_join st child) t row frame into spawned task args effects, ends.Made ((state_after_join st child).asked + 1))
      (state_after_fault (state_after_asking (state_after_join st child)) t row (stopped_frame frame) TaskLimit place, ends.Fault TaskLimit place)).0 + fuel_of row ≡ fuel_left lim st + frame.fuel
  made_fuel into spawned task args effects place true counts e =
      let number = (state_after_join st child).asked + 1 in
      let below : number < lim.tasks = ltb-true number lim.tasks e in
      let asked = asked_joined st child in
      let room : length st.tasks < lim.tasks = let is = counts (omega (arith, below, asked)) in omega (arith, is, below, asked) in
      grown (going_row row (making_frame into spawned number frame)) (new_row lim number (parent_of t spawned) task args effects) refl refl room
  made_fuel into spawned task args effects place false counts e = placed (faulted_row row (stopped_frame frame)) refl

  stopped_fuel : (stop : Stop) → (st.asked + 1 < lim.tasks → st.asked + 1 ≡ length st.tasks)
      → fuel_left lim (stop_result lim (state_after_join st child) t row frame stop).0 + fuel_of row ≡ fuel_left lim st + frame.fuel
  stopped_fuel (stops.Make task args effects spawned into place) counts = made_fuel into spawned task args effects place _ counts refl
  stopped_fuel (stops.Waits on) counts = placed (going_row row frame) refl
  stopped_fuel (stops.Joins on) counts = placed (going_row row frame) refl
  stopped_fuel (stops.Done value) counts = placed (done_row row frame value) refl
  stopped_fuel (stops.Fault kind place) counts = placed (faulted_row row frame) refl

-- a frame that takes a value keeps its fuel
given_fuel_by : (next : Next) (frame : Frame) (value : ℤ) → (given_by next frame value).fuel ≡ frame.fuel
given_fuel_by Go frame value = refl
given_fuel_by (Get on into) frame value = refl
given_fuel_by (Join on into) frame value = refl
given_fuel_by (Closing on) frame value = refl
given_fuel_by Ended frame value = refl

pub ready_fuel : (rows : List TaskRow) (frame : Frame) → (ready_frame rows frame).fuel ≡ frame.fuel
ready_fuel rows frame = given_fuel_by frame.next frame (awaited_value rows (row_awaited frame.next))

module _ (p : Program) (lim : Bounds) where
  -- an entry weighs 1 more than the fuel that it takes
  taken_fuel : (st : State) (kind : Kind) (t : ℕ) (end : End) → MayTake st kind t → (st.asked + 1 < lim.tasks → st.asked + 1 ≡ length st.tasks)
      → fuel_left lim (result_by_kind p lim st kind t).0 + (strand_by_kind p st kind t (slice_get st.tasks t) end).weight ≡ fuel_left lim st + 1
  taken_fuel st Admit t end may counts =
      let row = may.0.0 in
      let sum = set_fuel st.tasks t row (admitted_row row) may.0.1 in
      let count : length (slice_set st.tasks t (admitted_row row)) ≡ length st.tasks = length-set st.tasks t (admitted_row row) in
      rw may.0.1 (rw count (omega (arith, sum)))
  taken_fuel st Run t end may counts =
      let row = may.0.0 in
      let before = ready_frame st.tasks row.frame in
      let after = segment p before st.cells in
      let kept = (segment_keeps p before st.cells).fuel in
      let ready = ready_fuel st.tasks row.frame in
      let later : State = record st { cells = after.cells } in
      let sum = stopped_fuel lim later t row may.0.1 (joined_child row.out (link_of st.links t).waits) after.frame after.stop counts in
      rw may.0.1 (omega (arith, sum, kept, ready))

  module _ (well : IsWellFormed p) where
    pub run_fuel : (st : State) (entries : List Entry) → Stands p lim st → LegalFrom p lim st entries
        → sum_by weight_of (strands_from p lim st entries) + fuel_left lim (replayed p lim st entries) ≡ fuel_left lim st + length entries
    run_fuel st [] stands legal = omega arith
    run_fuel st (entry ∷ entries) stands legal =
        let next : State = (result_by_kind p lim st entry.mv.kind entry.mv.task).0 in
        let first = taken_fuel st entry.mv.kind entry.mv.task entry.end legal.0 stands.number in
        let rest = run_fuel next entries (taken_stands p lim well st entry.mv.kind entry.mv.task legal.0 stands) legal.2 in
        let sum = sum_by-cons weight_of (strand_of p st entry) (strands_from p lim next entries) in
        omega (arith, first, rest, sum)

    pub start_fuel : 1 ≤ lim.tasks → fuel_left lim (start_of p lim) ≡ lim.tasks * lim.fuel
    start_fuel some = let whole = less_room lim lim.tasks (omega arith) in omega (arith, whole)

    -- so a sum of weights fits
    pub work_fits : IsWithin lim.fuel lim.tasks → (journal : List Entry) → Legal p lim journal → sum_by weight_of (strands p lim journal) < 2 ^ 60
    work_fits within journal legal =
        let all = run_fuel (start_of p lim) journal (start_stands p lim well) legal in
        let start = start_fuel within.tasks_least in
        let short = journal_length p lim well journal within.tasks_least legal in
        let most = mul-le-mul_left lim.tasks within.fuel_most in
        omega (arith, all, start, short, most, within.tasks_most)
