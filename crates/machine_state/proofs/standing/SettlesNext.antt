-- What a segment leaves in a state that a run has come to may be settled.
use Rattle.std.proofs.Common.{◌≡◌, ◌≤◌, ◌<◌, ◌+◌, ◌^◌, ℕ, List, length, refl, sym, ap, ◌∙◌, subst, arith}
use Rattle.std.specs.List.{count_by}
use Rattle.std.specs.Option.{ForSome}
use Rattle.std.proofs.lemmas.List.{length-map}
use Rattle.std.proofs.lemmas.List.Sums.{count_by-le-length}
use Rattle.std.proofs.lemmas.Option.{slice_get_within}
use Rattle.twe_base.specs.Limits.{Bounds, IsWithin}
use Rattle.twe_program.specs.Program.{Program}
use Rattle.twe_program.specs.WellFormed.{IsWellFormed}
use Rattle.seg_meaning.specs.declared.frame.Frame.{Frame}
use Rattle.seg_meaning.specs.declared.frame.Next.{Next}
use Rattle.seg_meaning.specs.declared.frame.Next.TheVariants.{Go, Get, Join, Closing, Ended}
use Rattle.seg_meaning.specs.declared.stop.Stop.{Stop}
use Rattle.seg_meaning.specs.Segment.{segment}
use Rattle.seg_meaning.proofs.Rooms.{spawns_have_room}
use Rattle.machine_state.specs.declared.state.State.{State}
use Rattle.machine_state.specs.declared.state.TaskRow.{TaskRow}
use Rattle.machine_state.specs.Moves.{MaySettle, ready_frame}
use Rattle.machine_state.specs.Rows.{IsRow, row_awaited, link_of_row}
use Rattle.machine_state.specs.Runs.{IsReached}
use Rattle.machine_state.proofs.standing.Halfway.{left_stands}
use Rattle.machine_state.proofs.standing.ReachedStands.{reached_stands}
use Rattle.machine_state.proofs.standing.Standing.{FrameStands, Stands, is_faulted_row}

-- a task that is waited for is there, and was made after the one that waits
pub awaited_above : (p : Program) (lim : Bounds) (rows : List TaskRow) (t : ℕ) (frame : Frame) → FrameStands p lim rows t frame
    → ForSome (row_awaited frame.next) (λ on. (t < on) × (on < length rows))
awaited_above p lim rows t frame stands = by_next frame.next refl where
  by_next : (next : Next) → frame.next ≡ next → ForSome (row_awaited next) (λ on. (t < on) × (on < length rows))
  by_next Go is on some = absurd (cc (some))
  by_next (Get other into) is on some =
      let same : other ≡ on = cc (some) in
      let made = stands.getting other into is in subst (λ (n : ℕ). (t < n) × (n < length rows)) same (made.above, made.below)
  by_next (Join other into) is on some =
      let same : other ≡ on = cc (some) in
      let made = stands.joining other into is in subst (λ (n : ℕ). (t < n) × (n < length rows)) same (made.above, made.below)
  by_next (Closing other) is on some =
      let same : other ≡ on = cc (some) in
      let made = stands.awaited_child other is in subst (λ (n : ℕ). (t < n) × (n < length rows)) same (made.above, made.below)
  by_next Ended is on some = absurd (cc (some))

-- there is a link for each row
pub as_many_links : (p : Program) (lim : Bounds) (st : State) → Stands p lim st → length st.links ≡ length st.tasks
as_many_links p lim st stands = ap length stands.links ∙ length-map st.tasks (λ (row : TaskRow). link_of_row row)

-- few tasks are asked for
pub few_asked : (p : Program) (lim : Bounds) (st : State) → IsWithin lim.fuel lim.tasks → Stands p lim st → st.asked + 1 < 2 ^ 32
few_asked p lim st within stands =
    let most : count_by is_faulted_row st.tasks ≤ length st.tasks = count_by-le-length is_faulted_row st.tasks in
    let limit : length st.tasks ≤ lim.tasks = stands.limit within.tasks_least in
    omega (arith, most, limit, stands.asked, within.tasks_most)

pub stands_settle : (p : Program) (lim : Bounds) (st : State) (t : ℕ) (row : TaskRow) → IsWithin lim.fuel lim.tasks → Stands p lim st → IsRow st t row
    → let after = segment p (ready_frame st.tasks row.frame) st.cells in MaySettle lim st t after.frame after.stop
stands_settle p lim st t row within stands found = record {
  there = slice_get_within st.tasks t row found;
  linked = as_many_links p lim st stands;
  number = stands.number;
  few = few_asked p lim st within stands;
  above = awaited_above p lim st.tasks t (segment p (ready_frame st.tasks row.frame) st.cells).frame (left_stands p lim st stands t row found);
  room = spawns_have_room p (ready_frame st.tasks row.frame) st.cells;
}

-- what the next segment of a task leaves may be settled
pub may_settle : (p : Program) (lim : Bounds) (st : State) (t : ℕ) (row : TaskRow) → IsWellFormed p → IsWithin lim.fuel lim.tasks → IsReached p lim st → IsRow st t row
    → let after = segment p (ready_frame st.tasks row.frame) st.cells in MaySettle lim st t after.frame after.stop
may_settle p lim st t row well within reached found = stands_settle p lim st t row within (reached_stands p lim st well reached) found

-- the state may be another with as many rows and links, in which as many tasks were asked for
pub settles_with : (lim : Bounds) (st other : State) (t : ℕ) (frame : Frame) (stop : Stop) → other.asked ≡ st.asked → length other.tasks ≡ length st.tasks → length other.links ≡ length st.links
    → MaySettle lim st t frame stop → MaySettle lim other t frame stop
settles_with lim st other t frame stop asked rows links may = record {
  there = omega (arith, rows, may.there);
  linked = links ∙ (may.linked ∙ sym rows);
  number = λ few. asked_number few;
  few = omega (arith, asked, may.few);
  above = λ on some. let a = may.above on some in (a.0, omega (arith, rows, a.1));
  room = may.room;
} where
  asked_number : other.asked + 1 < lim.tasks → other.asked + 1 ≡ length other.tasks
  asked_number few = let less : st.asked + 1 < lim.tasks = omega (arith, asked, few) in omega (arith, asked, rows, may.number less)
