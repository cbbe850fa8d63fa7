-- The first segment of a spawned task starts from the frame that was made for it.
use Rattle.std.proofs.Common.{◌≡◌, ◌≢◌, ℕ, suc, ℤ, Bool, true, false, List, [], Some, sym, ap, ◌∙◌, subst, arith}
use Rattle.std.specs.Prelude.{slice_get}
use Rattle.twe_base.specs.declared.place.Place.{Place}
use Rattle.effect_sets.specs.declared.effects.Summary.{Summary}
use Rattle.twe_base.specs.Limits.{Bounds}
use Rattle.seg_journal.specs.declared.journal.Entry.{Entry}
use Rattle.twe_program.specs.Program.{Program}
use Rattle.twe_program.specs.WellFormed.{IsWellFormed}
use Rattle.seg_meaning.specs.declared.frame.Frame.{Frame}
use Rattle.seg_meaning.specs.declared.frame.Next.{Next}
use Rattle.seg_meaning.specs.declared.frame.Next.TheVariants.{Go}
use Rattle.seg_meaning.specs.declared.stop.Stop.TheVariants as stops
use Rattle.seg_meaning.specs.Giving.{given, given_by}
use Rattle.machine_state.proofs.segment_laws.Following.{makes_follow}
use Rattle.isolation_laws.specs.soundness.KeepsEffects.{KeepsEffects}
use Rattle.machine_state.specs.declared.state.State.{State}
use Rattle.machine_state.specs.declared.state.TaskRow.{TaskRow}
use Rattle.machine_state.specs.declared.state.TaskStatus.{TaskStatus}
use Rattle.machine_state.specs.declared.state.TaskStatus.TheVariants.{Made}
use Rattle.machine_state.specs.Moves.{awaited_value, parent_of, ready_frame, status_at_start}
use Rattle.machine_state.specs.Rows.{IsRow, row_awaited}
use Rattle.machine_state.specs.Runs.{Legal}
use Rattle.machine_state.proofs.lists.Places.{got_one}
use Rattle.determinism_laws.specs.Execution.{IsNextSegment}
use Rattle.determinism_laws.specs.Frames.{ChildrenBegin, StartsFrom, left_at}
use Rattle.determinism_laws.specs.Segments.{Spawns, state_before}
use Rattle.determinism_laws.proofs.JournalPlaces.{stands_at, taken_at}
use Rattle.determinism_laws.proofs.NewTasks.{left_by, move_row}
use Rattle.determinism_laws.proofs.RowsBetween.{rows_stay}
use Rattle.determinism_laws.proofs.Trees.{spawned_number, spawned_row_at}

-- a spawned task is enabled at once
not_made : (t u : ℕ) (spawned : Bool) (status : TaskStatus) → parent_of t spawned ≡ Some u → status ≡ status_at_start (parent_of t spawned) → status ≢ Made
not_made t u true status of is made = cc (is, made)
not_made t u false status of is made = cc (of)

module _ (p : Program) (wf : IsWellFormed p) (keeps : KeepsEffects p) (lim : Bounds) (journal : List Entry) (legal : Legal p lim journal) where
  abbrev st : ℕ → State
  st n = state_before p lim journal n

  begins : (u place child first : ℕ) (row : TaskRow) (made : Frame) (args : List ℤ) (effects : Summary) (spawned : Bool) (future : ℕ) (fault_place : Place)
      → Spawns p lim journal u place child → IsRow (st place) u row → (left_by p (st place) row).stop ≡ stops.Make made args effects spawned future fault_place
      → IsNextSegment journal child (suc place) first → StartsFrom p lim journal child first (record made { task = child; fuel = lim.fuel })
  begins u place child first row made args effects spawned future fault_place spawn there stop is_first =
      let found = spawned_row_at p wf keeps lim journal legal u place child (suc place) spawn (omega arith) in
      let taken = taken_at p wf lim journal legal place spawn.segment.entry spawn.segment.there in
      let here = subst (λ (s : State). IsRow s child found.0) taken.leads found.1 in
      let number = spawned_number p wf keeps lim journal legal u place child spawn in
      let new = move_row p lim (st place) (stands_at p wf lim journal legal place) spawn.segment.entry.mv.task spawn.segment.entry.mv.kind child (omega (arith, number)) found.0 here in
      let makes = new.makes in
      let own : IsRow (st place) u new.row = subst (λ (n : ℕ). IsRow (st place) n new.row) spawn.segment.task new.there in
      let same : new.row ≡ row = got_one (slice_get (st place).tasks u) own there in
      let stops_same : stops.Make makes.child makes.args makes.effects makes.spawned makes.future makes.place ≡ stops.Make made args effects spawned future fault_place =
      sym makes.stops_at ∙ (ap (λ (r : TaskRow). (left_by p (st place) r).stop) same ∙ stop) in
      let child_is : makes.child ≡ made = cc (stops_same) in
      let frame : found.0.frame ≡ record made { task = child; fuel = lim.fuel } = makes.frame ∙ ap (λ (f : Frame). record f { task = child; fuel = lim.fuel }) child_is in
      let value = awaited_value (st place).tasks (row_awaited row.frame.next) in
      let comes = makes_follow p (given row.frame value) (st place).cells [] made args effects spawned future fault_place stop in
      let go : found.0.frame.next ≡ Go = ap (λ (f : Frame). f.next) frame ∙ ap (λ (f : Frame). f.next) comes.child_is in
      let stays = rows_stay p wf keeps lim journal legal child (suc place) first found.0 is_first
      (not_made spawn.segment.entry.mv.task u makes.spawned found.0.status (sym makes.parent ∙ found.2) makes.status) found.1 in
      let taken_value = awaited_value (st first).tasks (row_awaited found.0.frame.next) in
      let ready : ready_frame (st first).tasks found.0.frame ≡ found.0.frame = ap (λ (n : Next). given_by n found.0.frame taken_value) go in
      record { segment = is_first.segment; row = found.0; there = stays; frame_is = sym (ready ∙ frame) }

pub children_begin : (p : Program) → IsWellFormed p → KeepsEffects p → (lim : Bounds) (journal : List Entry) → Legal p lim journal → ChildrenBegin p lim journal
children_begin p wf keeps lim journal legal u place child first frame made args effects spawned future fault_place spawn starts stop is_first =
    subst
    (λ (f : Frame). (left_at p lim journal place f).stop ≡ stops.Make made args effects spawned future fault_place
    → StartsFrom p lim journal child first (record made { task = child; fuel = lim.fuel }))
    (sym starts.frame_is)
    (λ concrete. begins p wf keeps lim journal legal u place child first starts.row made args effects spawned future fault_place spawn starts.there concrete is_first) stop
