-- What the only stand finds.
use Rattle.std.proofs.Common.{◌≡◌, ◌≢◌, ◌∷◌, [], ℕ, ℤ, List, Option, None, Some, sym, ap, subst, ◌∙◌}
use Rattle.std.specs.Prelude.{IfNone}
use Rattle.std.proofs.lemmas.Option.{slice_get_within}
use Rattle.region_paths.specs.declared.elements.Elem.{Elem}
use Rattle.twe_base.specs.Limits.{Bounds}
use Rattle.twe_program.specs.Program.{Program}
use Rattle.machine_state.specs.declared.state.State.{State}
use Rattle.machine_state.specs.declared.state.TaskRow.{TaskRow}
use Rattle.machine_state.specs.declared.state.TaskStatus.{TaskStatus}
use Rattle.machine_state.specs.declared.state.TaskStatus.TheVariants as status
use Rattle.machine_state.specs.Rows.{row_awaited}
use Rattle.seg_journal.specs.declared.numbered.NumberedEntry.{NumberedEntry}
use Rattle.seg_journal.specs.Merging.{AreNumbered, IsMergeOf}
use Rattle.floor_laws.specs.declared.rule.view.Phase.TheVariants as phases
use Rattle.floor_laws.specs.declared.rule.view.TaskSlot.{TaskSlot}
use Rattle.floor_laws.specs.rule.Rows.{phase_at, phase_of}
use Rattle.floor_laws.proofs.rule.Puts.{put_here}
use Rattle.floor_laws.specs.table.Alone.{IsAloneAt}
use Rattle.floor_laws.specs.table.FloorOf.{turn_in}
use Rattle.floor_laws.specs.table.Layout.{phase_of_word}
use Rattle.floor_laws.specs.table.Tells.{Seat}
use Rattle.floor_laws.specs.declared.table.view.View.{View}
use Rattle.floor_laws.specs.table.nodes.Alone.{LearnsAlone}
use Rattle.floor_laws.specs.table.nodes.Follows.{FollowedPhase}
use Rattle.floor_laws.specs.table.nodes.Seats.{TreeSeat}
use Rattle.task_floor.specs.declared.steps.readiness.Readiness.TheVariants as readiness
use Rattle.task_floor.specs.Alone.{IsNewIfAlone, IsUndoneIfAlone}
use Rattle.task_floor.specs.Turns.{HasTakenTask}
use Rattle.task_floor.specs.steps.Resuming.{KnowsMore}

-- a seat stays the only one as long as it draws no entry, and none is split off
pub alone_still : (p : Program) (lim : Bounds) (v w : View) (st : State) → w.kind ≡ v.kind → w.out ≡ v.out → w.part ≡ v.part → IsAloneAt p lim v st → IsAloneAt p lim w st
alone_still p lim v w st kind out part alone = record {
  main = kind ∙ alone.main;
  none_out = out ∙ alone.none_out;
  log = alone.log;
  numbered = subst (λ (l : List NumberedEntry). AreNumbered (l ∷ [])) (sym part) alone.numbered;
  merge = subst (λ (l : List NumberedEntry). IsMergeOf (l ∷ []) alone.log) (sym part) alone.merge;
  leads = alone.leads;
}

pub alone_more : (p : Program) (lim : Bounds) (a b : Seat) (st : State) → KnowsMore a b → IsAloneAt p lim a.0 st → IsAloneAt p lim b.0 st
alone_more p lim a b st more alone =
    alone_still p lim a.0 b.0 st (ap (λ (m : Seat). m.0.kind) more.rest) (ap (λ (m : Seat). m.0.out) more.rest) (ap (λ (m : Seat). m.0.part) more.rest) alone

-- The awaited task.

done_phase : (row : TaskRow) → row.status ≡ status.Done → phase_of row ≡ phases.Done
done_phase row done = ap (λ (is : TaskStatus). phase_at is (row_awaited row.frame.next)) done

pub undone_since : (p : Program) (lim : Bounds) (a b : Seat) (t : ℕ) → KnowsMore a b → IsUndoneIfAlone p lim b.0 t → IsUndoneIfAlone p lim a.0 t
undone_since p lim a b t more undone st alone not = undone st (alone_more p lim a b st more alone) (more.turns t ∙ not)

pub new_undone : (p : Program) (lim : Bounds) (v : View) (t : ℕ) → IsNewIfAlone p lim v t → IsUndoneIfAlone p lim v t
new_undone p lim v t new st alone not done = new st alone not (slice_get_within st.tasks t done.0 done.1)

pub found_undone : (p : Program) (lim : Bounds) (a : TreeSeat) (t found : ℕ) → LearnsAlone p lim a.0 t found → phase_of_word found ≢ phases.Done → IsUndoneIfAlone p lim a.0.floor t
found_undone p lim a t found learns other st alone not done = other (learns.last st done.0 alone not done.1 ∙ done_phase done.0 done.2)

-- the turn was taken, and then the phase word was looked at
pub taken_undone : (nodes : List (List Elem)) (p : Program) (lim : Bounds) (a b c : TreeSeat) (t found : ℕ) (slot : TaskSlot) → (took : HasTakenTask nodes a b t slot) → FollowedPhase lim b t found c
    → LearnsAlone p lim b.0 t found → phase_of_word found ≢ phases.Done → IsUndoneIfAlone p lim a.0.floor t
taken_undone nodes p lim a b c t found slot took looks learns other st alone not done =
    let taken = took.floor in
    let alone_then : IsAloneAt p lim b.0.floor st =
    alone_still p lim a.0.floor b.0.floor st (ap (λ (m : Seat). m.0.kind) taken.seat) (ap (λ (m : Seat). m.0.out) taken.seat) (ap (λ (m : Seat). m.0.part) taken.seat) alone in
    let has : turn_in b.0.floor.turns t ≡ Some taken.turn = ap (λ (m : Seat). turn_in m.0.turns t) taken.seat ∙ put_here (turn_in a.0.floor.turns) t (Some taken.turn) in
    let row = learns.rows st t taken.turn done.0 alone_then has done.1 in
    other (looks.0 taken.turn has ∙ (taken.phase ∙ (sym (ap phase_of row) ∙ done_phase done.0 done.2)))

pub none_then : {X Y : Type 0} (o : Option ℤ) → (X → Y) → IfNone o X → IfNone o Y
none_then None goes none = goes none
none_then (Some value) goes none = tt

pub one_wait : (t u : ℕ) → readiness.Waits t ≡ readiness.Waits u → t ≡ u
one_wait t u h = cc

pub waits_undone : (p : Program) (lim : Bounds) (v : View) (t u : ℕ) → readiness.Waits t ≡ readiness.Waits u → IsUndoneIfAlone p lim v t → IsUndoneIfAlone p lim v u
waits_undone p lim v t u is undone = subst (IsUndoneIfAlone p lim v) (one_wait t u is) undone
