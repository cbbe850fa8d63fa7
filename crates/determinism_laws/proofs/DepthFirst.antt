-- The sequential execution of a deterministic task is a run of the machine: each spawned child runs to its end before its
-- parent goes on. So the numbers of the tasks are those of the execution.
use Rattle.std.proofs.Common.{◌≡◌, ◌≢◌, ◌⊎◌, ◌≤◌, ◌<◌, ◌+◌, ◌++◌, ℕ, zero, suc, ℤ, Bool, true, false, cond, List, [], ◌∷◌, length, Option, None, Some, inl, inr, refl, sym, ap, ◌∙◌, subst, arith, nat_lt, length-append, length-set}
use Rattle.std.specs.Prelude.{slice_get, slice_set, if◌then◌else◌, pos}
use Rattle.std.proofs.lemmas.Bool.{cases_eq, cases_lt}
use Rattle.std.proofs.lemmas.Option.{slice_get_within}
use Rattle.twe_base.specs.declared.place.Place.{Place}
use Rattle.twe_base.specs.declared.fault.FaultKind.{FaultKind}
use Rattle.twe_base.specs.declared.fault.FaultKind.TheVariants.{TaskLimit}
use Rattle.twe_base.specs.Limits.{Bounds}
use Rattle.effect_sets.specs.declared.effects.Summary.{Summary}
use Rattle.seg_journal.specs.declared.journal.End.{End}
use Rattle.seg_journal.specs.declared.journal.End.TheVariants as entry_ends
use Rattle.seg_journal.specs.declared.moves.Kind.TheVariants.{Run}
use Rattle.seg_journal.specs.declared.moves.Move.{Move}
use Rattle.wait_graph.specs.declared.tasks.Link.{Link}
use Rattle.wait_graph.specs.Link.{link_of}
use Rattle.wait_graph.specs.Waiting.{WaitsFor}
use Rattle.twe_program.specs.Program.{Program}
use Rattle.twe_program.specs.WellFormed.{IsWellFormed}
use Rattle.seg_meaning.specs.declared.frame.Frame.{Frame}
use Rattle.seg_meaning.specs.declared.frame.Next.{Next}
use Rattle.seg_meaning.specs.declared.frame.Next.TheVariants.{Go, Get, Join, Closing, Ended}
use Rattle.seg_meaning.specs.declared.stop.Stop.{Stop}
use Rattle.seg_meaning.specs.declared.stop.Stop.TheVariants as stops
use Rattle.seg_meaning.specs.Access.{value_in}
use Rattle.seg_meaning.specs.Entry.{entry_frame}
use Rattle.seg_meaning.specs.Giving.{given, given_by}
use Rattle.seg_meaning.specs.Segment.{Stopped}
use Rattle.isolation_laws.specs.soundness.KeepsEffects.{KeepsEffects}
use Rattle.isolation_laws.proofs.journals.Journals.{reached_kept}
use Rattle.isolation_laws.proofs.rows.LinksOfRows.{link_there, spawned_row}
use Rattle.machine_state.specs.segment_laws.Keeps.{NextAfter}
use Rattle.machine_state.proofs.segment_laws.Following.{makes_follow}
use Rattle.machine_state.proofs.segment_laws.SegmentKept.{segment_keeps}
use Rattle.machine_state.specs.declared.state.FirstFault.{FirstFault}
use Rattle.machine_state.specs.declared.state.State.{State}
use Rattle.machine_state.specs.declared.state.TaskRow.{TaskRow}
use Rattle.machine_state.specs.declared.state.TaskStatus.TheVariants.{Enabled, Done}
use Rattle.machine_state.specs.Changes.{ChangesAsSegment, LeavesAlone, TakesJoin, asked_by, fault_after, made_by}
use Rattle.machine_state.specs.Legal.{MayMove}
use Rattle.machine_state.specs.Moves.{awaited_value, done_row, frame_without_prints, going_row, joined_child, joined_row, making_frame, move_result, new_row, ran, ready_frame, state_after_asking, state_after_fault, state_after_join, state_after_make, stop_result, stopped_frame, value_of}
use Rattle.machine_state.specs.Rows.{IsRow, row_awaited, is_done_status}
use Rattle.machine_state.specs.Runs.{IsReached, entry_of}
use Rattle.machine_state.proofs.standing.Halfway.{halfway}
use Rattle.machine_state.proofs.weight.JoinedWeight.{asked_joined, length_joined}
use Rattle.machine_state.proofs.standing.Later.{Later, later_then}
use Rattle.machine_state.proofs.standing.LaterStates.{taken_later}
use Rattle.machine_state.proofs.tasks.LeftAlone.{moves_leave_alone}
use Rattle.machine_state.proofs.tasks.OtherRows.{row_after}
use Rattle.machine_state.proofs.lists.Places.{below_there, got_one, put_before, put_last, set_same}
use Rattle.machine_state.proofs.standing.ReachedStands.{linked_of, reached_stands}
use Rattle.machine_state.proofs.replays.Replayed.{run_more}
use Rattle.machine_state.proofs.standing.Standing.{Stands}
use Rattle.determinism_laws.specs.declared.elision.progress.Progress.{Progress}
use Rattle.determinism_laws.specs.elision.Elision.{Ending, ends, fails, strays, goes_on, after_stop, first_frame, is_child, run_within, then_go_on, with_task, with_value}
use Rattle.determinism_laws.proofs.elision.Within.{one_more}
use Rattle.determinism_laws.specs.Deterministic.{IsDeterministic}
use Rattle.determinism_laws.proofs.BodyRules.{makes_deterministic}
use Rattle.determinism_laws.proofs.Forks.{awaited_row, same_flag}
use Rattle.determinism_laws.proofs.NewTasks.{left_by}
use Rattle.determinism_laws.proofs.numbering.KeptValues.{get_before, get_other, get_set}

none_left : (p : Program) (lim : Bounds) (frame : Frame) (s : Progress) → run_within p lim zero frame s ≡ goes_on
unfolding run_within
none_left p lim frame s = refl

given_task : (next : Next) (frame : Frame) (value : ℤ) → (given_by next frame value).task ≡ frame.task
given_task Go frame value = refl
given_task (Get on into) frame value = refl
given_task (Join on into) frame value = refl
given_task (Closing on) frame value = refl
given_task Ended frame value = refl

-- The state is as the execution has come: it has no fault, and the values of the tasks that are done are kept.
pub record Known (st : State) (values : List ℤ) : Type 0 where
  pub no_fault : st.first_fault ≡ None
  pub asked : st.asked + 1 ≡ length st.tasks
  pub count : length values ≡ length st.tasks
  pub kept : (c : ℕ) (child : TaskRow) → IsRow st c child → child.status ≡ Done → value_in (slice_get values c) ≡ child.value

-- Task t may run next, and all tasks that it has spawned are done.
pub record At (p : Program) (lim : Bounds) (st : State) (t : ℕ) (row : TaskRow) (values : List ℤ) : Type 0 where
  pub reached : IsReached p lim st
  pub here : IsRow st t row
  pub enabled : row.status ≡ Enabled
  pub flag : IsDeterministic p row
  pub free : (u : ℕ) → ¬ WaitsFor st.links t u
  pub children : (c : ℕ) (child : TaskRow) → IsRow st c child → child.parent ≡ Some t → child.status ≡ Done
  pub known : Known st values

-- From this state the machine has come to one in which task t is done with this value, as the execution says. The rows of
-- other tasks that were there and are not its children are the same, and new tasks are below t.
pub record CameTo (p : Program) (lim : Bounds) (st : State) (t : ℕ) (value : ℤ) (s : Progress) : Type 0 where
  pub after : State
  pub reached : IsReached p lim after
  pub row : TaskRow
  pub here : IsRow after t row
  pub done : row.status ≡ Done
  pub cells : after.cells ≡ s.cells
  pub known : Known after s.values
  pub later : Later st.tasks after.tasks
  pub others : (u : ℕ) (r : TaskRow) → u ≢ t → IsRow st u r → r.parent ≢ Some t → IsRow after u r
  pub fresh : (u q : ℕ) (r : TaskRow) → length st.tasks ≤ u → IsRow after u r → r.parent ≡ Some q → (q ≡ t) ⊎ (length st.tasks ≤ q)

-- some run has this fault as its first
pub record Faults (p : Program) (lim : Bounds) (kind : FaultKind) (place : Place) : Type 0 where
  pub after : State
  pub reached : IsReached p lim after
  pub task : ℕ
  pub fault : after.first_fault ≡ Some (record { task = task; kind = kind; place = place })

abbrev pub Outcome : Program → Bounds → State → ℕ → Ending → Type 0
Outcome p lim st t (ends value s) = CameTo p lim st t value s
Outcome p lim st t (fails kind place) = Faults p lim kind place
Outcome p lim st t strays = Unit {0}
Outcome p lim st t goes_on = Unit {0}

abbrev progress : List ℤ → List ℤ → List ℤ → Progress
progress cells prints values = record { cells = cells; prints = prints; values = values }

-- One move.
module _ (p : Program) (wf : IsWellFormed p) (keeps : KeepsEffects p) (lim : Bounds) (st : State) (t : ℕ) (row : TaskRow) (values : List ℤ) (at : At p lim st t row values) where
  abbrev mv : Move
  mv = record { task = t; kind = Run }

  abbrev new : State
  new = (move_result p lim st mv).0

  abbrev left : Stopped
  left = left_by p st row

  abbrev bare : Frame
  bare = frame_without_prints left.frame

  stands : Stands p lim st
  stands = reached_stands p lim st wf at.reached

  may : MayMove st mv
  may = ((row, at.here, at.enabled), at.free)

  reached_new : IsReached p lim new
  reached_new =
      let run = run_more p lim at.reached.journal st mv (record { legal = at.reached.legal; same = at.reached.same }) may in
      record { journal = at.reached.journal ++ entry_of p lim st mv ∷ []; legal = run.legal; same = run.same }

  new_stands : Stands p lim new
  new_stands = reached_stands p lim new wf reached_new

  alone : LeavesAlone p st new mv (move_result p lim st mv).1
  alone = moves_leave_alone p lim st mv wf at.reached may

  later_new : Later st.tasks new.tasks
  later_new = taken_later p lim st Run t (linked_of p lim wf st stands)

  changes : ChangesAsSegment st new left
  changes = alone.results row at.here

  abbrev mid : State
  mid = state_after_join (record st { cells = left.cells }) (joined_child row.out (link_of st.links t).waits)

  own_mid : IsRow mid t row
  own_mid = (halfway p lim st stands t row at.here at.free).almost.own

  moved : (stop : Stop) → left.stop ≡ stop → move_result p lim st mv ≡ stop_result lim mid t row left.frame stop
  moved stop e = ap (ran p lim st t) at.here ∙ ap (stop_result lim mid t row left.frame) e

  below : t < length st.tasks
  below = slice_get_within st.tasks t row at.here

  -- a parent has a lower number
  lower : (s : State) → Stands p lim s → (u q : ℕ) (r : TaskRow) → IsRow s u r → r.parent ≡ Some q → q < u
  lower s is u q r here parent = (is.rows u r here).parent q parent

  -- who is no child of t keeps its row
  stays : (u : ℕ) (r : TaskRow) → u ≢ t → IsRow st u r → r.parent ≢ Some t → IsRow new u r
  stays u r other here no_child = alone.rows u r other none here
    where
      none : ¬ TakesJoin st mv u
      none takes =
          let child = spawned_row st stands.links u t takes.child in
          no_child (ap (λ (x : TaskRow). x.parent) (got_one (slice_get st.tasks u) here child.1) ∙ child.2)

  -- The row of another task, which was there before.
  record Was (u : ℕ) (now : TaskRow) : Type 0 where
    old : TaskRow
    there : IsRow st u old
    status : now.status ≡ old.status
    value : now.value ≡ old.value
    parent : now.parent ≡ old.parent

  was : (u : ℕ) (now : TaskRow) → u ≢ t → u < length st.tasks → IsRow new u now → Was u now
  was u now other within here =
      let old = below_there st.tasks u within in
      elim (row_after p lim st t u other old.0 old.1 Run) [
        | inl same ↦
            let is : now ≡ old.0 = got_one (slice_get new.tasks u) here same.1 in
            record { old = old.0; there = old.1; status = ap (λ (r : TaskRow). r.status) is; value = ap (λ (r : TaskRow). r.value) is; parent = ap (λ (r : TaskRow). r.parent) is }
        | inr marked ↦
            let is : now ≡ joined_row old.0 = got_one (slice_get new.tasks u) here marked.1 in
            record { old = old.0; there = old.1; status = ap (λ (r : TaskRow). r.status) is; value = ap (λ (r : TaskRow). r.value) is; parent = ap (λ (r : TaskRow). r.parent) is }
      ]

  -- a done child was done before
  child_done : (u : ℕ) (now : TaskRow) → u < length st.tasks → IsRow new u now → now.parent ≡ Some t → now.status ≡ Done
  child_done u now within here parent =
      let lower_u = lower new new_stands u t now here parent in
      let w = was u now (λ same. omega (arith, same, lower_u)) within here in
      w.status ∙ at.children u w.old w.there (sym w.parent ∙ parent)

  -- the kept values of other tasks
  kept_before : (u : ℕ) (now : TaskRow) → u ≢ t → u < length st.tasks → IsRow new u now → now.status ≡ Done → value_in (slice_get values u) ≡ now.value
  kept_before u now other within here done =
      let w = was u now other within here in
      at.known.kept u w.old w.there (sym w.status ∙ done) ∙ sym w.value

  -- what follows from the end of the move
  end_is : (stop : Stop) → left.stop ≡ stop → (move_result p lim st mv).1 ≡ (stop_result lim mid t row left.frame stop).1
  end_is stop e = ap (λ (r : State × End). r.1) (moved stop e)

  tasks_by : (end : End) → (move_result p lim st mv).1 ≡ end → length new.tasks ≡ length st.tasks + made_by end
  tasks_by end e = alone.tasks ∙ ap (λ (x : End). length st.tasks + made_by x) e

  fault_by : (end : End) → (move_result p lim st mv).1 ≡ end → new.first_fault ≡ fault_after None t end
  fault_by end e = alone.first_fault ∙ (ap (λ (x : End). fault_after st.first_fault t x) e ∙ ap (λ (o : Option FirstFault). fault_after o t end) at.known.no_fault)

  asked_is : (stop : Stop) → left.stop ≡ stop → new.asked ≡ st.asked + asked_by stop
  asked_is stop e = changes.asked ∙ ap (λ (x : Stop). st.asked + asked_by x) e

  own_new : (stop : Stop) → left.stop ≡ stop → (r : TaskRow) → IsRow (stop_result lim mid t row left.frame stop).0 t r → IsRow new t r
  own_new stop e r here = subst (λ (x : State × End). IsRow x.0 t r) (sym (moved stop e)) here

  -- It is done.

  task_is : left.frame.task ≡ t
  task_is =
      (segment_keeps p (ready_frame st.tasks row.frame) st.cells).task
      ∙ (given_task row.frame.next row.frame (awaited_value st.tasks (row_awaited row.frame.next)) ∙ (stands.rows t row at.here).frame.number)

  ended : (prints : List ℤ) (value : ℤ) → left.stop ≡ stops.Done value → CameTo p lim st t value (with_value bare value (progress left.cells prints values))
  ended prints value stop =
      let end = end_is (stops.Done value) stop in
      let tasks : length new.tasks ≡ length st.tasks + 0 = tasks_by (entry_ends.Done value) end in
      let asked : new.asked ≡ st.asked + 0 = asked_is (stops.Done value) stop in
      let now = done_row row left.frame value in
      let here : IsRow new t now = own_new (stops.Done value) stop now (set_same mid.tasks t row now own_mid) in
      let no_fault = fault_by (entry_ends.Done value) end in
      record {
        after = new;
        reached = reached_new;
        row = now;
        here = here;
        done = refl;
        cells = changes.cells;
        known = record {
          no_fault = no_fault;
          asked = omega (arith, tasks, asked, at.known.asked);
          count = length-set values left.frame.task value ∙ omega (arith, tasks, at.known.count);
          kept = λ c child there done. elim (cases_eq c t) [
            | inl own ↦
                let is : child ≡ now = got_one (slice_get new.tasks t) (subst (λ (n : ℕ). IsRow new n child) own there) here in
                let room : left.frame.task < length values = omega (arith, task_is, below, at.known.count) in
                ap (λ (n : ℕ). value_in (slice_get (slice_set values left.frame.task value) n)) (own ∙ sym task_is)
                ∙ (get_set values left.frame.task value room ∙ sym (ap (λ (r : TaskRow). r.value) is))
            | inr other ↦
                let within = slice_get_within new.tasks c child there in
                get_other values left.frame.task c value (λ same. other (same ∙ task_is))
                ∙ kept_before c child other (omega (arith, within, tasks)) there done
          ];
        };
        later = later_new;
        others = stays;
        fresh = λ u q r least there parent. let within = slice_get_within new.tasks u r there in absurd (omega (arith, least, within, tasks));
      }

  -- It meets a fault.

  faulted : (kind : FaultKind) (place : Place) → (move_result p lim st mv).1 ≡ entry_ends.Fault kind place → Faults p lim kind place
  faulted kind place end = record { after = new; reached = reached_new; task = t; fault = fault_by (entry_ends.Fault kind place) end }

  -- It goes on after a join.

  waits_for : (stop : Stop) (on : ℕ) → stop ≡ stops.Joins on → NextAfter stop left.frame → row_awaited left.frame.next ≡ Some on
  waits_for (stops.Make child args effects spawned future place) on e after = absurd (cc (e))
  waits_for (stops.Waits other) on e after = absurd (cc (e))
  waits_for (stops.Done value) on e after = absurd (cc (e))
  waits_for (stops.Fault kind place) on e after = absurd (cc (e))
  waits_for (stops.Joins other) on e (inl join) = let same : other ≡ on = cc (e) in ap row_awaited join.1 ∙ ap Some same
  waits_for (stops.Joins other) on e (inr closing) = let same : other ≡ on = cc (e) in ap row_awaited closing.next ∙ ap Some same

  module _ (on : ℕ) (stop : left.stop ≡ stops.Joins on) where
    abbrev waiting : TaskRow
    waiting = going_row row left.frame

    waiting_here : IsRow new t waiting
    waiting_here = own_new (stops.Joins on) stop waiting (set_same mid.tasks t row waiting own_mid)

    as_many : length new.tasks ≡ length st.tasks
    as_many = let tasks : length new.tasks ≡ length st.tasks + 0 = tasks_by (entry_ends.Joins on) (end_is (stops.Joins on) stop) in omega (arith, tasks)

    awaits : row_awaited waiting.frame.next ≡ Some on
    awaits = waits_for left.stop on stop (segment_keeps p (ready_frame st.tasks row.frame) st.cells).next

    the_child : (child : TaskRow) × IsRow new on child × (child.parent ≡ Some t)
    the_child = awaited_row p wf keeps lim new reached_new t on waiting waiting_here (same_flag p row waiting refl at.flag) awaits

    within_new : (u : ℕ) (r : TaskRow) → IsRow new u r → u < length st.tasks
    within_new u r here = let within = slice_get_within new.tasks u r here in omega (arith, within, as_many)

    the_child_done : (the_child.0).status ≡ Done
    the_child_done = child_done on the_child.0 (within_new on the_child.0 the_child.1) the_child.1 the_child.2

    kept_new : (c : ℕ) (child : TaskRow) → IsRow new c child → child.status ≡ Done → value_in (slice_get values c) ≡ child.value
    kept_new c child there done =
        elim (cases_eq c t) [
          | inl own ↦
              let is : child ≡ waiting = got_one (slice_get new.tasks t) (subst (λ (n : ℕ). IsRow new n child) own there) waiting_here in
              let both : Done ≡ Enabled = sym done ∙ (ap (λ (r : TaskRow). r.status) is ∙ at.enabled) in
              absurd (cc (both))
          | inr other ↦ kept_before c child other (within_new c child there) there done
        ]

    free_new : (u : ℕ) → ¬ WaitsFor new.links t u
    free_new u wait =
        let link = link_there new new_stands.links t waiting waiting_here in
        let some : Some on ≡ Some u = sym awaits ∙ (sym (ap (λ (l : Link). l.waits) link) ∙ wait.waits) in
        let same : on ≡ u = cc (some) in
        let done : (link_of new.links on).done ≡ true =
        ap (λ (l : Link). l.done) (link_there new new_stands.links on the_child.0 the_child.1) ∙ ap is_done_status the_child_done in
        let undone : (link_of new.links on).done ≡ false = ap (λ (n : ℕ). (link_of new.links n).done) same ∙ wait.undone in
        let both : true ≡ false = sym done ∙ undone in
        cc (both)

    at_join : At p lim new t waiting values
    at_join = record {
      reached = reached_new;
      here = waiting_here;
      enabled = at.enabled;
      flag = same_flag p row waiting refl at.flag;
      free = free_new;
      children = λ c child there parent. child_done c child (within_new c child there) there parent;
      known = record {
        no_fault = fault_by (entry_ends.Joins on) (end_is (stops.Joins on) stop);
        asked = let asked : new.asked ≡ st.asked + 0 = asked_is (stops.Joins on) stop in omega (arith, asked, as_many, at.known.asked);
        count = at.known.count ∙ sym as_many;
        kept = kept_new;
      };
    }

    -- the frame that it goes on from
    ready_is : ready_frame new.tasks waiting.frame ≡ given bare (value_in (slice_get values on))
    ready_is =
        let value : awaited_value new.tasks (row_awaited waiting.frame.next) ≡ value_in (slice_get values on) =
        ap (awaited_value new.tasks) awaits ∙ (ap value_of the_child.1 ∙ sym (kept_new on the_child.0 the_child.1 the_child_done)) in
        ap (given bare) value

    came_on : (value : ℤ) (s : Progress) → CameTo p lim new t value s → CameTo p lim st t value s
    came_on value s came = record {
      after = came.after;
      reached = came.reached;
      row = came.row;
      here = came.here;
      done = came.done;
      cells = came.cells;
      known = came.known;
      later = later_then st.tasks new.tasks came.after.tasks later_new came.later;
      others = λ u r other here no_child. came.others u r other (stays u r other here no_child) no_child;
      fresh = λ u q r least there parent. elim (came.fresh u q r (omega (arith, least, as_many)) there parent) [
        | inl own ↦ inl own
        | inr high ↦ inr (omega (arith, high, as_many))
      ];
    }

    outcome_on : (e : Ending) → Outcome p lim new t e → Outcome p lim st t e
    outcome_on (ends value s) came = came_on value s came
    outcome_on (fails kind place) fault = fault
    outcome_on strays nothing = tt
    outcome_on goes_on nothing = tt

    -- and goes on
    joined : (n : ℕ) (prints : List ℤ)
        → ((x : State) (r : TaskRow) (v : List ℤ) (printed : List ℤ) → At p lim x t r v → Outcome p lim x t (run_within p lim n (ready_frame x.tasks r.frame) (progress x.cells printed v)))
        → Outcome p lim st t (run_within p lim n (given bare (value_in (slice_get values on))) (progress left.cells prints values))
    joined n prints rest =
        let known : Outcome p lim new t (run_within p lim n (ready_frame new.tasks waiting.frame) (progress new.cells prints values)) = rest new waiting values prints at_join in
        let with_cells = subst (λ (cells : List ℤ). Outcome p lim new t (run_within p lim n (ready_frame new.tasks waiting.frame) (progress cells prints values))) changes.cells known in
        outcome_on (run_within p lim n (given bare (value_in (slice_get values on))) (progress left.cells prints values))
        (subst (λ (f : Frame). Outcome p lim new t (run_within p lim n f (progress left.cells prints values))) ready_is with_cells)

  -- It spawns a child.

  number_is : mid.asked + 1 ≡ length values
  number_is =
      let asked = asked_joined (record st { cells = left.cells }) (joined_child row.out (link_of st.links t).waits) in
      omega (arith, asked, at.known.asked, at.known.count)

  module _ (child : Frame) (args : List ℤ) (effects : Summary) (future : ℕ) (place : Place) (stop : left.stop ≡ stops.Make child args effects true future place)
      (fits : nat_lt (mid.asked + 1) lim.tasks ≡ true) where
    abbrev number : ℕ
    number = mid.asked + 1

    abbrev spawner : TaskRow
    spawner = going_row row (making_frame future true number left.frame)

    abbrev spawned : TaskRow
    spawned = new_row lim number (Some t) child args effects

    moved_fits : move_result p lim st mv ≡ (state_after_make lim mid t row left.frame future true child args effects, entry_ends.Made number)
    moved_fits =
        moved (stops.Make child args effects true future place) stop
        ∙ ap (λ (b : Bool). cond {A = State × End} b (state_after_make lim mid t row left.frame future true child args effects, entry_ends.Made number)
        (state_after_fault (state_after_asking mid) t row (stopped_frame left.frame) TaskLimit place, entry_ends.Fault TaskLimit place)) fits

    after_make : (u : ℕ) (r : TaskRow) → slice_get (slice_set mid.tasks t spawner ++ spawned ∷ []) u ≡ Some r → IsRow new u r
    after_make u r here = subst (λ (x : State × End). IsRow x.0 u r) (sym moved_fits) here

    spawner_here : IsRow new t spawner
    spawner_here = after_make t spawner (put_before (slice_set mid.tasks t spawner) spawned t spawner (set_same mid.tasks t row spawner own_mid))

    before_is : number ≡ length st.tasks
    before_is = number_is ∙ at.known.count

    spawned_here : IsRow new number spawned
    spawned_here =
        let many = length_joined (record st { cells = left.cells }) (joined_child row.out (link_of st.links t).waits) in
        let set = length-set mid.tasks t spawner in
        after_make number spawned (put_last (slice_set mid.tasks t spawner) spawned number (omega (arith, before_is, many, set)))

    one_more_task : length new.tasks ≡ number + 1
    one_more_task = let tasks : length new.tasks ≡ length st.tasks + 1 = tasks_by (entry_ends.Made number) (ap (λ (x : State × End). x.1) moved_fits) in omega (arith, tasks, before_is)

    t_below : t < number
    t_below = omega (arith, below, before_is)

    asked_now : new.asked + 1 ≡ number + 1
    asked_now = let asked : new.asked ≡ st.asked + 1 = asked_is (stops.Make child args effects true future place) stop in omega (arith, asked, at.known.asked, before_is)

    goes : left.frame.next ≡ Go
    goes = subst (λ (x : Stop). NextAfter x left.frame) stop (segment_keeps p (ready_frame st.tasks row.frame) st.cells).next

    comes_from : (decl_task : ℕ) × (child ≡ entry_frame p decl_task args)
    comes_from =
        let making = makes_follow p (ready_frame st.tasks row.frame) st.cells [] child args effects true future place stop in
        (making.task, making.child_is)

    child_next : child.next ≡ Go
    child_next = ap (λ (f : Frame). f.next) comes_from.1

    -- which of the two a row is, or that it was there before
    abbrev Which : ℕ → Type 0
    Which u = (u ≡ t) ⊎ ((u ≡ number) ⊎ ((u ≢ t) × (u < length st.tasks)))

    which : (u : ℕ) (r : TaskRow) → IsRow new u r → Which u
    which u r here =
        let within = slice_get_within new.tasks u r here in
        elim (cases_eq u t) [
          | inl own ↦ inl own
          | inr other ↦ elim (cases_eq u number) [
            | inl last ↦ inr (inl last)
            | inr neither ↦ inr (inr (other, omega (arith, within, one_more_task, before_is, neither)))
          ]
        ]

    is_spawner : (u : ℕ) (r : TaskRow) → u ≡ t → IsRow new u r → r ≡ spawner
    is_spawner u r own here = got_one (slice_get new.tasks t) (subst (λ (n : ℕ). IsRow new n r) own here) spawner_here

    is_spawned : (u : ℕ) (r : TaskRow) → u ≡ number → IsRow new u r → r ≡ spawned
    is_spawned u r last here = got_one (slice_get new.tasks number) (subst (λ (n : ℕ). IsRow new n r) last here) spawned_here

    not_done : (r other : TaskRow) → r ≡ other → other.status ≡ Enabled → r.status ≡ Done → ⊥
    not_done r other is enabled done = let both : Done ≡ Enabled = sym done ∙ (ap (λ (x : TaskRow). x.status) is ∙ enabled) in cc (both)

    kept_made : (c : ℕ) (r : TaskRow) → IsRow new c r → r.status ≡ Done → value_in (slice_get (values ++ pos 0 ∷ []) c) ≡ r.value
    kept_made c r here done = elim (which c r here) [
      | inl own ↦ absurd (not_done r spawner (is_spawner c r own here) at.enabled done)
      | inr other ↦ elim other [
        | inl last ↦ absurd (not_done r spawned (is_spawned c r last here) refl done)
        | inr old ↦ get_before values (pos 0) c (omega (arith, old.1, at.known.count)) ∙ kept_before c r old.0 old.1 here done
      ]
    ]

    known_made : Known new (values ++ pos 0 ∷ [])
    known_made = record {
      no_fault = fault_by (entry_ends.Made number) (ap (λ (x : State × End). x.1) moved_fits);
      asked = omega (arith, asked_now, one_more_task);
      count = length-append values (pos 0 ∷ []) ∙ omega (arith, number_is, one_more_task);
      kept = kept_made;
    }

    free_by : (s : State) → Stands p lim s → (u : ℕ) (r : TaskRow) → IsRow s u r → r.frame.next ≡ Go → (v : ℕ) → ¬ WaitsFor s.links u v
    free_by s is u r here next v wait =
        let link = link_there s is.links u r here in
        let none : None ≡ Some v = sym (ap row_awaited next) ∙ (sym (ap (λ (l : Link). l.waits) link) ∙ wait.waits) in
        cc (none)

    flag_spawned : IsDeterministic p spawned
    flag_spawned =
        (makes_deterministic p keeps lim st stands (reached_kept p wf keeps lim st at.reached) t row at.here at.flag child args effects true future place stop).1

    -- the child runs first
    at_child : At p lim new number spawned (values ++ pos 0 ∷ [])
    at_child = record {
      reached = reached_new;
      here = spawned_here;
      enabled = refl;
      flag = flag_spawned;
      free = free_by new new_stands number spawned spawned_here child_next;
      children = λ c r here parent.
          let above = lower new new_stands c number r here parent in
          let within = slice_get_within new.tasks c r here in
          absurd (omega (arith, above, within, one_more_task));
      known = known_made;
    }

    child_ready : ready_frame new.tasks spawned.frame ≡ first_frame lim (length values) child
    child_ready =
        let value = awaited_value new.tasks (row_awaited child.next) in
        ap (λ (n : Next). given_by n spawned.frame value) child_next ∙ ap (λ (n : ℕ). first_frame lim n child) number_is

    -- the parent goes on, once the child is done
    module _ (value : ℤ) (s : Progress) (came : CameTo p lim new number value s) where
      came_stands : Stands p lim came.after
      came_stands = reached_stands p lim came.after wf came.reached

      -- no parent of an old task is the child
      no_parent : (u : ℕ) (r : TaskRow) → u < number → IsRow new u r → r.parent ≢ Some number
      no_parent u r before here parent = let above = lower new new_stands u number r here parent in omega (arith, above, before)

      spawner_stays : IsRow came.after t spawner
      spawner_stays = came.others t spawner (λ same. omega (arith, same, t_below)) spawner_here (no_parent t spawner t_below spawner_here)

      child_of_spawner : (c : ℕ) (r : TaskRow) → IsRow came.after c r → r.parent ≡ Some t → r.status ≡ Done
      child_of_spawner c r here parent = elim (cases_lt c (length new.tasks)) [
        | inr past ↦ elim (came.fresh c t r past here parent) [
          | inl same ↦ absurd (omega (arith, same, t_below))
          | inr high ↦ absurd (omega (arith, high, one_more_task, t_below))
        ]
        | inl before ↦
            let old = below_there new.tasks c before in
            elim (which c old.0 old.1) [
              | inl own ↦ let above = lower came.after came_stands c t r here parent in absurd (omega (arith, own, above))
              | inr other ↦ elim other [
                | inl last ↦
                    let is : r ≡ came.row = got_one (slice_get came.after.tasks number) (subst (λ (n : ℕ). IsRow came.after n r) last here) came.here in
                    ap (λ (x : TaskRow). x.status) is ∙ came.done
                | inr earlier ↦
                    let below_number : c < number = omega (arith, earlier.1, before_is) in
                    let stays_there = came.others c old.0 (λ same. omega (arith, same, below_number)) old.1 (no_parent c old.0 below_number old.1) in
                    let is : r ≡ old.0 = got_one (slice_get came.after.tasks c) here stays_there in
                    ap (λ (x : TaskRow). x.status) is ∙ child_done c old.0 earlier.1 old.1 (sym (ap (λ (x : TaskRow). x.parent) is) ∙ parent)
              ]
            ]
      ]

      at_again : At p lim came.after t spawner s.values
      at_again = record {
        reached = came.reached;
        here = spawner_stays;
        enabled = at.enabled;
        flag = same_flag p row spawner refl at.flag;
        free = free_by came.after came_stands t spawner spawner_stays goes;
        children = child_of_spawner;
        known = came.known;
      }

      again_ready : ready_frame came.after.tasks spawner.frame ≡ making_frame future true (length values) bare
      again_ready =
          let taken = awaited_value came.after.tasks (row_awaited spawner.frame.next) in
          ap (λ (n : Next). given_by n spawner.frame taken) goes ∙ ap (λ (n : ℕ). making_frame future true n bare) number_is

      -- what came of the parent
      came_whole : (last : ℤ) (end : Progress) → CameTo p lim came.after t last end → CameTo p lim st t last end
      came_whole last end again = record {
        after = again.after;
        reached = again.reached;
        row = again.row;
        here = again.here;
        done = again.done;
        cells = again.cells;
        known = again.known;
        later = later_then st.tasks new.tasks again.after.tasks later_new (later_then new.tasks came.after.tasks again.after.tasks came.later again.later);
        others = λ u r other here no_child.
            let within = slice_get_within st.tasks u r here in
            let below_number : u < number = omega (arith, within, before_is) in
            let in_new = stays u r other here no_child in
            again.others u r other (came.others u r (λ same. omega (arith, same, below_number)) in_new (no_parent u r below_number in_new)) no_child;
        fresh = λ u q r least there parent. elim (cases_lt u (length came.after.tasks)) [
          | inr past ↦ elim (again.fresh u q r past there parent) [
            | inl own ↦ inl own
            | inr high ↦ let more = came.later.longer in inr (omega (arith, high, more, one_more_task, before_is))
          ]
          | inl before ↦
              let mine = below_there came.after.tasks u before in
              let kept = again.later.kept u mine.0 mine.1 in
              let is : r ≡ kept.now = got_one (slice_get again.after.tasks u) there kept.there in
              let parent_then : (mine.0).parent ≡ Some q = sym kept.parent ∙ (sym (ap (λ (x : TaskRow). x.parent) is) ∙ parent) in
              by_place u q mine.0 least mine.1 parent_then
        ];
      }
        where
          by_place : (u q : ℕ) (r : TaskRow) → length st.tasks ≤ u → IsRow came.after u r → r.parent ≡ Some q → (q ≡ t) ⊎ (length st.tasks ≤ q)
          by_place u q r least there parent = elim (cases_lt u (length new.tasks)) [
            | inr past ↦ elim (came.fresh u q r past there parent) [
              | inl own ↦ inr (omega (arith, own, before_is))
              | inr high ↦ inr (omega (arith, high, one_more_task, before_is))
            ]
            | inl before ↦
                let last_one : u ≡ number = omega (arith, before, one_more_task, least, before_is) in
                let kept = came.later.kept number spawned spawned_here in
                let is : r ≡ kept.now = got_one (slice_get came.after.tasks number) (subst (λ (n : ℕ). IsRow came.after n r) last_one there) kept.there in
                let own : Some t ≡ Some q = sym kept.parent ∙ (sym (ap (λ (x : TaskRow). x.parent) is) ∙ parent) in
                let same : q ≡ t = cc (own) in
                inl same
          ]

      outcome_whole : (e : Ending) → Outcome p lim came.after t e → Outcome p lim st t e
      outcome_whole (ends last end) again = came_whole last end again
      outcome_whole (fails kind at_place) fault = fault
      outcome_whole strays nothing = tt
      outcome_whole goes_on nothing = tt

  -- the meaning of what follows, within a bound
  abbrev Goes : ℕ → Type 0
  Goes n =
      (x : State) (u : ℕ) (r : TaskRow) (v printed : List ℤ) → At p lim x u r v
      → Outcome p lim x u (run_within p lim n (ready_frame x.tasks r.frame) (progress x.cells printed v))

  module _ (n : ℕ) (rest : Goes n) (prints : List ℤ) where
    module _ (child : Frame) (args : List ℤ) (effects : Summary) (future : ℕ) (place : Place) (stop : left.stop ≡ stops.Make child args effects true future place) where
      abbrev t1 : Progress
      t1 = progress left.cells prints values

      abbrev go_on : Progress → Ending
      go_on after = run_within p lim n (making_frame future true (length values) bare) after

      then_parent : (fits : nat_lt (mid.asked + 1) lim.tasks ≡ true) → (e : Ending) → Outcome p lim new (mid.asked + 1) e → Outcome p lim st t (then_go_on e go_on)
      then_parent fits (ends value s) came =
          let again = rest came.after t (spawner child args effects future place stop fits) s.values s.prints (at_again child args effects future place stop fits value s came) in
          let with_cells = subst (λ (cells : List ℤ). Outcome p lim came.after t (run_within p lim n (ready_frame came.after.tasks (spawner child args effects future place stop fits).frame) (progress cells s.prints s.values)))
          came.cells again in
          outcome_whole child args effects future place stop fits value s came (go_on s)
          (subst (λ (f : Frame). Outcome p lim came.after t (run_within p lim n f s)) (again_ready child args effects future place stop fits value s came) with_cells)
      then_parent fits (fails kind at_place) fault = fault
      then_parent fits strays nothing = tt
      then_parent fits goes_on nothing = tt

      at_spawn : (fits : Bool) → nat_lt (length values) lim.tasks ≡ fits
          → Outcome p lim st t (if fits then then_go_on (run_within p lim n (first_frame lim (length values) child) (with_task t1)) go_on else fails TaskLimit place)
      at_spawn true e =
          let fits : nat_lt (mid.asked + 1) lim.tasks ≡ true = ap (λ (k : ℕ). nat_lt k lim.tasks) number_is ∙ e in
          let mine = rest new (mid.asked + 1) (spawned child args effects future place stop fits) (values ++ pos 0 ∷ []) prints (at_child child args effects future place stop fits) in
          let with_cells = subst (λ (cells : List ℤ). Outcome p lim new (mid.asked + 1) (run_within p lim n (ready_frame new.tasks (spawned child args effects future place stop fits).frame) (progress cells prints (values ++ pos 0 ∷ []))))
          changes.cells mine in
          then_parent fits (run_within p lim n (first_frame lim (length values) child) (with_task t1))
          (subst (λ (f : Frame). Outcome p lim new (mid.asked + 1) (run_within p lim n f (with_task t1))) (child_ready child args effects future place stop fits) with_cells)
      at_spawn false e =
          let limit : nat_lt (mid.asked + 1) lim.tasks ≡ false = ap (λ (k : ℕ). nat_lt k lim.tasks) number_is ∙ e in
          faulted TaskLimit place (end_is (stops.Make child args effects true future place) stop
          ∙ ap (λ (b : Bool). (cond {A = State × End} b (state_after_make lim mid t row left.frame future true child args effects, entry_ends.Made (mid.asked + 1))
          (state_after_fault (state_after_asking mid) t row (stopped_frame left.frame) TaskLimit place, entry_ends.Fault TaskLimit place)).1) limit)

    at_wait : (on : ℕ) → left.stop ≡ stops.Joins on → (is : Bool) → Outcome p lim st t (if is then run_within p lim n (given bare (value_in (slice_get values on))) (progress left.cells prints values) else strays)
    at_wait on stop true = joined on stop n prints (λ x r v printed at_x. rest x t r v printed at_x)
    at_wait on stop false = tt

    by_stop : (stop : Stop) → left.stop ≡ stop → Outcome p lim st t (after_stop (run_within p lim n) lim bare stop (progress left.cells prints values))
    by_stop (stops.Make child args effects true future place) stop = at_spawn child args effects future place stop (nat_lt (length values) lim.tasks) refl
    by_stop (stops.Make child args effects false future place) stop = tt
    by_stop (stops.Waits on) stop = tt
    by_stop (stops.Joins on) stop = at_wait on stop (is_child on bare)
    by_stop (stops.Done value) stop = ended prints value stop
    by_stop (stops.Fault kind place) stop = faulted kind place (end_is (stops.Fault kind place) stop)

module _ (p : Program) (wf : IsWellFormed p) (keeps : KeepsEffects p) (lim : Bounds) where
  -- by induction over the bound
  pub follows : (n : ℕ) (st : State) (t : ℕ) (row : TaskRow) (values prints : List ℤ) → At p lim st t row values
      → Outcome p lim st t (run_within p lim n (ready_frame st.tasks row.frame) (progress st.cells prints values))
  follows zero st t row values prints at =
      subst (Outcome p lim st t) (sym (none_left p lim (ready_frame st.tasks row.frame) (progress st.cells prints values))) tt
  follows (suc n) st t row values prints at =
      let left = left_by p st row in
      subst (Outcome p lim st t) (sym (one_more p lim n (ready_frame st.tasks row.frame) (progress st.cells prints values)))
      (by_stop p wf keeps lim st t row values at n (follows n) (prints ++ left.frame.prints) left.stop refl)
