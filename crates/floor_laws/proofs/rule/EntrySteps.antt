-- An entry keeps the rule: the floor fits the state after it.
use Rattle.std.proofs.Common.{◌≡◌, ◌≢◌, ◌+◌, ◌++◌, ◌<◌, ◌≤◌, ℕ, ℤ, Bool, true, false, cond, List, length, Option, None, Some, refl, sym, ap, subst, ◌∙◌, inl, inr, ⊎_elim, nat_lt, arith, ltb-true}
use Rattle.std.specs.Prelude.{slice_get}
use Rattle.std.proofs.lemmas.Bool.{cases_eq}
use Rattle.std.proofs.lemmas.Option.{slice_get_within}
use Rattle.twe_base.specs.declared.place.Place.{Place}
use Rattle.effect_sets.specs.declared.effects.Summary.{Summary}
use Rattle.twe_base.specs.Limits.{Bounds}
use Rattle.twe_base.specs.declared.fault.FaultKind.TheVariants.{TaskLimit}
use Rattle.seg_journal.specs.declared.journal.End.{End}
use Rattle.seg_journal.specs.declared.journal.End.TheVariants as ends
use Rattle.seg_journal.specs.declared.moves.Kind.TheVariants.{Run}
use Rattle.seg_journal.specs.declared.moves.Move.{Move}
use Rattle.twe_program.specs.Program.{Program}
use Rattle.twe_program.specs.WellFormed.{IsWellFormed}
use Rattle.seg_meaning.specs.declared.frame.Frame.{Frame}
use Rattle.seg_meaning.specs.declared.stop.Stop.{Stop}
use Rattle.seg_meaning.specs.declared.stop.Stop.TheVariants as stops
use Rattle.seg_meaning.specs.Access.{Access, Agrees, after}
use Rattle.seg_meaning.specs.Segment.{Stopped, segment}
use Rattle.machine_state.specs.declared.state.State.{State}
use Rattle.machine_state.specs.declared.state.TaskRow.{TaskRow}
use Rattle.machine_state.specs.declared.state.TaskStatus.{TaskStatus}
use Rattle.machine_state.specs.declared.state.TaskStatus.TheVariants as status
use Rattle.machine_state.specs.Changes.{ChangesAsSegment, LeavesAlone, asked_by, made_by, next_segment}
use Rattle.machine_state.specs.Legal.{MayRun}
use Rattle.machine_state.specs.Moves.{new_row, parent_of, ready_frame, result_by_kind}
use Rattle.machine_state.specs.Rows.{HasStatus, IsRow, LinksAgree, row_awaited}
use Rattle.machine_state.specs.Runs.{IsReached}
use Rattle.machine_state.proofs.tasks.DoneStays.{value_stays}
use Rattle.machine_state.proofs.tasks.LeftAlone.{moves_leave_alone}
use Rattle.machine_state.proofs.lists.Places.{below_there, got_one}
use Rattle.machine_state.proofs.standing.ReachedStands.{reached_stands}
use Rattle.machine_state.proofs.standing.Standing.{Stands}
use Rattle.isolation_laws.specs.Conflicts.{MoversApart}
use Rattle.floor_laws.specs.declared.rule.view.HeldTurn.{HeldTurn}
use Rattle.floor_laws.specs.declared.rule.view.OpenSegment.{OpenSegment}
use Rattle.floor_laws.specs.declared.rule.view.Phase.{Phase}
use Rattle.floor_laws.specs.declared.rule.view.Phase.TheVariants.{Absent, Made, Running, Waits, Done, Faulted}
use Rattle.floor_laws.specs.rule.Floors.{Floor, Home, Away, Empty, Holds, TurnWord, Free, Taken, New, put, put_turn}
use Rattle.floor_laws.specs.rule.Fitting.{FloorFits, FactsHold, FreePhasesAreLast, HomeFits, IsMade, IsUnheld, OneHolder, OthersHold, PhaseFits, PhasesAreKnown, ReadsHold, RowIs, RowsAreKnown, SegmentsAreOpen, TurnFits, Turns, WrittenHold}
use Rattle.floor_laws.specs.rule.Rows.{phase_of, slot_of, unmarked}
use Rattle.floor_laws.specs.rule.Steps.{MayCommit, after_entry, end_after, first_turn, row_after, row_with_child, without_child}
use Rattle.floor_laws.specs.rule.Touches.{accesses_of}
use Rattle.floor_laws.proofs.rule.Puts.{none_some, put_all, put_was, some_one}
use Rattle.floor_laws.proofs.rule.RunLemmas.{Runs, open_still}
use Rattle.floor_laws.proofs.rule.TurnLemmas.{one_holder_put, phases_put, rows_put, turn_fits_else, turn_fits_replaced, turn_here, turn_was, turns_elsewhere}
use Rattle.floor_laws.proofs.rule.AccessLemmas.{after_length}
use Rattle.floor_laws.proofs.rule.SegmentLemmas.{hand_reads, open_accesses, others_left, reads_left, runs_of, written_left}
use Rattle.floor_laws.proofs.rule.TurnSteps.{alone, held_not_free, home_else, homes_replaced}
use Rattle.floor_laws.proofs.rule.EntryLemmas.{Stays, child_next, end_next, row_next, stays}

-- nothing stands in the phase word of a task that is not made
pub unmade_absent : (st : State) (u : ℕ) (phase : Phase) → length st.tasks ≤ u → PhaseFits st u phase → phase ≡ Absent
unmade_absent st u Absent past fits = refl
unmade_absent st u Made past fits = absurd (omega (arith, past, fits))
unmade_absent st u Running past fits = absurd (omega (arith, past, fits))
unmade_absent st u (Waits on) past fits = let below = slice_get_within st.tasks u fits.row fits.there in absurd (omega (arith, past, below))
unmade_absent st u Done past fits = let below = slice_get_within st.tasks u fits.0 fits.1 in absurd (omega (arith, past, below))
unmade_absent st u Faulted past fits = let below = slice_get_within st.tasks u fits.0 fits.1 in absurd (omega (arith, past, below))

-- the turn word of a task that is not made is new
unmade_new : (st : State) (held : Turns) (workers : ℕ → ℕ) (u : ℕ) (word : TurnWord) → length st.tasks ≤ u → IsUnheld held u → TurnFits st held workers u word → word ≡ New
unmade_new st held workers u Free past none fits = absurd (omega (arith, past, fits.0))
unmade_new st held workers u (Taken worker) past none fits = absurd (none_some (sym (none fits.by.seat) ∙ fits.by.has))
unmade_new st held workers u New past none fits = refl

-- The state after an entry of t, as far as the floor has to fit it.
record Follows (st after : State) (t : ℕ) : Type 0 where
  stays : (u : ℕ) (row : TaskRow) → u ≢ t → IsRow st u row → Stays after u row
  grows : length st.tasks ≤ length after.tasks

module _ (st after : State) (t : ℕ) (follows : Follows st after t) where
  status_later : (u : ℕ) (to : TaskStatus) → u ≢ t → HasStatus st u to → HasStatus after u to
  status_later u to other has =
      let now = follows.stays u has.0 other has.1 in
      (now.now, now.there, ap (λ (r : TaskRow). r.status) now.same ∙ has.2)

  made_later : (u : ℕ) → IsMade st u → IsMade after u
  made_later u made = let grows = follows.grows in omega (arith, grows, made)

  phase_later : (u : ℕ) (phase : Phase) → u ≢ t → PhaseFits st u phase → PhaseFits after u phase
  phase_later u Absent other fits = tt
  phase_later u Made other fits = made_later u fits
  phase_later u Running other fits = made_later u fits
  phase_later u (Waits on) other fits =
      let now = follows.stays u fits.row other fits.there in
      record { row = now.now; there = now.there; enabled = ap (λ (r : TaskRow). r.status) now.same ∙ fits.enabled; on = ap (λ (r : TaskRow). row_awaited r.frame.next) now.same ∙ fits.on }
  phase_later u Done other fits = status_later u status.Done other fits
  phase_later u Faulted other fits = status_later u status.Faulted other fits

  row_later : (u : ℕ) (known : TaskRow) → u ≢ t → RowIs st u known → RowIs after u known
  row_later u known other is =
      let now = follows.stays u is.row other is.there in
      record { row = now.now; there = now.there; same = now.same ∙ is.same }

  turn_later : (held : Turns) (workers : ℕ → ℕ) (u : ℕ) (word : TurnWord) → (length st.tasks ≤ u → length after.tasks ≤ u) → TurnFits st held workers u word → TurnFits after held workers u word
  turn_later held workers u Free still fits = (made_later u fits.0, fits.1)
  turn_later held workers u (Taken worker) still fits = fits
  turn_later held workers u New still (inl new) = inl (still new.0, new.1)
  turn_later held workers u New still (inr first) = inr first

  home_later : (held : Turns) (u : ℕ) (home : Home) → (length st.tasks ≤ u → length after.tasks ≤ u) → (IsUnheld held u → u ≢ t) → HomeFits st held u home → HomeFits after held u home
  home_later held u Away still other fits = fits
  home_later held u Empty still other fits = still fits
  home_later held u (Holds slot) still other fits =
      let now = follows.stays u fits.1.row (other fits.0) fits.1.there in
      (fits.0, record { row = now.now; there = now.there; same = fits.1.same ∙ ap slot_of (sym now.same) })

  -- the phase of another made task is still that of its row
  last_later : (phases : ℕ → Phase) (u : ℕ) (row : TaskRow) → u ≢ t → IsMade st u → ((before : TaskRow) → IsRow st u before → phases u ≡ phase_of before) → IsRow after u row → phases u ≡ phase_of row
  last_later phases u row other made last there =
      let before = below_there st.tasks u made in
      let now = follows.stays u before.0 other before.1 in
      let one : now.now ≡ row = got_one (slice_get after.tasks u) now.there there in
      last before.0 before.1 ∙ (ap phase_of (sym now.same) ∙ ap phase_of one)

module _ (p : Program) (well : IsWellFormed p) (lim : Bounds) (st : State) (reached : IsReached p lim st) (apart : MoversApart p st) (f : Floor) (fits : FloorFits p st f)
    (i t : ℕ) (turn : HeldTurn) (frame : Frame) (stop : Stop) (may : MayCommit p f i t turn frame stop) where
  stands : Stands p lim st
  stands = reached_stands p lim st well reached

  agree : LinksAgree st
  agree = stands.links

  pub running : Runs st t turn may.ready
  running = runs_of p st f fits agree apart i t turn may.ready may.has may.may

  abbrev row : TaskRow
  row = running.row

  there : IsRow st t running.row
  there = running.there

  below : t < length st.tasks
  below = slice_get_within st.tasks t running.row running.there

  abbrev open_now : List Access
  open_now = open_accesses f i

  abbrev cells_left : List ℤ
  cells_left = after st.cells (open_accesses f i)

  abbrev left : Stopped
  left = record { frame = frame; cells = after st.cells may.accesses; accesses = may.accesses; stop = stop }

  agrees : Agrees st.cells may.accesses
  agrees = may.touches.agree st.cells stands.cells (hand_reads p st f fits agree apart i t turn may.ready may.has may.may may.own)

  pub segment_is : segment p (ready_frame st.tasks running.row.frame) st.cells ≡ left
  segment_is = ap (λ (fr : Frame). segment p fr st.cells) (sym running.frame) ∙ may.means st.cells agrees

  abbrev next : State
  next = (result_by_kind p lim st Run t).0

  abbrev move : Move
  move = record { kind = Run; task = t }

  alone_law : LeavesAlone p st next move (result_by_kind p lim st Run t).1
  alone_law = moves_leave_alone p lim st move well reached running.may

  changes : ChangesAsSegment st next (next_segment p st running.row)
  changes = alone_law.results running.row running.there

  cells_are : next.cells ≡ cells_left
  cells_are = changes.cells ∙ (ap (λ (s : Stopped). s.cells) segment_is ∙ may.touches.same st.cells stands.cells (hand_reads p st f fits agree apart i t turn may.ready may.has may.may may.own))

  pub prints_are : (result_by_kind p lim st Run t).0.prints ≡ st.prints ++ frame.prints
  prints_are = changes.prints ∙ ap (λ (s : Stopped). st.prints ++ s.frame.prints) segment_is

  asked_is : next.asked ≡ f.asked + asked_by stop
  asked_is = changes.asked ∙ (ap (λ (s : Stopped). st.asked + asked_by s.stop) segment_is ∙ ap (λ (n : ℕ). n + asked_by stop) (sym fits.asked))

  pub end_is : (result_by_kind p lim st Run t).1 ≡ end_after lim f.asked stop
  end_is = end_next p lim st t running.row running.there below left segment_is ∙ ap (λ (n : ℕ). end_after lim n stop) (sym fits.asked)

  pub may_move : MayRun st t
  may_move = running.may

  follows : Follows st next t
  follows = record {
    stays = λ u r other here. stays p lim st t u r other here;
    grows = let grows = alone_law.tasks in omega (arith, grows);
  }

  -- The turn with the new row.
  abbrev new : HeldTurn
  new = record turn { row = row_after lim f.asked turn.row frame stop }

  abbrev set : Turns
  set = put_turn f.held i t (Some new)

  row_after_same : (a b : TaskRow) → unmarked a ≡ b → (s : Stop) → unmarked (row_after lim st.asked a frame s) ≡ row_after lim st.asked b frame s
  row_after_same a b same s = sym (unmarked_after a s) ∙ ap (λ (r : TaskRow). row_after lim st.asked r frame s) same
    where
      unmarked_by : (r : TaskRow) (b : Bool) (going stopped : TaskRow) → cond {A = TaskRow} b (unmarked going) (unmarked stopped) ≡ unmarked (cond {A = TaskRow} b going stopped)
      unmarked_by r true going stopped = refl
      unmarked_by r false going stopped = refl

      unmarked_after : (r : TaskRow) (s : Stop) → row_after lim st.asked (unmarked r) frame s ≡ unmarked (row_after lim st.asked r frame s)
      unmarked_after r (stops.Make child args effects spawned future place) = unmarked_by r (nat_lt (st.asked + 1) lim.tasks) _ _
      unmarked_after r (stops.Waits on) = refl
      unmarked_after r (stops.Joins on) = refl
      unmarked_after r (stops.Done value) = refl
      unmarked_after r (stops.Fault kind place) = refl

  own_row : RowIs next t new.row
  own_row = record {
    row = row_after lim st.asked running.row frame stop;
    there = row_next p lim st t running.row running.there below left segment_is;
    same = row_after_same running.row turn.row running.same stop ∙ ap (λ (n : ℕ). row_after lim n turn.row frame stop) (sym fits.asked);
  }

  only : (j : ℕ) (other : HeldTurn) → f.held j t ≡ Some other → j ≡ i
  only = alone p st f fits i t turn new may.has refl

  one_set : OneHolder set
  one_set = one_holder_put f.held i t (Some new) fits.one_holder only

  rows_set : RowsAreKnown next set
  rows_set j u h at =
      elim (turn_was f.held i t (Some new) j u h at) [
        | inl here ↦
            subst (λ (n : ℕ). RowIs next n h.row) (sym here.1)
            (subst (λ (x : HeldTurn). RowIs next t x.row) (some_one here.2) own_row)
        | inr old ↦
            let other : u ≢ t = λ same. old.0 (only j h (ap (f.held j) (sym same) ∙ old.1)) same in
            row_later st next t follows u h.row other (fits.rows j u h old.1)
      ]

  turns_set : (u : ℕ) → (length st.tasks ≤ u → length next.tasks ≤ u) → TurnFits next set f.workers u (f.turns u)
  turns_set u still = turn_later st next t follows set f.workers u (f.turns u) still (turn_fits_replaced f.held i t turn new may.has refl fits.one_holder st f.workers u (f.turns u) (fits.turns u))

  not_own : (u : ℕ) → IsUnheld set u → u ≢ t
  not_own u none same = none_some (sym (none i) ∙ (ap (set i) same ∙ turn_here f.held i t (Some new)))

  homes_set : (u : ℕ) → (length st.tasks ≤ u → length next.tasks ≤ u) → HomeFits next set u (f.homes u)
  homes_set u still = home_later st next t follows set u (f.homes u) still (not_own u) (homes_replaced p st f fits i t turn new may.has refl u (f.homes u) (fits.homes u))

  phases_next : (u : ℕ) → PhaseFits next u (f.phases u)
  phases_next u =
      ⊎_elim
      (λ (same : u ≡ t).
      let runs_now : f.phases u ≡ Running = ap f.phases same ∙ (fits.known_phases i t turn may.has ∙ may.running) in
      subst (PhaseFits next u) (sym runs_now) (made_later st next t follows u (subst (IsMade st) (sym same) below)))
      (λ (other : u ≢ t). phase_later st next t follows u (f.phases u) other (fits.phases u))
      (cases_eq u t)

  free_next : FreePhasesAreLast next f.turns f.phases
  free_next u r free here =
      let made : IsMade st u × IsUnheld f.held u = subst (TurnFits st f.held f.workers u) free (fits.turns u) in
      let other : u ≢ t = λ same. held_not_free p st f fits i t turn new may.has refl (ap f.turns (sym same) ∙ free) in
      last_later st next t follows f.phases u r other made.0 (λ before was. fits.free_phases u before free was) here

  known_set : PhasesAreKnown set f.phases
  known_set = phases_put f.held i t (Some new) f.phases fits.known_phases (λ other is. fits.known_phases i t turn may.has ∙ ap (λ (h : HeldTurn). h.phase) (some_one is))

  still_open : (j : ℕ) (s : OpenSegment) → put f.segments i None j ≡ Some s → (j ≢ i) × (f.segments j ≡ Some s)
  still_open j s is =
      ⊎_elim
      (λ (here : (j ≡ i) × (None ≡ Some s)). absurd (none_some here.1))
      (λ (else : (j ≢ i) × (f.segments j ≡ Some s)). else)
      (put_was f.segments i j None (Some s) is)

  -- the segments of other seats stay open, if their turns stay
  segments_by : (held : Turns) → ((j : ℕ) → j ≢ i → held j ≡ f.held j) → SegmentsAreOpen p held f.facts (put f.segments i None)
  segments_by held same j s is =
      let was = still_open j s is in
      open_still p (f.held j) (held j) (f.facts j) (f.facts j) s.task (accesses_of s.touches)
      (λ old at. (old, ap (λ (g : ℕ → Option HeldTurn). g s.task) (same j was.0) ∙ at, refl, refl))
      (λ fact among. among)
      (fits.segments j s was.1)

  reads_next : ReadsHold next.cells (put f.segments i None)
  reads_next = subst (λ (cells : List ℤ). ReadsHold cells (put f.segments i None)) (sym cells_are) (reads_left p st f fits agree apart i t turn may.ready may.has may.may may.own)

  written_next : WrittenHold next.cells f.cells (put f.segments i None)
  written_next = subst (λ (cells : List ℤ). WrittenHold cells f.cells (put f.segments i None)) (sym cells_are) (written_left p st f fits agree apart i t turn may.ready may.has may.may may.own)

  others_next : OthersHold next.cells f.cells (put f.segments i None)
  others_next = subst (λ (cells : List ℤ). OthersHold cells f.cells (put f.segments i None)) (sym cells_are) (others_left p st f fits agree apart i t turn may.ready may.has may.may may.own)

  size_next : length f.cells ≡ length next.cells
  size_next = fits.size ∙ (sym (after_length st.cells (open_accesses f i)) ∙ ap length (sym cells_are))

  facts_next : FactsHold next f.facts
  facts_next j fact among = value_stays p lim st Run t fact.task fact.value running.may (fits.facts j fact among)

  -- An entry that makes no task.
  entry_alone : made_by (end_after lim f.asked stop) ≡ 0 → FloorFits p next (without_child lim f i t turn frame stop)
  entry_alone none =
      let count : length next.tasks ≡ length st.tasks + 0 = alone_law.tasks ∙ ap (λ (n : ℕ). length st.tasks + n) (ap made_by end_is ∙ none) in
      let still : (u : ℕ) → length st.tasks ≤ u → length next.tasks ≤ u = λ u past. omega (arith, count, past) in
      record {
        asked = sym asked_is;
        one_holder = one_set;
        turns = λ u. turns_set u (still u);
        rows = rows_set;
        homes = λ u. homes_set u (still u);
        phases = phases_next;
        free_phases = free_next;
        known_phases = known_set;
        segments = segments_by set (λ j other. turns_elsewhere f.held i t (Some new) j other);
        reads = reads_next;
        size = size_next;
        written = written_next;
        others = others_next;
        facts = facts_next;
      }

  -- An entry that makes the task c.
  module _ (c : ℕ) (child : TaskRow) (number : c ≡ length st.tasks) (count : length next.tasks ≡ length st.tasks + 1) (child_there : IsRow next c child) (unjoined : unmarked child ≡ child) where
    abbrev first : HeldTurn
    first = first_turn child

    abbrev both : Turns
    both = put_turn set i c (Some first)

    past : length st.tasks ≤ c
    past = omega (arith, number)

    -- nobody had its turn
    unheld_before : (j : ℕ) (h : HeldTurn) → f.held j c ≡ Some h → ⊥
    unheld_before j h at =
        let known = fits.rows j c h at in
        let made = slice_get_within st.tasks c known.row known.there in
        omega (arith, past, made)

    unheld_set : (j : ℕ) (h : HeldTurn) → set j c ≡ Some h → ⊥
    unheld_set j h at =
        elim (turn_was f.held i t (Some new) j c h at) [
          | inl here ↦ let same = here.1 in omega (arith, past, below, same)
          | inr old ↦ unheld_before j h old.1
        ]

    still : (u : ℕ) → u ≢ c → length st.tasks ≤ u → length next.tasks ≤ u
    still u other after_all = omega (arith, count, number, after_all, other)

    none_held : IsUnheld f.held c
    none_held j = none_of (f.held j c) (unheld_before j)
      where
        none_of : (o : Option HeldTurn) → ((h : HeldTurn) → o ≡ Some h → ⊥) → o ≡ None
        none_of None never = refl
        none_of (Some h) never = absurd (never h refl)

    child_turn : TurnFits next both f.workers c (f.turns c)
    child_turn =
        subst (TurnFits next both f.workers c) (sym (unmade_new st f.held f.workers c (f.turns c) past none_held (fits.turns c)))
        (inr (record { by = record { seat = i; turn = first; has = turn_here set i c (Some first) }; first = refl }))

    entry_with : FloorFits p next (row_with_child (without_child lim f i t turn frame stop) i c child)
    entry_with = record {
      asked = sym asked_is;
      one_holder = one_holder_put set i c (Some first) one_set (λ j h at. absurd (unheld_set j h at));
      turns = λ u.
          ⊎_elim
          (λ (same : u ≡ c). subst (λ (n : ℕ). TurnFits next both f.workers n (f.turns n)) (sym same) child_turn)
          (λ (other : u ≢ c). turn_fits_else set i c (Some first) next f.workers u (f.turns u) other (turns_set u (still u other)))
          (cases_eq u c);
      rows = rows_put set i c (Some first) next rows_set (λ h is. record { row = child; there = child_there; same = unjoined ∙ ap (λ (x : HeldTurn). x.row) (some_one is) });
      homes = put_all (HomeFits next both) f.homes c Away
          (record { seat = i; turn = first; has = turn_here set i c (Some first) })
          (λ u other. home_else next set i c (Some first) u (f.homes u) other (homes_set u (still u other)));
      phases = phases_next;
      free_phases = free_next;
      known_phases = phases_put set i c (Some first) f.phases known_set (λ h is. unmade_absent st c (f.phases c) past (fits.phases c) ∙ ap (λ (x : HeldTurn). x.phase) (some_one is));
      segments = segments_by both (λ j other. turns_elsewhere set i c (Some first) j other ∙ turns_elsewhere f.held i t (Some new) j other);
      reads = reads_next;
      size = size_next;
      written = written_next;
      others = others_next;
      facts = facts_next;
    }

-- The entry, by how its segment stopped.
module _ (p : Program) (well : IsWellFormed p) (lim : Bounds) (st : State) (reached : IsReached p lim st) (apart : MoversApart p st) (f : Floor) (fits : FloorFits p st f) (i t : ℕ) (turn : HeldTurn) (frame : Frame) where
  making : (child : Frame) (args : List ℤ) (effects : Summary) (spawned : Bool) (future : ℕ) (place : Place) (may : MayCommit p f i t turn frame (stops.Make child args effects spawned future place))
      → (b : Bool) → nat_lt (f.asked + 1) lim.tasks ≡ b
      → FloorFits p (result_by_kind p lim st Run t).0
      (cond {A = Floor} b (row_with_child (without_child lim f i t turn frame (stops.Make child args effects spawned future place)) i (f.asked + 1) (new_row lim (f.asked + 1) (parent_of t spawned) child args effects))
      (without_child lim f i t turn frame (stops.Make child args effects spawned future place)))
  making child args effects spawned future place may true is =
      let stop = stops.Make child args effects spawned future place in
      let asked : f.asked ≡ st.asked = fits.asked in
      let is_st : nat_lt (st.asked + 1) lim.tasks ≡ true = ap (λ (n : ℕ). nat_lt (n + 1) lim.tasks) (sym asked) ∙ is in
      let number_st : st.asked + 1 ≡ length st.tasks = (reached_stands p lim st well reached).number (ltb-true (st.asked + 1) lim.tasks is_st) in
      let number : f.asked + 1 ≡ length st.tasks = ap (λ (n : ℕ). n + 1) asked ∙ number_st in
      let made : made_by (end_after lim f.asked stop) ≡ 1 = ap (λ (b : Bool). made_by (cond {A = End} b (ends.Made (f.asked + 1)) (ends.Fault TaskLimit place))) is in
      let row = running p well lim st reached apart f fits i t turn frame stop may in
      let segment_now = segment_is p well lim st reached apart f fits i t turn frame stop may in
      let law = alone_law p well lim st reached apart f fits i t turn frame stop may in
      let count : length (result_by_kind p lim st Run t).0.tasks ≡ length st.tasks + 1 =
      law.tasks ∙ ap (λ (n : ℕ). length st.tasks + n) (ap made_by (end_is p well lim st reached apart f fits i t turn frame stop may) ∙ made) in
      let here : IsRow (result_by_kind p lim st Run t).0 (st.asked + 1) (new_row lim (st.asked + 1) (parent_of t spawned) child args effects) =
      child_next p lim st t row.row row.there (slice_get_within st.tasks t row.row row.there) (left p well lim st reached apart f fits i t turn frame stop may) segment_now child args effects spawned future place refl is_st number_st in
      entry_with p well lim st reached apart f fits i t turn frame stop may (f.asked + 1) (new_row lim (f.asked + 1) (parent_of t spawned) child args effects) number count
      (subst (λ (n : ℕ). IsRow (result_by_kind p lim st Run t).0 (n + 1) (new_row lim (n + 1) (parent_of t spawned) child args effects)) (sym asked) here)
      refl
  making child args effects spawned future place may false is =
      let stop = stops.Make child args effects spawned future place in
      let none : made_by (end_after lim f.asked stop) ≡ 0 = ap (λ (b : Bool). made_by (cond {A = End} b (ends.Made (f.asked + 1)) (ends.Fault TaskLimit place))) is in
      entry_alone p well lim st reached apart f fits i t turn frame stop may none

  pub committing : (stop : Stop) → MayCommit p f i t turn frame stop → FloorFits p (result_by_kind p lim st Run t).0 (after_entry lim f i t turn frame stop)
  committing (stops.Make child args effects spawned future place) may = making child args effects spawned future place may (nat_lt (f.asked + 1) lim.tasks) refl
  committing (stops.Waits on) may = entry_alone p well lim st reached apart f fits i t turn frame (stops.Waits on) may refl
  committing (stops.Joins on) may = entry_alone p well lim st reached apart f fits i t turn frame (stops.Joins on) may refl
  committing (stops.Done value) may = entry_alone p well lim st reached apart f fits i t turn frame (stops.Done value) may refl
  committing (stops.Fault kind place) may = entry_alone p well lim st reached apart f fits i t turn frame (stops.Fault kind place) may refl

-- What a seat may draw for a task is one entry: its segment leaves one frame and one stop.
pub record IsOneEntry (frame other : Frame) (stop last : Stop) : Type 0 where
  pub frames : frame ≡ other
  pub stops : stop ≡ last

pub one_entry : (p : Program) (well : IsWellFormed p) (lim : Bounds) (st : State) (reached : IsReached p lim st) (apart : MoversApart p st) (f : Floor) (fits : FloorFits p st f) (i t : ℕ) (turn : HeldTurn) (frame other : Frame) (stop last : Stop)
    → MayCommit p f i t turn frame stop → MayCommit p f i t turn other last → IsOneEntry frame other stop last
one_entry p well lim st reached apart f fits i t turn frame other stop last may may_other =
    let a = running p well lim st reached apart f fits i t turn frame stop may in
    let b = running p well lim st reached apart f fits i t turn other last may_other in
    let row : a.row ≡ b.row = got_one (slice_get st.tasks t) a.there b.there in
    let one = segment_is p well lim st reached apart f fits i t turn frame stop may in
    let two = segment_is p well lim st reached apart f fits i t turn other last may_other in
    let same = sym one ∙ (ap (λ (r : TaskRow). segment p (ready_frame st.tasks r.frame) st.cells) row ∙ two) in
    record { frames = ap (λ (s : Stopped). s.frame) same; stops = ap (λ (s : Stopped). s.stop) same }
