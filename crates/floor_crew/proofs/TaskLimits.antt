-- A lower limit on tasks changes nothing of a run as long as fewer tasks were asked for.
use Rattle.std.proofs.Common.{◌≡◌, ◌≤◌, ◌<◌, ◌+◌, ℕ, ℤ, Bool, true, false, cond, nat_lt, List, [], ◌∷◌, Option, None, Some, arith, refl, ap, subst, ◌∙◌, slice_get}
use Rattle.std.proofs.lemmas.Bool.{ltb-false}
use Rattle.effect_sets.specs.declared.effects.Summary.{Summary}
use Rattle.seg_meaning.specs.declared.frame.Frame.{Frame}
use Rattle.seg_meaning.specs.declared.stop.Stop.{Stop}
use Rattle.seg_meaning.specs.declared.stop.Stop.TheVariants as stops
use Rattle.seg_meaning.specs.Segment.{segment}
use Rattle.seg_journal.specs.declared.journal.End.{End}
use Rattle.seg_journal.specs.declared.journal.End.TheVariants as ends
use Rattle.seg_journal.specs.declared.journal.Entry.{Entry}
use Rattle.seg_journal.specs.declared.moves.Kind.{Kind}
use Rattle.seg_journal.specs.declared.moves.Kind.TheVariants.{Admit, Run}
use Rattle.twe_base.specs.declared.fault.FaultKind.TheVariants.{TaskLimit}
use Rattle.twe_base.specs.declared.place.Place.{Place}
use Rattle.twe_base.specs.Limits.{Bounds}
use Rattle.twe_program.specs.Program.{Program}
use Rattle.wait_graph.specs.Link.{link_of}
use Rattle.machine_state.specs.declared.state.State.{State}
use Rattle.machine_state.specs.declared.state.TaskRow.{TaskRow}
use Rattle.machine_state.specs.Legal.{MayMove}
use Rattle.machine_state.specs.Moves.{admitted, joined_child, move_result, ran, ready_frame, result_by_kind, start_of, state_after_asking, state_after_fault, state_after_join, state_after_make, stop_result, stopped_frame}
use Rattle.machine_state.specs.Runs.{IsRun, LegalFrom, replayed}

-- the limits with this fuel and this number of tasks
abbrev bounded : ℕ → ℕ → Bounds
bounded fuel tasks = record { fuel = fuel; tasks = tasks }

module _ (fuel low high : ℕ) (st : State) (t : ℕ) (row : TaskRow) (frame : Frame) where
  -- a make has the same end if its number is below both limits
  made_same : (b c : Bool) → nat_lt (st.asked + 1) low ≡ b → nat_lt (st.asked + 1) high ≡ c → st.asked + 1 < low → st.asked + 1 < high
      → (made faulted : State × End) → cond {A = State × End} b made faulted ≡ cond {A = State × End} c made faulted
  made_same true true is is' small small' made faulted = refl
  made_same false false is is' small small' made faulted = refl
  made_same true false is is' small small' made faulted =
      let past : high ≤ st.asked + 1 = ltb-false (st.asked + 1) high is' in absurd (omega (arith, past, small'))
  made_same false true is is' small small' made faulted =
      let past : low ≤ st.asked + 1 = ltb-false (st.asked + 1) low is in absurd (omega (arith, past, small))

  -- one task more was asked for at a make, whatever its end
  made_asks : (b : Bool) (child : Frame) (args : List ℤ) (effects : Summary) (spawned : Bool) (future : ℕ) (place : Place)
      → (cond {A = State × End} b (state_after_make (bounded fuel low) st t row frame future spawned child args effects, ends.Made (st.asked + 1))
      (state_after_fault (state_after_asking st) t row (stopped_frame frame) TaskLimit place, ends.Fault TaskLimit place)).0.asked ≡ st.asked + 1
  made_asks true child args effects spawned future place = refl
  made_asks false child args effects spawned future place = refl

  stop_same : (stop : Stop) → (stop_result (bounded fuel low) st t row frame stop).0.asked < low → (stop_result (bounded fuel low) st t row frame stop).0.asked < high
      → stop_result (bounded fuel low) st t row frame stop ≡ stop_result (bounded fuel high) st t row frame stop
  stop_same (stops.Make child args effects spawned future place) small small' =
      let asks = made_asks (nat_lt (st.asked + 1) low) child args effects spawned future place in
      made_same (nat_lt (st.asked + 1) low) (nat_lt (st.asked + 1) high) refl refl (omega (arith, asks, small)) (omega (arith, asks, small'))
      (state_after_make (bounded fuel low) st t row frame future spawned child args effects, ends.Made (st.asked + 1))
      (state_after_fault (state_after_asking st) t row (stopped_frame frame) TaskLimit place, ends.Fault TaskLimit place)
  stop_same (stops.Waits on) small small' = refl
  stop_same (stops.Joins on) small small' = refl
  stop_same (stops.Done value) small small' = refl
  stop_same (stops.Fault kind place) small small' = refl

  -- no end takes back that a task was asked for
  stop_asks : (stop : Stop) → st.asked ≤ (stop_result (bounded fuel low) st t row frame stop).0.asked
  stop_asks (stops.Make child args effects spawned future place) =
      let asks = made_asks (nat_lt (st.asked + 1) low) child args effects spawned future place in omega (arith, asks)
  stop_asks (stops.Waits on) = omega arith
  stop_asks (stops.Joins on) = omega arith
  stop_asks (stops.Done value) = omega arith
  stop_asks (stops.Fault kind place) = omega arith

-- as many tasks were asked for after a join
join_asks : (st : State) (child : Option ℕ) → (state_after_join st child).asked ≡ st.asked
join_asks st None = refl
join_asks st (Some c) = refl

module _ (p : Program) (fuel low high : ℕ) where
  -- the state from which a segment of t is settled
  abbrev settled_from : State → ℕ → TaskRow → State
  settled_from st t row =
      state_after_join (record st { cells = (segment p (ready_frame st.tasks row.frame) st.cells).cells }) (joined_child row.out (link_of st.links t).waits)

  ran_same : (st : State) (t : ℕ) (found : Option TaskRow) → (ran p (bounded fuel low) st t found).0.asked < low → (ran p (bounded fuel low) st t found).0.asked < high
      → ran p (bounded fuel low) st t found ≡ ran p (bounded fuel high) st t found
  ran_same st t None small small' = refl
  ran_same st t (Some row) small small' =
      let left = segment p (ready_frame st.tasks row.frame) st.cells in stop_same fuel low high (settled_from st t row) t row left.frame left.stop small small'

  ran_asks : (st : State) (t : ℕ) (found : Option TaskRow) → st.asked ≤ (ran p (bounded fuel low) st t found).0.asked
  ran_asks st t None = omega arith
  ran_asks st t (Some row) =
      let left = segment p (ready_frame st.tasks row.frame) st.cells in
      let joined = join_asks (record st { cells = left.cells }) (joined_child row.out (link_of st.links t).waits) in
      let more = stop_asks fuel low high (settled_from st t row) t row left.frame left.stop in
      omega (arith, joined, more)

  admitted_asks : (st : State) (t : ℕ) (found : Option TaskRow) → (admitted st t found).asked ≡ st.asked
  admitted_asks st t None = refl
  admitted_asks st t (Some row) = refl

  kind_same : (st : State) (kind : Kind) (t : ℕ) → (result_by_kind p (bounded fuel low) st kind t).0.asked < low → (result_by_kind p (bounded fuel low) st kind t).0.asked < high
      → result_by_kind p (bounded fuel low) st kind t ≡ result_by_kind p (bounded fuel high) st kind t
  kind_same st Admit t small small' = refl
  kind_same st Run t small small' = ran_same st t (slice_get st.tasks t) small small'

  kind_asks : (st : State) (kind : Kind) (t : ℕ) → st.asked ≤ (result_by_kind p (bounded fuel low) st kind t).0.asked
  kind_asks st Admit t = let same = admitted_asks st t (slice_get st.tasks t) in omega (arith, same)
  kind_asks st Run t = ran_asks st t (slice_get st.tasks t)

  replayed_asks : (entries : List Entry) (st : State) → st.asked ≤ (replayed p (bounded fuel low) st entries).asked
  replayed_asks [] st = omega arith
  replayed_asks (entry ∷ entries) st =
      let one = kind_asks st entry.mv.kind entry.mv.task in
      let others = replayed_asks entries (move_result p (bounded fuel low) st entry.mv).0 in
      omega (arith, one, others)

  -- entries under one limit are entries under another one, and lead to the same state
  entries_same : (entries : List Entry) (st : State) → LegalFrom p (bounded fuel low) st entries
      → (replayed p (bounded fuel low) st entries).asked < low → (replayed p (bounded fuel low) st entries).asked < high
      → LegalFrom p (bounded fuel high) st entries × (replayed p (bounded fuel low) st entries ≡ replayed p (bounded fuel high) st entries)
  entries_same [] st legal small small' = (tt, refl)
  entries_same (entry ∷ entries) st legal small small' =
      let next = move_result p (bounded fuel low) st entry.mv in
      let asks = replayed_asks entries next.0 in
      let same : next ≡ move_result p (bounded fuel high) st entry.mv
      = kind_same st entry.mv.kind entry.mv.task (omega (arith, asks, small)) (omega (arith, asks, small')) in
      let others = entries_same entries next.0 legal.2 small small' in (
        subst (λ (r : State × End). MayMove st entry.mv × (r.1 ≡ entry.end) × LegalFrom p (bounded fuel high) r.0 entries) same (legal.0, legal.1, others.0),
        others.1 ∙ ap (λ (r : State × End). replayed p (bounded fuel high) r.0 entries) same,
      )

  -- a run under one limit is a run under another one, if fewer tasks were asked for than both allow
  pub run_same : (journal : List Entry) (st : State) → st.asked < low → st.asked < high → IsRun p (bounded fuel low) journal st
      → IsRun p (bounded fuel high) journal st
  run_same journal st small small' run =
      let asked = ap (λ (s : State). s.asked) run.same in
      let both = entries_same journal (start_of p (bounded fuel low)) run.legal (omega (arith, asked, small)) (omega (arith, asked, small')) in
      record { legal = both.0; same = run.same ∙ both.1 }
