-- Which tasks are enabled after a legal move.
use Rattle.std.proofs.Common.{◌≡◌, ◌≢◌, ◌<◌, ◌≤◌, ◌+◌, ◌↔◌, ◌⊎◌, inl, inr, ℕ, ℤ, Bool, true, false, cond, List, length, length-set, Option, None, Some, nat_lt, refl, sym, ap, ◌∙◌, subst, arith}
use Rattle.std.specs.Prelude.{slice_get, slice_set}
use Rattle.std.proofs.lemmas.Bool.{cases_eq, cases_lt}
use Rattle.std.proofs.lemmas.Option.{slice_get_within}
use Rattle.twe_base.specs.declared.place.Place.{Place}
use Rattle.twe_base.specs.declared.fault.FaultKind.TheVariants.{TaskLimit}
use Rattle.twe_base.specs.Limits.{Bounds}
use Rattle.effect_sets.specs.declared.effects.Summary.{Summary}
use Rattle.seg_journal.specs.declared.journal.End.{End}
use Rattle.seg_journal.specs.declared.journal.End.TheVariants as ends
use Rattle.seg_journal.specs.declared.moves.Kind.{Kind}
use Rattle.seg_journal.specs.declared.moves.Kind.TheVariants.{Admit, Run}
use Rattle.twe_program.specs.Program.{Program}
use Rattle.twe_program.specs.WellFormed.{IsWellFormed}
use Rattle.seg_meaning.specs.declared.frame.Frame.{Frame}
use Rattle.seg_meaning.specs.declared.stop.Stop.{Stop}
use Rattle.seg_meaning.specs.declared.stop.Stop.TheVariants as stops
use Rattle.seg_meaning.specs.Segment.{Stopped, segment}
use Rattle.wait_graph.specs.declared.tasks.Link.{Link}
use Rattle.wait_graph.specs.Link.{link_of}
use Rattle.machine_state.specs.declared.state.State.{State}
use Rattle.machine_state.specs.declared.state.TaskRow.{TaskRow}
use Rattle.machine_state.specs.declared.state.TaskStatus.{TaskStatus}
use Rattle.machine_state.specs.declared.state.TaskStatus.TheVariants.{Done, Enabled, Faulted, Made}
use Rattle.machine_state.specs.Changes.{made_by}
use Rattle.machine_state.specs.Legal.{MayTake}
use Rattle.machine_state.specs.Moves.{admitted, admitted_row, done_row, faulted_row, going_row, joined_child, making_frame, new_row, parent_of, ran, ready_frame, result_by_kind, state_after_asking, state_after_fault, state_after_join, state_after_make, status_at_start, stop_result, stopped_frame}
use Rattle.machine_state.specs.Rows.{HasStatus, IsRow}
use Rattle.machine_state.proofs.lists.Places.{got_one, put_before, put_last, set_same}
use Rattle.machine_state.proofs.standing.Halfway.{halfway}
use Rattle.machine_state.proofs.standing.Standing.{Stands}
use Rattle.machine_state.proofs.tasks.LeftAlone.{left_alone}
use Rattle.machine_state.proofs.tasks.OtherTasks.{after, after_stands, other, status_back}
use Rattle.machine_state.proofs.weight.JoinedWeight.{length_joined}
use Rattle.isolation_laws.proofs.rows.LinksOfRows.{link_there}

-- the status of a task after a move of it with this end
abbrev pub status_after : End → TaskStatus
status_after ends.Admitted = Enabled
status_after (ends.Made child) = Enabled
status_after (ends.Waits on) = Enabled
status_after (ends.Joins on) = Enabled
status_after (ends.Done value) = Done
status_after (ends.Fault kind place) = Faulted

-- the row of a task that was made is that of a new one
abbrev pub IsNewRow : State → ℕ → Type 0
IsNewRow st c = (row : TaskRow) × IsRow st c row × (row.status ≡ status_at_start row.parent)

pub one_status : (st : State) (t : ℕ) (a b : TaskStatus) → HasStatus st t a → HasStatus st t b → a ≡ b
one_status st t a b one two = let same : one.0 ≡ two.0 = got_one (slice_get st.tasks t) one.1 two.1 in sym one.2 ∙ (ap (λ (r : TaskRow). r.status) same ∙ two.2)

-- What stands in the rows once the segment of t has stopped.

record StopsAs (st : State) (t : ℕ) (moved : State × End) : Type 0 where
  own : HasStatus moved.0 t (status_after moved.1)
  run : moved.1 ≢ ends.Admitted
  child : (c : ℕ) → moved.1 ≡ ends.Made c → c ≡ length st.tasks → IsNewRow moved.0 c

module _ (lim : Bounds) (st : State) (t : ℕ) (row : TaskRow) (here : IsRow st t row) (was : row.status ≡ Enabled) (frame : Frame) where
  made_stops : (b : Bool) (child : Frame) (args : List ℤ) (effects : Summary) (spawned : Bool) (future : ℕ) (place : Place)
      → StopsAs st t (cond {A = State × End} b (state_after_make lim st t row frame future spawned child args effects, ends.Made (st.asked + 1))
      (state_after_fault (state_after_asking st) t row (stopped_frame frame) TaskLimit place, ends.Fault TaskLimit place))
  made_stops true child args effects spawned future place =
      let going = going_row row (making_frame future spawned (st.asked + 1) frame) in
      let new = new_row lim (st.asked + 1) (parent_of t spawned) child args effects in
      record {
        own = (going, put_before (slice_set st.tasks t going) new t going (set_same st.tasks t row going here), was);
        run = λ same. cc (same);
        child = λ c is last. (new, put_last (slice_set st.tasks t going) new c (last ∙ sym (length-set st.tasks t going)), refl);
      }
  made_stops false child args effects spawned future place =
      let faulted = faulted_row row (stopped_frame frame) in
      record { own = (faulted, set_same st.tasks t row faulted here, refl); run = λ same. cc (same); child = λ c is last. absurd (cc (is)) }

  stop_stops : (stop : Stop) → StopsAs st t (stop_result lim st t row frame stop)
  stop_stops (stops.Make child args effects spawned future place) = made_stops (nat_lt (st.asked + 1) lim.tasks) child args effects spawned future place
  stop_stops (stops.Waits on) =
      let going = going_row row frame in
      record { own = (going, set_same st.tasks t row going here, was); run = λ same. cc (same); child = λ c is last. absurd (cc (is)) }
  stop_stops (stops.Joins on) =
      let going = going_row row frame in
      record { own = (going, set_same st.tasks t row going here, was); run = λ same. cc (same); child = λ c is last. absurd (cc (is)) }
  stop_stops (stops.Done value) =
      let done = done_row row frame value in
      record { own = (done, set_same st.tasks t row done here, refl); run = λ same. cc (same); child = λ c is last. absurd (cc (is)) }
  stop_stops (stops.Fault kind place) =
      let faulted = faulted_row row frame in
      record { own = (faulted, set_same st.tasks t row faulted here, refl); run = λ same. cc (same); child = λ c is last. absurd (cc (is)) }

ran_stops : (p : Program) (lim : Bounds) (st : State) (t : ℕ) → Stands p lim st → MayTake st Run t → (found : Option TaskRow) → slice_get st.tasks t ≡ found → StopsAs st t (ran p lim st t found)
ran_stops p lim st t stands may None is = absurd (cc (may.0.1, is))
ran_stops p lim st t stands may (Some row) is =
    let left : Stopped = segment p (ready_frame st.tasks row.frame) st.cells in
    let later : State = record st { cells = left.cells } in
    let child : Option ℕ = joined_child row.out (link_of st.links t).waits in
    let was : row.status ≡ Enabled = ap (λ (r : TaskRow). r.status) (got_one (slice_get st.tasks t) is may.0.1) ∙ may.0.2 in
    let stopped = stop_stops lim (state_after_join later child) t row (halfway p lim st stands t row is may.1).almost.own was left.frame left.stop in
    record { own = stopped.own; run = stopped.run; child = λ c made last. stopped.child c made (last ∙ sym (length_joined later child)) }

admitted_own : (st : State) (t : ℕ) → HasStatus st t Made → (found : Option TaskRow) → slice_get st.tasks t ≡ found → HasStatus (admitted st t found) t Enabled
admitted_own st t made None is = absurd (cc (made.1, is))
admitted_own st t made (Some row) is = (admitted_row row, set_same st.tasks t row (admitted_row row) is, refl)

-- Which tasks are enabled then.

abbrev pub EnabledIf : State → State → ℕ → Option ℕ → Type 0
EnabledIf st new c None = (u : ℕ) → HasStatus new u Enabled ↔ HasStatus st u Enabled
EnabledIf st new c (Some parent) = (u : ℕ) → HasStatus new u Enabled ↔ (HasStatus st u Enabled ⊎ (u ≡ c))

abbrev pub EnabledBy : State → State → ℕ → End → Type 0
EnabledBy st new t ends.Admitted = (u : ℕ) → HasStatus new u Enabled ↔ (HasStatus st u Enabled ⊎ (u ≡ t))
EnabledBy st new t (ends.Made c) = EnabledIf st new c (link_of new.links c).parent
EnabledBy st new t (ends.Waits on) = (u : ℕ) → HasStatus new u Enabled ↔ HasStatus st u Enabled
EnabledBy st new t (ends.Joins on) = (u : ℕ) → HasStatus new u Enabled ↔ HasStatus st u Enabled
EnabledBy st new t (ends.Done value) = (u : ℕ) → HasStatus new u Enabled ↔ (HasStatus st u Enabled × ¬ (u ≡ t))
EnabledBy st new t (ends.Fault kind place) = (u : ℕ) → HasStatus new u Enabled ↔ (HasStatus st u Enabled × ¬ (u ≡ t))

-- where an enabled task comes from
abbrev Comes : State → State → ℕ → ℕ → Type 0
Comes st new t u = (HasStatus st u Enabled × ¬ (u ≡ t)) ⊎ ((u ≡ t) ⊎ ((length st.tasks ≤ u) × (u < length new.tasks)))

module _ (p : Program) (lim : Bounds) (well : IsWellFormed p) (st : State) (kind : Kind) (t : ℕ) (may : MayTake st kind t) (stands : Stands p lim st) where
  abbrev new : State
  new = after p lim well st kind t may stands

  comes : (u : ℕ) → HasStatus new u Enabled → Comes st new t u
  comes u now = elim (cases_eq u t) [
    | inl same ↦ inr (inl same)
    | inr ne ↦ elim (cases_lt u (length st.tasks)) [
      | inl below ↦ inl (status_back p lim well st kind t may stands u Enabled ne below now, ne)
      | inr past ↦ inr (inr (past, slice_get_within new.tasks u now.0 now.1))
    ]
  ]

  stays : (u : ℕ) → ¬ (u ≡ t) → HasStatus st u Enabled → HasStatus new u Enabled
  stays u ne was = let same = other p lim well st kind t may stands u was.0 ne was.1 in (same.now, same.there, same.status ∙ was.2)

  there : (u : ℕ) → HasStatus st u Enabled → u < length st.tasks
  there u was = slice_get_within st.tasks u was.0 was.1

  module _ (end : End) (end_is : (result_by_kind p lim st kind t).1 ≡ end) where
    none_new : made_by end ≡ 0 → (u : ℕ) → length st.tasks ≤ u → ¬ (u < length new.tasks)
    none_new none u past below =
        let alone = left_alone p lim well st kind t may stands in
        let made = ap made_by end_is in
        omega (arith, past, below, alone.tasks, made, none)

    -- the task stays enabled, and no other comes
    none_changes : made_by end ≡ 0 → HasStatus st t Enabled → HasStatus new t Enabled → (u : ℕ) → HasStatus new u Enabled ↔ HasStatus st u Enabled
    none_changes none was now u = (
      λ h. elim (comes u h) [
        | inl old ↦ old.0
        | inr later ↦ elim later [ inl same ↦ subst (λ (x : ℕ). HasStatus st x Enabled) (sym same) was | inr made ↦ absurd (none_new none u made.0 made.1) ]
      ],
      λ h. elim (cases_eq u t) [ inl same ↦ subst (λ (x : ℕ). HasStatus new x Enabled) (sym same) now | inr ne ↦ stays u ne h ],
    )

    one_goes : made_by end ≡ 0 → (status : TaskStatus) → status ≢ Enabled → HasStatus new t status → (u : ℕ) → HasStatus new u Enabled ↔ (HasStatus st u Enabled × ¬ (u ≡ t))
    one_goes none status over now u = (
      λ h. elim (comes u h) [
        | inl old ↦ old
        | inr later ↦ elim later [
          | inl same ↦ absurd (over (one_status new t status Enabled now (subst (λ (x : ℕ). HasStatus new x Enabled) same h)))
          | inr made ↦ absurd (none_new none u made.0 made.1)
        ]
      ],
      λ h. stays u h.1 h.0,
    )

    one_comes : made_by end ≡ 0 → HasStatus new t Enabled → (u : ℕ) → HasStatus new u Enabled ↔ (HasStatus st u Enabled ⊎ (u ≡ t))
    one_comes none now u = (
      λ h. elim (comes u h) [
        | inl old ↦ inl old.0
        | inr later ↦ elim later [ inl same ↦ inr same | inr made ↦ absurd (none_new none u made.0 made.1) ]
      ],
      λ h. elim (cases_eq u t) [
        | inl same ↦ subst (λ (x : ℕ). HasStatus new x Enabled) (sym same) now
        | inr ne ↦ elim h [ inl was ↦ stays u ne was | inr same ↦ absurd (ne same) ]
      ],
    )

  module _ (c : ℕ) (end_is : (result_by_kind p lim st kind t).1 ≡ ends.Made c) (was : HasStatus st t Enabled) (now : HasStatus new t Enabled) (row : TaskRow) (is : IsRow new c row) (status : row.status ≡ status_at_start row.parent) where
    last : c ≡ length st.tasks
    last = (left_alone p lim well st kind t may stands).made c end_is

    only_last : (u : ℕ) → length st.tasks ≤ u → u < length new.tasks → u ≡ c
    only_last u past below =
        let alone = left_alone p lim well st kind t may stands in
        let made = ap made_by end_is in
        let tasks = alone.tasks in
        let this = last in
        omega (arith, past, below, tasks, made, this)

    from_old : (u : ℕ) → HasStatus new u Enabled → HasStatus st u Enabled ⊎ (u ≡ c)
    from_old u h = elim (comes u h) [
      | inl old ↦ inl old.0
      | inr later ↦ elim later [ inl same ↦ inl (subst (λ (x : ℕ). HasStatus st x Enabled) (sym same) was) | inr made ↦ inr (only_last u made.0 made.1) ]
    ]

    to_new : (u : ℕ) → HasStatus st u Enabled → HasStatus new u Enabled
    to_new u h = elim (cases_eq u t) [ inl same ↦ subst (λ (x : ℕ). HasStatus new x Enabled) (sym same) now | inr ne ↦ stays u ne h ]

    by_parent : (parent : Option ℕ) → row.parent ≡ parent → EnabledIf st new c parent
    by_parent None none = λ u. (
      λ h. elim (from_old u h) [
        | inl old ↦ old
        | inr same ↦
            let made : row.status ≡ Made = status ∙ ap status_at_start none in
            let both : Made ≡ Enabled = one_status new c Made Enabled (row, is, made) (subst (λ (x : ℕ). HasStatus new x Enabled) same h) in
            absurd (cc (both))
      ],
      to_new u,
    )
    by_parent (Some parent) some = λ u. (
      from_old u,
      λ h. elim h [
        | inl old ↦ to_new u old
        | inr same ↦ subst (λ (x : ℕ). HasStatus new x Enabled) (sym same) (row, is, status ∙ ap status_at_start some)
      ],
    )

    made_enabled : EnabledIf st new c (link_of new.links c).parent
    made_enabled =
        let link = ap (λ (l : Link). l.parent) (link_there new (after_stands p lim well st kind t may stands).links c row is) in
        subst (EnabledIf st new c) (sym link) (by_parent row.parent refl)

module _ (p : Program) (lim : Bounds) (well : IsWellFormed p) (st : State) where
  -- an admission ends as one, and a segment does not
  pub ends_by_kind : (kind : Kind) (t : ℕ) → MayTake st kind t → Stands p lim st → (result_by_kind p lim st kind t).1 ≡ ends.Admitted → kind ≡ Admit
  ends_by_kind Admit t may stands is = refl
  ends_by_kind Run t may stands is = absurd ((ran_stops p lim st t stands may (slice_get st.tasks t) refl).run is)

  run_enabled : (t : ℕ) (may : MayTake st Run t) (stands : Stands p lim st) (end : End) → (result_by_kind p lim st Run t).1 ≡ end
      → EnabledBy st (after p lim well st Run t may stands) t end
  run_enabled t may stands ends.Admitted is = absurd ((ran_stops p lim st t stands may (slice_get st.tasks t) refl).run is)
  run_enabled t may stands (ends.Made c) is =
      let stopped = ran_stops p lim st t stands may (slice_get st.tasks t) refl in
      let new_one = stopped.child c is ((left_alone p lim well st Run t may stands).made c is) in
      made_enabled p lim well st Run t may stands c is may.0 (subst (λ (e : End). HasStatus (after p lim well st Run t may stands) t (status_after e)) is stopped.own) new_one.0 new_one.1 new_one.2
  run_enabled t may stands (ends.Waits on) is =
      let stopped = ran_stops p lim st t stands may (slice_get st.tasks t) refl in
      none_changes p lim well st Run t may stands (ends.Waits on) is refl may.0 (subst (λ (e : End). HasStatus (after p lim well st Run t may stands) t (status_after e)) is stopped.own)
  run_enabled t may stands (ends.Joins on) is =
      let stopped = ran_stops p lim st t stands may (slice_get st.tasks t) refl in
      none_changes p lim well st Run t may stands (ends.Joins on) is refl may.0 (subst (λ (e : End). HasStatus (after p lim well st Run t may stands) t (status_after e)) is stopped.own)
  run_enabled t may stands (ends.Done value) is =
      let stopped = ran_stops p lim st t stands may (slice_get st.tasks t) refl in
      one_goes p lim well st Run t may stands (ends.Done value) is refl Done (λ same. cc (same))
      (subst (λ (e : End). HasStatus (after p lim well st Run t may stands) t (status_after e)) is stopped.own)
  run_enabled t may stands (ends.Fault kind place) is =
      let stopped = ran_stops p lim st t stands may (slice_get st.tasks t) refl in
      one_goes p lim well st Run t may stands (ends.Fault kind place) is refl Faulted (λ same. cc (same))
      (subst (λ (e : End). HasStatus (after p lim well st Run t may stands) t (status_after e)) is stopped.own)

  pub enabled_by : (kind : Kind) (t : ℕ) (may : MayTake st kind t) (stands : Stands p lim st) → EnabledBy st (result_by_kind p lim st kind t).0 t (result_by_kind p lim st kind t).1
  enabled_by Admit t may stands = one_comes p lim well st Admit t may stands ends.Admitted refl refl (admitted_own st t may.0 (slice_get st.tasks t) refl)
  enabled_by Run t may stands = run_enabled t may stands (result_by_kind p lim st Run t).1 refl

  -- and the mover has the status of its end
  pub mover_after : (kind : Kind) (t : ℕ) → MayTake st kind t → Stands p lim st → HasStatus (result_by_kind p lim st kind t).0 t (status_after (result_by_kind p lim st kind t).1)
  mover_after Admit t may stands = admitted_own st t may.0 (slice_get st.tasks t) refl
  mover_after Run t may stands = (ran_stops p lim st t stands may (slice_get st.tasks t) refl).own
