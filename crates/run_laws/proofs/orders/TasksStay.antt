-- What a task keeps over the moves of a journal: its effects, its parent, and that it is over.
use Rattle.std.proofs.Common.{◌≡◌, ◌≢◌, ◌≤◌, ◌+◌, ◌++◌, ◌⊎◌, ℕ, ℤ, Bool, true, false, cond, List, [], ◌∷◌, length, Option, None, Some, inl, inr, refl, sym, ap, ◌∙◌, subst, nat_lt, arith}
use Rattle.std.specs.Prelude.{slice_get, slice_set}
use Rattle.std.proofs.lemmas.Bool.{cases_eq, cases_lt}
use Rattle.twe_base.specs.declared.place.Place.{Place}
use Rattle.effect_sets.specs.declared.effects.Summary.{Summary}
use Rattle.twe_base.specs.declared.fault.FaultKind.TheVariants.{TaskLimit}
use Rattle.twe_base.specs.Limits.{Bounds}
use Rattle.seg_journal.specs.declared.journal.End.{End}
use Rattle.seg_journal.specs.declared.journal.End.TheVariants as ends
use Rattle.seg_journal.specs.declared.journal.Entry.{Entry}
use Rattle.seg_journal.specs.declared.moves.Kind.{Kind}
use Rattle.seg_journal.specs.declared.moves.Kind.TheVariants.{Admit, Run}
use Rattle.seg_journal.specs.declared.moves.Move.{Move}
use Rattle.twe_program.specs.Program.{Program}
use Rattle.twe_program.specs.WellFormed.{IsWellFormed}
use Rattle.seg_meaning.specs.declared.frame.Frame.{Frame}
use Rattle.seg_meaning.specs.declared.stop.Stop.{Stop}
use Rattle.seg_meaning.specs.declared.stop.Stop.TheVariants as stops
use Rattle.seg_meaning.specs.Segment.{Stopped, segment}
use Rattle.wait_graph.specs.Link.{link_of}
use Rattle.machine_state.specs.declared.state.State.{State}
use Rattle.machine_state.specs.declared.state.TaskRow.{TaskRow}
use Rattle.machine_state.specs.declared.state.TaskStatus.{TaskStatus}
use Rattle.machine_state.specs.declared.state.TaskStatus.TheVariants.{Done, Enabled, Faulted, Made}
use Rattle.machine_state.specs.Changes.{IsTaskOf}
use Rattle.machine_state.specs.Legal.{MayMove, MayTake}
use Rattle.machine_state.specs.Moves.{done_row, faulted_row, going_row, joined_child, joined_row, making_frame, move_result, new_row, parent_of, ran, ready_frame, result_by_kind, state_after_asking, state_after_fault, state_after_join, state_after_make, stop_result, stopped_frame}
use Rattle.machine_state.specs.Rows.{HasStatus, IsRow}
use Rattle.machine_state.specs.Runs.{IsReached, LegalFrom, replayed}
use Rattle.machine_state.proofs.lists.Places.{below_there, got_one, put_before, set_same}
use Rattle.machine_state.proofs.replays.Replayed.{run_more}
use Rattle.machine_state.proofs.standing.Halfway.{halfway}
use Rattle.machine_state.proofs.standing.LaterStates.{replayed_later}
use Rattle.machine_state.proofs.standing.ReachedStands.{linked_of, taken_stands}
use Rattle.machine_state.proofs.standing.Standing.{IsOver, Stands}
use Rattle.machine_state.proofs.tasks.OtherRows.{row_after}

-- the state after a legal move of a reached state is reached
pub reached_next : (p : Program) (lim : Bounds) (st : State) (mv : Move) → IsReached p lim st → MayMove st mv → IsReached p lim (move_result p lim st mv).0
reached_next p lim st mv reached may =
    let run = run_more p lim reached.journal st mv (record { legal = reached.legal; same = reached.same }) may in
    record { journal = _; legal = run.legal; same = run.same }

-- the moves of a journal, and then those of another
pub replayed_both : (p : Program) (lim : Bounds) (st : State) (earlier later : List Entry) → replayed p lim st (earlier ++ later) ≡ replayed p lim (replayed p lim st earlier) later
replayed_both p lim st [] later = refl
replayed_both p lim st (entry ∷ earlier) later = replayed_both p lim (move_result p lim st entry.mv).0 earlier later

pub legal_both : (p : Program) (lim : Bounds) (st : State) (earlier later : List Entry) → LegalFrom p lim st (earlier ++ later)
    → LegalFrom p lim st earlier × LegalFrom p lim (replayed p lim st earlier) later
legal_both p lim st [] later legal = (tt, legal)
legal_both p lim st (entry ∷ earlier) later legal =
    let rest = legal_both p lim (move_result p lim st entry.mv).0 earlier later legal.2 in ((legal.0, legal.1, rest.0), rest.1)

-- The task of a segment.

module _ (lim : Bounds) (st : State) (t : ℕ) (row : TaskRow) (here : IsRow st t row) (frame : Frame) where
  -- it has the status that it had, or is over
  abbrev GoesOn : State → Type 0
  GoesOn new = (b : TaskRow) × IsRow new t b × ((b.status ≡ row.status) ⊎ IsOver b.status)

  made_goes : (b : Bool) (child : Frame) (args : List ℤ) (effects : Summary) (spawned : Bool) (future : ℕ) (place : Place)
      → GoesOn (cond {A = State × End} b (state_after_make lim st t row frame future spawned child args effects, ends.Made (st.asked + 1))
      (state_after_fault (state_after_asking st) t row (stopped_frame frame) TaskLimit place, ends.Fault TaskLimit place)).0
  made_goes true child args effects spawned future place =
      let going = going_row row (making_frame future spawned (st.asked + 1) frame) in
      (going, put_before (slice_set st.tasks t going) (new_row lim (st.asked + 1) (parent_of t spawned) child args effects) t going (set_same st.tasks t row going here), inl refl)
  made_goes false child args effects spawned future place =
      let faulted = faulted_row row (stopped_frame frame) in (faulted, set_same st.tasks t row faulted here, inr tt)

  stop_goes : (stop : Stop) → GoesOn (stop_result lim st t row frame stop).0
  stop_goes (stops.Make child args effects spawned future place) = made_goes (nat_lt (st.asked + 1) lim.tasks) child args effects spawned future place
  stop_goes (stops.Waits on) = let going = going_row row frame in (going, set_same st.tasks t row going here, inl refl)
  stop_goes (stops.Joins on) = let going = going_row row frame in (going, set_same st.tasks t row going here, inl refl)
  stop_goes (stops.Done value) = let done = done_row row frame value in (done, set_same st.tasks t row done here, inr tt)
  stop_goes (stops.Fault kind place) = let faulted = faulted_row row frame in (faulted, set_same st.tasks t row faulted here, inr tt)

-- a task has one status
pub one_status : (st : State) (t : ℕ) (row : TaskRow) (status : TaskStatus) → HasStatus st t status → IsRow st t row → row.status ≡ status
one_status st t row status has is = let same : row ≡ has.0 = got_one (slice_get st.tasks t) is has.1 in ap (λ (r : TaskRow). r.status) same ∙ has.2

-- who takes a move isn't over
mover_not_over : (st : State) (kind : Kind) (t : ℕ) → MayTake st kind t → (row : TaskRow) → IsRow st t row → ¬ IsOver row.status
mover_not_over st Admit t may row is over = subst IsOver (one_status st t row Made may.0 is) over
mover_not_over st Run t may row is over = subst IsOver (one_status st t row Enabled may.0 is) over

-- a task is enabled, or it isn't
enabled_by_row : (st : State) (t : ℕ) (row : TaskRow) → IsRow st t row → (status : TaskStatus) → row.status ≡ status → HasStatus st t Enabled ⊎ ¬ HasStatus st t Enabled
enabled_by_row st t row is Enabled has = inl (row, is, has)
enabled_by_row st t row is Made has = inr (λ now. let both : Made ≡ Enabled = sym has ∙ one_status st t row Enabled now is in cc (both))
enabled_by_row st t row is Done has = inr (λ now. let both : Done ≡ Enabled = sym has ∙ one_status st t row Enabled now is in cc (both))
enabled_by_row st t row is Faulted has = inr (λ now. let both : Faulted ≡ Enabled = sym has ∙ one_status st t row Enabled now is in cc (both))

pub enabled_or_not : (st : State) (t : ℕ) → HasStatus st t Enabled ⊎ ¬ HasStatus st t Enabled
enabled_or_not st t = by_place (slice_get st.tasks t) refl where
  by_place : (found : Option TaskRow) → slice_get st.tasks t ≡ found → HasStatus st t Enabled ⊎ ¬ HasStatus st t Enabled
  by_place None is = inr (λ now. cc (is, now.1))
  by_place (Some row) is = enabled_by_row st t row is row.status refl

-- who has no row has a number that no task has yet
pub not_there : (rows : List TaskRow) (u : ℕ) → slice_get rows u ≡ None → length rows ≤ u
not_there rows u nowhere = elim (cases_lt u (length rows)) [
  | inl below ↦ let row = below_there rows u below in absurd (cc (row.1, nowhere))
  | inr past ↦ omega (arith, past)
]

-- the task is enabled, or over
abbrev pub IsOut : TaskStatus → Type 0
IsOut status = (status ≡ Enabled) ⊎ IsOver status

module _ (p : Program) (lim : Bounds) (well : IsWellFormed p) where
  ran_goes : (st : State) (t : ℕ) → Stands p lim st → MayTake st Run t → (found : Option TaskRow) → slice_get st.tasks t ≡ found
      → (b : TaskRow) × IsRow (ran p lim st t found).0 t b × IsOut b.status
  ran_goes st t stands may None is = absurd (cc (may.0.1, is))
  ran_goes st t stands may (Some row) is =
      let after : Stopped = segment p (ready_frame st.tasks row.frame) st.cells in
      let joined : State = state_after_join (record st { cells = after.cells }) (joined_child row.out (link_of st.links t).waits) in
      let goes = stop_goes lim joined t row (halfway p lim st stands t row is may.1).almost.own after.frame after.stop in
      (goes.0, goes.1, elim goes.2 [ inl same ↦ inl (same ∙ one_status st t row Enabled may.0 is) | inr over ↦ inr over ])

  -- an enabled task is enabled after a move, or over
  enabled_by : (st : State) (kind : Kind) (t : ℕ) → Stands p lim st → MayTake st kind t → HasStatus st t Enabled
      → (b : TaskRow) × IsRow (result_by_kind p lim st kind t).0 t b × IsOut b.status
  enabled_by st Admit t stands may was = let both : Made ≡ Enabled = sym may.0.2 ∙ one_status st t may.0.0 Enabled was may.0.1 in absurd (cc (both))
  enabled_by st Run t stands may was = ran_goes st t stands may (slice_get st.tasks t) refl

  enabled_goes : (st : State) (kind : Kind) (t s : ℕ) → Stands p lim st → MayTake st kind t → HasStatus st s Enabled
      → (b : TaskRow) × IsRow (result_by_kind p lim st kind t).0 s b × IsOut b.status
  enabled_goes st kind t s stands may was = elim (cases_eq s t) [
    | inl same ↦
        let own = enabled_by st kind t stands may (subst (λ (x : ℕ). HasStatus st x Enabled) same was) in
        (own.0, subst (λ (x : ℕ). IsRow (result_by_kind p lim st kind t).0 x own.0) (sym same) own.1, own.2)
    | inr other ↦ elim (row_after p lim st t s other was.0 was.1 kind) [
      | inl stays ↦ (was.0, stays.1, inl was.2)
      | inr marked ↦ (joined_row was.0, marked.1, inl was.2)
    ]
  ]

  -- a task that is over stays so
  over_stays : (st : State) (kind : Kind) (t s : ℕ) → MayTake st kind t → (row : TaskRow) → IsRow st s row → IsOver row.status
      → (b : TaskRow) × IsRow (result_by_kind p lim st kind t).0 s b × IsOver b.status
  over_stays st kind t s may row is over =
      let other : s ≢ t = λ same. mover_not_over st kind t may row (subst (λ (x : ℕ). IsRow st x row) same is) over in
      elim (row_after p lim st t s other row is kind) [
        | inl stays ↦ (row, stays.1, over)
        | inr marked ↦ (joined_row row, marked.1, over)
      ]

  -- so does one that is enabled or over
  out_stays : (st : State) (kind : Kind) (t s : ℕ) → Stands p lim st → MayTake st kind t → (row : TaskRow) → IsRow st s row → IsOut row.status
      → (b : TaskRow) × IsRow (result_by_kind p lim st kind t).0 s b × IsOut b.status
  out_stays st kind t s stands may row is (inl enabled) = enabled_goes st kind t s stands may (row, is, enabled)
  out_stays st kind t s stands may row is (inr over) = let goes = over_stays st kind t s may row is over in (goes.0, goes.1, inr goes.2)

  pub out_at_end : (st : State) (entries : List Entry) → LegalFrom p lim st entries → Stands p lim st → (s : ℕ) (row : TaskRow) → IsRow st s row → IsOut row.status
      → (b : TaskRow) × IsRow (replayed p lim st entries) s b × IsOut b.status
  out_at_end st [] legal stands s row is out = (row, is, out)
  out_at_end st (entry ∷ entries) legal stands s row is out =
      let kind = entry.mv.kind in
      let t = entry.mv.task in
      let next = out_stays st kind t s stands legal.0 row is out in
      out_at_end (move_result p lim st entry.mv).0 entries legal.2 (taken_stands p lim well st kind t legal.0 stands) s next.0 next.1 next.2

  pub over_at_end : (st : State) (entries : List Entry) → LegalFrom p lim st entries → (s : ℕ) (row : TaskRow) → IsRow st s row → IsOver row.status
      → (b : TaskRow) × IsRow (replayed p lim st entries) s b × IsOver b.status
  over_at_end st [] legal s row is over = (row, is, over)
  over_at_end st (entry ∷ entries) legal s row is over =
      let next = over_stays st entry.mv.kind entry.mv.task s legal.0 row is over in
      over_at_end (move_result p lim st entry.mv).0 entries legal.2 s next.0 next.1 next.2

  -- a task that is enabled before a journal and after it is enabled after its first move
  pub enabled_between : (st : State) (entry : Entry) (entries : List Entry) → LegalFrom p lim st (entry ∷ entries) → Stands p lim st → (s : ℕ) → HasStatus st s Enabled
      → HasStatus (replayed p lim st (entry ∷ entries)) s Enabled → HasStatus (move_result p lim st entry.mv).0 s Enabled
  enabled_between st entry entries legal stands s was still =
      let now = enabled_goes st entry.mv.kind entry.mv.task s stands legal.0 was in
      elim now.2 [
        | inl enabled ↦ (now.0, now.1, enabled)
        | inr over ↦
            let end = over_at_end (move_result p lim st entry.mv).0 entries legal.2 s now.0 now.1 over in
            absurd (subst IsOver (one_status (replayed p lim st (entry ∷ entries)) s end.0 Enabled still end.1) end.2)
      ]

  -- a task keeps its declaration, its arguments, its effects and its parent
  pub tasks_stay : (st : State) (entries : List Entry) → LegalFrom p lim st entries → Stands p lim st → (u : ℕ) (row : TaskRow) → IsRow st u row
      → IsTaskOf (replayed p lim st entries) u row
  tasks_stay st entries legal stands u row is =
      let kept = (replayed_later p lim st entries legal (linked_of p lim well st stands)).kept u row is in
      record { now = kept.now; there = kept.there; decl = kept.decl; args = kept.args; effects = kept.effects; parent = kept.parent }
