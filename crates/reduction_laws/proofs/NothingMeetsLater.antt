-- A task that nothing meets is met by nothing after another task has moved.
use Rattle.std.proofs.Common.{◌≡◌, ◌≢◌, ℕ, ℤ, List, length, Some, inl, inr, refl, sym, ap, ◌∙◌, subst, arith}
use Rattle.std.specs.Prelude.{slice_get}
use Rattle.std.proofs.lemmas.Option.{slice_get_within}
use Rattle.twe_base.specs.Limits.{Bounds}
use Rattle.effect_sets.specs.declared.effects.Effect.{Effect}
use Rattle.effect_sets.specs.declared.effects.Summary.{Summary}
use Rattle.effect_sets.specs.Interference.{SomeInterfere}
use Rattle.seg_journal.specs.declared.moves.Kind.TheVariants.{Run}
use Rattle.wait_graph.specs.Chain.{more, none}
use Rattle.twe_program.specs.Fitting.{TakesArguments}
use Rattle.twe_program.specs.Program.{Program}
use Rattle.twe_program.specs.WellFormed.{IsWellFormed}
use Rattle.seg_meaning.specs.declared.frame.Frame.{Frame}
use Rattle.seg_meaning.specs.declared.stop.Stop.{Stop}
use Rattle.seg_meaning.specs.declared.stop.Stop.TheVariants as stops
use Rattle.seg_meaning.specs.Entry.{effects_at}
use Rattle.seg_meaning.specs.Segment.{Stopped}
use Rattle.isolation_laws.specs.soundness.KeepsEffects.{KeepsEffects}
use Rattle.isolation_laws.proofs.soundness.Given.{given_decl}
use Rattle.machine_state.specs.declared.state.State.{State}
use Rattle.machine_state.specs.declared.state.TaskRow.{TaskRow}
use Rattle.machine_state.specs.declared.state.TaskStatus.TheVariants.{Done, Enabled, Made}
use Rattle.machine_state.specs.segment_laws.Ready.{futures_at}
use Rattle.machine_state.specs.Changes.{next_segment}
use Rattle.machine_state.specs.Legal.{Interfere, MayAdmit}
use Rattle.machine_state.specs.Moves.{awaited_value, new_row, parent_of, ready_frame}
use Rattle.machine_state.specs.Rows.{HasStatus, IsRow, row_awaited}
use Rattle.machine_state.specs.Runs.{IsReached}
use Rattle.machine_state.proofs.lists.Places.{got_one}
use Rattle.machine_state.proofs.segment_laws.BeingReady.{ready_declared, ready_given}
use Rattle.machine_state.proofs.standing.ReachedStands.{reached_stands}
use Rattle.determinism_laws.proofs.Exchanged.{Ready, after_run}
use Rattle.determinism_laws.proofs.MovedRows.{RowsAfter, made_after, rows_after}
use Rattle.determinism_laws.proofs.NearFaults.{reached_more}
use Rattle.reduction_laws.specs.Makes.{MayLeadTo, MakesTasksOf}
use Rattle.reduction_laws.specs.Meeting.{NothingMeets}
use Rattle.reduction_laws.proofs.Admissions.{admitted_interfere, admitted_was, after_admission, interfere_rows, rows_interfere}
use Rattle.reduction_laws.proofs.RowFacts.{CameFrom, came_from, from_make, from_old}

-- After another admission.
module _ (p : Program) (st : State) (s t : ℕ) (differ : s ≢ t) (may_s : MayAdmit st s) (alone : NothingMeets p st t) where
  abbrev ad : State
  ad = after_admission st s

  -- a row was there, with the same declaration and effects
  record WasThere (u : ℕ) (r : TaskRow) : Type 0 where
    before : TaskRow
    there : IsRow st u before
    decl : before.decl ≡ r.decl
    effects : before.effects.effects ≡ r.effects.effects
    undone : r.status ≢ Done → before.status ≢ Done

  was_there : (u : ℕ) (r : TaskRow) → IsRow ad u r → WasThere u r
  was_there u r at = elim (admitted_was st s may_s.0.0 may_s.0.1 u r at) [
    | inl own ↦ record {
      before = may_s.0.0;
      there = subst (λ (n : ℕ). IsRow st n may_s.0.0) (sym own.0) may_s.0.1;
      decl = ap (λ (x : TaskRow). x.decl) own.1;
      effects = ap (λ (x : TaskRow). x.effects.effects) own.1;
      undone = λ undone done. let clash : Made ≡ Done = sym may_s.0.2 ∙ done in cc (clash);
    }
    | inr old ↦ record { before = r; there = old.1; decl = refl; effects = refl; undone = λ undone. undone }
  ]

  still_made : (u : ℕ) → HasStatus ad u Made → HasStatus st u Made
  still_made u made = elim (admitted_was st s may_s.0.0 may_s.0.1 u made.0 made.1) [
    | inl own ↦ let clash : Enabled ≡ Made = ap (λ (x : TaskRow). x.status) own.1 ∙ made.2 in absurd (cc (clash))
    | inr old ↦ (made.0, old.1, made.2)
  ]

  pub alone_after_admission : NothingMeets p ad t
  alone_after_admission = record {
    made = λ u other made meets. alone.made u other (still_made u made) (admitted_interfere st s may_s.0.0 may_s.0.1 u t meets);
    later = λ u maker row other at undone here decl leads args takes meets.
        let one = was_there u maker at in
        let two = was_there t row here in
        alone.later u one.before two.before other one.there (one.undone undone) two.there decl (subst (λ (d : ℕ). MayLeadTo p d decl) (sym one.decl) leads) args takes
        (subst (λ (es : List Effect). SomeInterfere (effects_at p decl args).effects es) (sym two.effects) meets);
  }

-- After a segment of another task.
module _ (p : Program) (wf : IsWellFormed p) (keeps : KeepsEffects p) (lim : Bounds) (st : State) (reached : IsReached p lim st) (s t : ℕ) (differ : s ≢ t)
    (of_s : Ready p lim st s) (row_t : TaskRow) (here_t : IsRow st t row_t) (alone : NothingMeets p st t) where
  abbrev left : Stopped
  left = next_segment p st of_s.row

  abbrev new : State
  new = after_run p lim st s

  enabled_s : of_s.row.status ≡ Enabled
  enabled_s = ap (λ (r : TaskRow). r.status) (got_one (slice_get st.tasks s) of_s.here of_s.may.0.1) ∙ of_s.may.0.2

  undone_s : of_s.row.status ≢ Done
  undone_s done = let clash : Enabled ≡ Done = sym enabled_s ∙ done in cc (clash)

  rows : RowsAfter lim st new s of_s.row left
  rows = rows_after p wf lim st reached s of_s.row of_s.here of_s.may of_s.fits

  reached_new : IsReached p lim new
  reached_new = reached_more p wf keeps lim st (record { task = s; kind = Run }) reached of_s.may

  origin : (u : ℕ) (r : TaskRow) → IsRow new u r → CameFrom lim st s left u r
  origin u r at = came_from lim st new s of_s.row left of_s.here enabled_s rows u r at

  -- task t has the effects that it had
  effects_t : (r : TaskRow) → IsRow new t r → row_t.effects.effects ≡ r.effects.effects
  effects_t r at = by_origin (origin t r at)
    where
      by_origin : CameFrom lim st s left t r → row_t.effects.effects ≡ r.effects.effects
      by_origin (from_old before before_at kept) = ap (λ (x : TaskRow). x.effects.effects) (got_one (slice_get st.tasks t) here_t before_at) ∙ kept.effects
      by_origin (from_make is made) = let within = slice_get_within st.tasks t row_t here_t in absurd (omega (arith, is, within))

  -- the declaration of s makes the declaration of a task that s made
  made_decl : (stop : Stop) → left.stop ≡ stop → (r : TaskRow) → made_after lim s stop (length st.tasks) ≡ Some r → MakesTasksOf p of_s.row.decl r.decl
  made_decl (stops.Make child args effects spawned future place) is r made =
      let stands = reached_stands p lim st wf reached in
      let row = of_s.row in
      let value = awaited_value st.tasks (row_awaited row.frame.next) in
      let declared = ready_declared p (ready_frame st.tasks row.frame) st.cells (ready_given p row.frame value (stands.rows s row of_s.here).ready) child args effects spawned future place is in
      let decl : (ready_frame st.tasks row.frame).decl ≡ row.decl = given_decl row.frame value ∙ (stands.rows s row of_s.here).decl in
      let same : new_row lim (length st.tasks) (parent_of s spawned) child args effects ≡ r = cc (made) in
      record {
        future = future;
        declared = record { future = future; task = declared.task; spawned = spawned };
        there = subst (λ (d : ℕ). slice_get (futures_at p d) future ≡ Some (record { future = future; task = declared.task; spawned = spawned })) decl declared.declared;
        task = sym (ap (λ (f : Frame). f.decl) declared.child_is) ∙ ap (λ (x : TaskRow). x.decl) same;
      }
  made_decl (stops.Waits on) is r made = absurd (cc (made))
  made_decl (stops.Joins on) is r made = absurd (cc (made))
  made_decl (stops.Done value) is r made = absurd (cc (made))
  made_decl (stops.Fault kind place) is r made = absurd (cc (made))

  makes_new : (r : TaskRow) → made_after lim s left.stop (length st.tasks) ≡ Some r → MakesTasksOf p of_s.row.decl r.decl
  makes_new r made = made_decl left.stop refl r made

  -- a task that s made does not interfere with t
  new_apart : (r row : TaskRow) → made_after lim s left.stop (length st.tasks) ≡ Some r → IsRow new t row → ¬ SomeInterfere r.effects.effects row.effects.effects
  new_apart r row made here meets =
      let stands = reached_stands p lim new wf reached_new in
      let row_stands = stands.rows (length st.tasks) r (rows.made r made) in
      let effects : r.effects ≡ effects_at p r.decl r.args = row_stands.effects in
      let takes = row_stands.count in
      alone.later s of_s.row row_t differ of_s.here undone_s here_t r.decl (record { first = r.decl; makes = makes_new r made; chain = none }) r.args takes
      (subst (λ (es : List Effect). SomeInterfere (effects_at p r.decl r.args).effects es) (sym (effects_t row here))
      (subst (λ (e : Summary). SomeInterfere e.effects row.effects.effects) effects meets))

  no_made : (u : ℕ) → u ≢ t → HasStatus new u Made → ¬ Interfere new u t
  no_made u other made meets = by_origin (origin u made.0 made.1)
    where
      met : (row : TaskRow) → IsRow new t row → SomeInterfere made.0.effects.effects row.effects.effects
      met row here = interfere_rows new u t made.0 row made.1 here meets

      by_origin : CameFrom lim st s left u made.0 → ⊥
      by_origin (from_old before before_at kept) =
          alone.made u other (before, before_at, kept.made made.2)
          (rows_interfere st u t before row_t before_at here_t made.0.effects.effects (meets.1).effects.effects kept.effects (effects_t meets.1 meets.3) (met meets.1 meets.3))
      by_origin (from_make is new_made) = new_apart made.0 meets.1 new_made meets.3 (met meets.1 meets.3)

  no_later : (u : ℕ) (maker row : TaskRow) → u ≢ t → IsRow new u maker → maker.status ≢ Done → IsRow new t row → (decl : ℕ) → MayLeadTo p maker.decl decl
      → (args : List ℤ) → TakesArguments (slice_get p.tasks decl) (length args) → ¬ SomeInterfere (effects_at p decl args).effects row.effects.effects
  no_later u maker row other at undone here decl leads args takes meets = by_origin (origin u maker at)
    where
      met : SomeInterfere (effects_at p decl args).effects row_t.effects.effects
      met = subst (λ (es : List Effect). SomeInterfere (effects_at p decl args).effects es) (sym (effects_t row here)) meets

      by_origin : CameFrom lim st s left u maker → ⊥
      by_origin (from_old before before_at kept) =
          alone.later u before row_t other before_at (kept.undone undone) here_t decl (subst (λ (d : ℕ). MayLeadTo p d decl) (sym kept.decl) leads) args takes met
      by_origin (from_make is made) =
          alone.later s of_s.row row_t differ of_s.here undone_s here_t decl
          (record { first = maker.decl; makes = makes_new maker made; chain = more leads.makes leads.chain }) args takes met

  pub alone_after_segment : NothingMeets p new t
  alone_after_segment = record { made = no_made; later = no_later }
