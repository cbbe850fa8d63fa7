-- Which child the last entry of a task has made, once one more entry was drawn; and that only a task that was made and admitted
-- has entries that make tasks.
use Rattle.std.proofs.Common.{◌≡◌, ◌≢◌, ◌<◌, ◌+◌, ◌++◌, ◌==◌, ℕ, Bool, true, false, cond, List, [], ◌∷◌, length, nat_lt, Option, Some, None, refl, sym, ap, subst, ◌∙◌, ⊎_elim, append-nil, arith, eq-eqb, ne_eqb, slice_get}
use Rattle.std.specs.Prelude.{filter, option_and_then}
use Rattle.std.specs.List.{last_or}
use Rattle.std.proofs.lemmas.Bool.{cases_eq}
use Rattle.std.proofs.lemmas.List.Elements.{filter-append}
use Rattle.std.proofs.lemmas.Option.{slice_get_within}
use Rattle.seg_meaning.specs.declared.frame.Frame.{Frame}
use Rattle.seg_meaning.specs.declared.stop.Stop.{Stop}
use Rattle.seg_meaning.specs.declared.stop.Stop.TheVariants as stops
use Rattle.seg_meaning.specs.Segment.{Stopped, segment}
use Rattle.seg_journal.specs.declared.journal.End.TheVariants.{Admitted}
use Rattle.seg_journal.specs.declared.journal.Entry.{Entry}
use Rattle.seg_journal.specs.declared.moves.Kind.{Kind}
use Rattle.seg_journal.specs.declared.moves.Kind.TheVariants.{Admit, Run}
use Rattle.seg_journal.specs.declared.moves.Move.{Move}
use Rattle.twe_base.specs.Limits.{Bounds}
use Rattle.twe_program.specs.Program.{Program}
use Rattle.twe_program.specs.WellFormed.{IsWellFormed}
use Rattle.machine_state.specs.declared.state.State.{State}
use Rattle.machine_state.specs.declared.state.TaskRow.{TaskRow}
use Rattle.machine_state.specs.Legal.{MayMove, MayTake}
use Rattle.machine_state.specs.declared.state.TaskStatus.TheVariants as status
use Rattle.machine_state.specs.Moves.{admitted, admitted_row, faulted_row, going_row, making_frame, move_result, ready_frame, result_by_kind, stopped_frame}
use Rattle.machine_state.specs.Rows.{IsRow}
use Rattle.machine_state.specs.Runs.{IsReached, IsRun, Legal, entry_of, state_after}
use Rattle.machine_state.proofs.tasks.LeftAlone.{moves_leave_alone}
use Rattle.machine_state.proofs.lists.Places.{got_one, set_other}
use Rattle.floor_laws.specs.rule.Steps.{row_after}
use Rattle.floor_laws.proofs.rule.Along.{after_all}
use Rattle.floor_laws.proofs.rule.EntryLemmas.{row_next, stays}
use Rattle.isolation_laws.specs.Admission.{made_last, task_made}

last_push : {A : Type 0} (o : Option A) (xs : List A) (x : A) → last_or o (xs ++ x ∷ []) ≡ Some x
last_push o [] x = refl
last_push o (y ∷ xs) x = last_push (Some y) xs x

abbrev is_of : ℕ → Entry → Bool
is_of t entry = entry.mv.task == t

module _ (t : ℕ) (journal : List Entry) (entry : Entry) where
  entries_more : (own : Bool) → (entry.mv.task == t) ≡ own → filter (is_of t) (journal ++ entry ∷ []) ≡ filter (is_of t) journal ++ cond own (entry ∷ []) []
  entries_more own is = filter-append (is_of t) journal (entry ∷ []) ∙ ap (λ (b : Bool). filter (is_of t) journal ++ cond b (entry ∷ []) []) is

  pub made_own : entry.mv.task ≡ t → made_last t (journal ++ entry ∷ []) ≡ task_made entry.end
  made_own same =
      ap (λ (l : List Entry). option_and_then (λ (x : Entry). task_made x.end) (last_or None l)) (entries_more true (eq-eqb entry.mv.task t same))
      ∙ ap (option_and_then (λ (x : Entry). task_made x.end)) (last_push None (filter (is_of t) journal) entry)

  pub made_other : entry.mv.task ≢ t → made_last t (journal ++ entry ∷ []) ≡ made_last t journal
  made_other other =
      ap (λ (l : List Entry). option_and_then (λ (x : Entry). task_made x.end) (last_or None l))
      (entries_more false (ne_eqb entry.mv.task t other) ∙ append-nil (filter (is_of t) journal))

none_of : (o : Option ℕ) → ((x : ℕ) → o ≡ Some x → ⊥) → o ≡ None
none_of None never = refl
none_of (Some x) never = absurd (never x refl)

-- A task that was not made yet has no entry.

row_of_move : (st : State) (kind : Kind) (t : ℕ) → MayTake st kind t → (row : TaskRow) × IsRow st t row
row_of_move st Admit t may = (may.0.0, may.0.1)
row_of_move st Run t may = (may.0.0, may.0.1)

-- each task whose last entry made a task is there
abbrev MakersAreThere : List Entry → State → Type 0
MakersAreThere journal st = (u x : ℕ) → made_last u journal ≡ Some x → u < length st.tasks

module _ (p : Program) (well : IsWellFormed p) (lim : Bounds) where
  makers_step : (before : List Entry) (st : State) (mv : Move) → IsRun p lim before st → MayMove st mv → MakersAreThere before st
      → MakersAreThere (before ++ entry_of p lim st mv ∷ []) (move_result p lim st mv).0
  makers_step before st mv run may so_far u x made =
      let reached : IsReached p lim st = record { journal = before; legal = run.legal; same = run.same } in
      let grows = (moves_leave_alone p lim st mv well reached may).tasks in
      let here : u < length st.tasks =
      ⊎_elim
      (λ (same : u ≡ mv.task).
      let row = row_of_move st mv.kind mv.task may in
      subst (λ (n : ℕ). n < length st.tasks) (sym same) (slice_get_within st.tasks mv.task row.0 row.1))
      (λ (other : u ≢ mv.task).
      so_far u x (sym (made_other u before (entry_of p lim st mv) (λ same. other (sym same))) ∙ made))
      (cases_eq u mv.task) in
      omega (arith, grows, here)

  makers_there : (journal : List Entry) → Legal p lim journal → MakersAreThere journal (state_after p lim journal)
  makers_there = after_all p lim MakersAreThere (λ u x made. absurd (cc (made))) makers_step

  pub never_made : (journal : List Entry) → Legal p lim journal → (c : ℕ) → c ≡ length (state_after p lim journal).tasks → made_last c journal ≡ None
  never_made journal legal c number =
      none_of (made_last c journal) (λ x made. let below = makers_there journal legal c x made in omega (arith, below, number))

-- A task that is still to be admitted has no entry.

-- task u was made, and admitted since
abbrev IsRan : State → ℕ → Type 0
IsRan st u = (row : TaskRow) × IsRow st u row × (row.status ≢ status.Made)

abbrev MakersRan : List Entry → State → Type 0
MakersRan journal st = (u x : ℕ) → made_last u journal ≡ Some x → IsRan st u

enabled_made : status.Enabled ≡ status.Made → ⊥
enabled_made h = cc

done_made : status.Done ≡ status.Made → ⊥
done_made h = cc

faulted_made : status.Faulted ≡ status.Made → ⊥
faulted_made h = cc

none_some : (x : ℕ) → None ≡ Some x → ⊥
none_some x h = cc

-- the row of a task that has run a segment
row_ran : (lim : Bounds) (asked : ℕ) (row : TaskRow) (frame : Frame) (stop : Stop) → row.status ≡ status.Enabled → (row_after lim asked row frame stop).status ≢ status.Made
row_ran lim asked row frame (stops.Make child args effects spawned future place) is = by_test (nat_lt (asked + 1) lim.tasks)
  where
    by_test : (b : Bool)
        → (cond {A = TaskRow} b (going_row row (making_frame future spawned (asked + 1) frame)) (faulted_row row (stopped_frame frame))).status ≢ status.Made
    by_test true made = enabled_made (sym is ∙ made)
    by_test false made = faulted_made made
row_ran lim asked row frame (stops.Waits on) is = λ made. enabled_made (sym is ∙ made)
row_ran lim asked row frame (stops.Joins on) is = λ made. enabled_made (sym is ∙ made)
row_ran lim asked row frame (stops.Done value) is = λ made. done_made made
row_ran lim asked row frame (stops.Fault kind place) is = λ made. faulted_made made

still_ran : (st : State) (t u : ℕ) (o : Option TaskRow) → u ≢ t → IsRan st u → IsRan (admitted st t o) u
still_ran st t u None other ran = ran
still_ran st t u (Some row) other ran = (ran.0, set_other st.tasks t u (admitted_row row) other ∙ ran.1, ran.2)

module _ (p : Program) (lim : Bounds) where
  move_ran : (before : List Entry) (st : State) (kind : Kind) (t : ℕ) → MayTake st kind t → MakersRan before st
      → MakersRan (before ++ record { mv = record { kind = kind; task = t }; end = (result_by_kind p lim st kind t).1 } ∷ []) (result_by_kind p lim st kind t).0
  move_ran before st Admit t may so_far u x made =
      let entry : Entry = record { mv = record { kind = Admit; task = t }; end = Admitted } in
      ⊎_elim
      (λ (same : u ≡ t).
      let own : made_last u (before ++ entry ∷ []) ≡ None = made_own u before entry (sym same) in
      absurd (none_some x (sym own ∙ made)))
      (λ (other : u ≢ t).
      still_ran st t u (slice_get st.tasks t) other (so_far u x (sym (made_other u before entry (λ same. other (sym same))) ∙ made)))
      (cases_eq u t)
  move_ran before st Run t may so_far u x made =
      let entry : Entry = record { mv = record { kind = Run; task = t }; end = (result_by_kind p lim st Run t).1 } in
      let row : TaskRow = may.0.0 in
      let left : Stopped = segment p (ready_frame st.tasks row.frame) st.cells in
      ⊎_elim
      (λ (same : u ≡ t).
      let there = row_next p lim st t row may.0.1 (slice_get_within st.tasks t row may.0.1) left refl in
      subst (IsRan (result_by_kind p lim st Run t).0) (sym same)
      (row_after lim st.asked row left.frame left.stop, there, row_ran lim st.asked row left.frame left.stop may.0.2))
      (λ (other : u ≢ t).
      let was = so_far u x (sym (made_other u before entry (λ same. other (sym same))) ∙ made) in
      let now = stays p lim st t u was.0 other was.1 in
      (now.now, now.there, λ is. was.2 (ap (λ (r : TaskRow). r.status) (sym now.same) ∙ is)))
      (cases_eq u t)

  makers_ran : (journal : List Entry) → Legal p lim journal → MakersRan journal (state_after p lim journal)
  makers_ran = after_all p lim MakersRan (λ u x made. absurd (cc (made))) (λ before st mv run may so_far. move_ran before st mv.kind mv.task may so_far)

  pub made_has_none : (journal : List Entry) → Legal p lim journal → (t : ℕ) (row : TaskRow) → IsRow (state_after p lim journal) t row → row.status ≡ status.Made
      → made_last t journal ≡ None
  made_has_none journal legal t row there made =
      none_of (made_last t journal)
      (λ x is.
      let ran = makers_ran journal legal t x is in
      let one : ran.0 ≡ row = got_one (slice_get (state_after p lim journal).tasks t) ran.1 there in
      ran.2 (ap (λ (r : TaskRow). r.status) one ∙ made))
