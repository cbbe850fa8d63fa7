-- The first segment of a task starts from the first frame of its declaration with its arguments.
use Rattle.std.proofs.Common.{◌≡◌, ◌≢◌, ◌≤◌, ◌<◌, ◌==◌, ℕ, zero, suc, Bool, true, false, List, length, Option, None, Some, inl, inr, refl, sym, ap, ◌∙◌, subst, arith}
use Rattle.std.specs.Prelude.{slice_get}
use Rattle.std.proofs.lemmas.Bool.{eqb-true, eq-eqb}
use Rattle.seg_journal.specs.declared.journal.Entry.{Entry}
use Rattle.seg_journal.specs.declared.moves.Kind.{Kind}
use Rattle.seg_journal.specs.declared.moves.Kind.TheVariants.{Admit, Run}
use Rattle.twe_base.specs.Limits.{Bounds}
use Rattle.twe_program.specs.Program.{Program}
use Rattle.twe_program.specs.WellFormed.{IsWellFormed}
use Rattle.seg_meaning.specs.declared.frame.Frame.{Frame}
use Rattle.seg_meaning.specs.declared.frame.Next.{Next}
use Rattle.seg_meaning.specs.declared.frame.Next.TheVariants.{Go}
use Rattle.seg_meaning.specs.Entry.{entry_frame}
use Rattle.seg_meaning.specs.Giving.{given_by}
use Rattle.isolation_laws.specs.soundness.KeepsEffects.{KeepsEffects}
use Rattle.machine_state.specs.declared.state.State.{State}
use Rattle.machine_state.specs.declared.state.TaskRow.{TaskRow}
use Rattle.machine_state.specs.declared.state.TaskStatus.TheVariants.{Made}
use Rattle.machine_state.specs.Legal.{MayTake}
use Rattle.machine_state.specs.Moves.{awaited_value, joined_row, ready_frame, result_by_kind}
use Rattle.machine_state.specs.Rows.{IsRow, row_awaited}
use Rattle.machine_state.specs.Runs.{Legal, state_after}
use Rattle.machine_state.proofs.tasks.OtherRows.{row_after}
use Rattle.machine_state.proofs.lists.Places.{below_there, got_one}
use Rattle.determinism_laws.specs.Execution.{IsNextSegment}
use Rattle.determinism_laws.specs.Frames.{StartsFrom}
use Rattle.determinism_laws.specs.Segments.{state_before}
use Rattle.determinism_laws.proofs.JournalPlaces.{later_at, later_end, stands_at, taken_at}
use Rattle.determinism_laws.proofs.NewTasks.{move_frame}
use Rattle.determinism_laws.proofs.OwnCells.{take_past}
use Rattle.determinism_laws.proofs.Trees.{runner}
use Rattle.determinism_laws.specs.elision.Elision.{first_frame}
use Rattle.determinism_laws.proofs.theorem.NewArguments.{new_fresh}

module _ (p : Program) (wf : IsWellFormed p) (keeps : KeepsEffects p) (lim : Bounds) (journal : List Entry) (legal : Legal p lim journal)
    (t first : ℕ) (is_first : IsNextSegment journal t 0 first) (last : TaskRow) (there_last : IsRow (state_after p lim journal) t last) where
  abbrev st : ℕ → State
  st n = state_before p lim journal n

  -- the frame is the first one
  abbrev IsFresh : TaskRow → Type 0
  IsFresh row = row.frame ≡ first_frame lim t (entry_frame p row.decl row.args)

  while_made : (n : ℕ) (row : TaskRow) → IsRow (st n) t row → row.status ≡ Made → IsFresh row
  while_made n row here made = ap (λ (r : TaskRow). r.frame) (((stands_at p wf lim journal legal n).rows t row here).made made)

  still_fresh : (n : ℕ) (row new : TaskRow) → IsRow (st n) t row → IsRow (st (suc n)) t new → new.frame ≡ row.frame → IsFresh row → IsFresh new
  still_fresh n row new here later frame fresh =
      let kept = (later_at p wf lim journal legal n (suc n) (omega arith)).kept t row here in
      let same : kept.now ≡ new = got_one (slice_get (st (suc n)).tasks t) kept.there later in
      let decl : row.decl ≡ new.decl = sym kept.decl ∙ ap (λ (r : TaskRow). r.decl) same in
      let args : row.args ≡ new.args = sym kept.args ∙ ap (λ (r : TaskRow). r.args) same in
      frame ∙ fresh ∙ (λ i. first_frame lim t (entry_frame p (decl i) (args i)))

  abbrev AllFresh : ℕ → Type 0
  AllFresh n = (row : TaskRow) → IsRow (st n) t row → IsFresh row

  -- an entry of the task itself admits it
  own_entry : (n : ℕ) (entry : Entry) (kind : Kind) → slice_get journal n ≡ Some entry → entry.mv.kind ≡ kind → entry.mv.task ≡ t → n < first → (row new : TaskRow) → IsRow (st n) t row
      → IsRow (st (suc n)) t new → new.frame ≡ row.frame
  own_entry n entry Run there kind task less row new here later = absurd (is_first.first n (omega arith) less (record { entry = entry; there = there; runs = kind; task = task }))
  own_entry n entry Admit there kind task less row new here later =
      let taken = taken_at p wf lim journal legal n entry there in
      let may = subst (MayTake (st n) Admit) task (subst (λ (k : Kind). MayTake (st n) k entry.mv.task) kind taken.may) in
      let leads : st (suc n) ≡ (result_by_kind p lim (st n) Admit t).0 = taken.leads ∙ (λ i. (result_by_kind p lim (st n) (kind i) (task i)).0) in
      move_frame p lim (st n) (stands_at p wf lim journal legal n) t Admit may row new here (subst (λ (s : State). IsRow s t new) leads later)

  -- any other entry leaves it
  other_entry : (n : ℕ) (entry : Entry) → slice_get journal n ≡ Some entry → t ≢ entry.mv.task → (row new : TaskRow) → IsRow (st n) t row → IsRow (st (suc n)) t new → new.frame ≡ row.frame
  other_entry n entry there differ row new here later =
      let taken = taken_at p wf lim journal legal n entry there in
      elim (row_after p lim (st n) entry.mv.task t differ row here entry.mv.kind) [
        | inl stays ↦ let now = subst (λ (s : State). IsRow s t row) (sym taken.leads) stays.1 in
            ap (λ (r : TaskRow). r.frame) (got_one (slice_get (st (suc n)).tasks t) later now)
        | inr marked ↦ let now = subst (λ (s : State). IsRow s t (joined_row row)) (sym taken.leads) marked.1 in
            ap (λ (r : TaskRow). r.frame) (got_one (slice_get (st (suc n)).tasks t) later now)
      ]

  either_entry : (n : ℕ) (entry : Entry) (own : Bool) → (entry.mv.task == t) ≡ own → slice_get journal n ≡ Some entry → n < first → (row new : TaskRow) → IsRow (st n) t row → IsRow (st (suc n)) t new
      → new.frame ≡ row.frame
  either_entry n entry true own there less row new here later = own_entry n entry entry.mv.kind there refl (eqb-true entry.mv.task t own) less row new here later
  either_entry n entry false own there less row new here later =
      other_entry n entry there (λ same. let clash : false ≡ true = sym own ∙ eq-eqb entry.mv.task t (sym same) in absurd (cc (clash))) row new here later

  over_found : (n : ℕ) (entry : Entry) → slice_get journal n ≡ Some entry → n < first → AllFresh n → (found : Option TaskRow) → slice_get (st n).tasks t ≡ found
      → (new : TaskRow) → IsRow (st (suc n)) t new → IsFresh new
  over_found n entry there less fresh (Some row) here new later =
      still_fresh n row new here later (either_entry n entry (entry.mv.task == t) refl there less row new here later) (fresh row here)
  over_found n entry there less fresh None gone new later =
      let not : t < length (st n).tasks → ⊥ = λ below. let row = below_there (st n).tasks t below in let both = sym gone ∙ row.1 in absurd (cc (both)) in
      let taken = taken_at p wf lim journal legal n entry there in
      new_fresh p lim (st n) (stands_at p wf lim journal legal n) entry.mv.task t (omega (arith, not)) new entry.mv.kind (subst (λ (s : State). IsRow s t new) taken.leads later)

  over_entry : (n : ℕ) (found : Option Entry) → slice_get journal n ≡ found → n < first → AllFresh n → AllFresh (suc n)
  over_entry n None gone less fresh new later = fresh new (subst (λ (entries : List Entry). IsRow (state_after p lim entries) t new) (take_past journal n gone) later)
  over_entry n (Some entry) there less fresh new later = over_found n entry there less fresh (slice_get (st n).tasks t) refl new later

  at_start : (u : ℕ) (row : TaskRow) → IsRow (st 0) u row → row.status ≡ Made
  at_start zero row here = let same = got_one (slice_get (st 0).tasks 0) refl here in ap (λ (r : TaskRow). r.status) (sym same)
  at_start (suc u) row here = absurd (cc (here))

  all_fresh : (n : ℕ) → n ≤ first → AllFresh n
  all_fresh zero le = λ row here. while_made 0 row here (at_start t row here)
  all_fresh (suc n) le = over_entry n (slice_get journal n) refl (omega (arith, le)) (all_fresh n (omega (arith, le)))

  pub starts_first : StartsFrom p lim journal t first (first_frame lim t (entry_frame p last.decl last.args))
  starts_first =
      let may = runner p wf keeps lim journal legal t first is_first.segment in
      let row = may.0.0 in
      let fresh = all_fresh first (omega arith) row may.0.1 in
      let kept = (later_end p wf lim journal legal first).kept t row may.0.1 in
      let same : kept.now ≡ last = got_one (slice_get (state_after p lim journal).tasks t) kept.there there_last in
      let decl : row.decl ≡ last.decl = sym kept.decl ∙ ap (λ (r : TaskRow). r.decl) same in
      let args : row.args ≡ last.args = sym kept.args ∙ ap (λ (r : TaskRow). r.args) same in
      let frame : row.frame ≡ first_frame lim t (entry_frame p last.decl last.args) = fresh ∙ (λ i. first_frame lim t (entry_frame p (decl i) (args i))) in
      let go : row.frame.next ≡ Go = ap (λ (f : Frame). f.next) frame in
      let value = awaited_value (st first).tasks (row_awaited row.frame.next) in
      let ready : ready_frame (st first).tasks row.frame ≡ row.frame = ap (λ (n : Next). given_by n row.frame value) go in
      record { segment = is_first.segment; row = row; there = may.0.1; frame_is = sym (ready ∙ frame) }
