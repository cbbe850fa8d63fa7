-- The first entry after which a task is there and admitted is the one that enabled it.
use Rattle.std.proofs.Common.{◌≡◌, ◌≢◌, ◌⊎◌, ◌≤◌, ◌<◌, ℕ, zero, suc, Bool, true, false, List, length, Option, None, Some, inl, inr, refl, sym, ap, ◌∙◌, subst, arith, take_all}
use Rattle.std.specs.Prelude.{slice_get, take}
use Rattle.std.proofs.lemmas.Bool.{cases_eq}
use Rattle.seg_journal.specs.declared.journal.End.TheVariants as entry_ends
use Rattle.seg_journal.specs.declared.journal.Entry.{Entry}
use Rattle.seg_journal.specs.declared.moves.Kind.{Kind}
use Rattle.seg_journal.specs.declared.moves.Kind.TheVariants.{Admit, Run}
use Rattle.twe_base.specs.Limits.{Bounds}
use Rattle.twe_program.specs.Program.{Program}
use Rattle.twe_program.specs.WellFormed.{IsWellFormed}
use Rattle.isolation_laws.specs.soundness.KeepsEffects.{KeepsEffects}
use Rattle.machine_state.specs.declared.state.State.{State}
use Rattle.machine_state.specs.declared.state.TaskRow.{TaskRow}
use Rattle.machine_state.specs.declared.state.TaskStatus.{TaskStatus}
use Rattle.machine_state.specs.declared.state.TaskStatus.TheVariants.{Made, Enabled, Done, Faulted}
use Rattle.machine_state.specs.Legal.{MayTake}
use Rattle.machine_state.specs.Moves.{admitted, admitted_row, parent_of, result_by_kind, status_at_start}
use Rattle.machine_state.specs.Rows.{HasStatus, IsRow}
use Rattle.machine_state.specs.Runs.{Legal, state_after}
use Rattle.machine_state.proofs.tasks.OtherRows.{row_after}
use Rattle.machine_state.proofs.lists.Places.{below_there, got_one, set_same}
use Rattle.determinism_laws.specs.Segments.{IsSegmentOf, Spawns, state_before}
use Rattle.determinism_laws.proofs.JournalPlaces.{later_end, stands_at, taken_at}
use Rattle.determinism_laws.proofs.NewTasks.{move_row}
use Rattle.determinism_laws.proofs.OwnCells.{take_past}
use Rattle.determinism_laws.proofs.Trees.{runner}
use Rattle.determinism_laws.specs.results.Results.{IsEnabledBy}
use Rattle.determinism_laws.specs.results.Results as results

-- what is not there is past the end
pub past_end : {X : Type 0} (xs : List X) (n : ℕ) → slice_get xs n ≡ None → length xs ≤ n
past_end xs n gone =
    let outside : n < length xs → ⊥ = λ below. let found = below_there xs n below in let some = found.1 in cc (some, gone) in
    omega (arith, outside)

-- the row of a task that is admitted
admitted_now : (st : State) (t : ℕ) (row : TaskRow) (found : Option TaskRow) → slice_get st.tasks t ≡ found → found ≡ Some row → IsRow (admitted st t found) t (admitted_row row)
admitted_now st t row None e is = absurd (cc (is))
admitted_now st t row (Some other) e is =
    let same : other ≡ row = cc (is) in
    subst (λ (r : TaskRow). IsRow (admitted st t (Some other)) t (admitted_row r)) same (set_same st.tasks t other (admitted_row other) e)

module _ (p : Program) (wf : IsWellFormed p) (keeps : KeepsEffects p) (lim : Bounds) (journal : List Entry) (legal : Legal p lim journal) (t : ℕ) where
  abbrev st : ℕ → State
  st n = state_before p lim journal n

  -- t is not enabled yet before this entry, and has had no segment
  record NotYet (n : ℕ) : Type 0 where
    silent : (i : ℕ) → i < n → ¬ IsSegmentOf journal t i
    made : (row : TaskRow) → IsRow (st n) t row → row.status ≡ Made

  -- the entry at `place` enabled t, and t has had no segment up to there
  pub record BecameEnabled : Type 0 where
    pub place : ℕ
    pub enabled_by : IsEnabledBy p lim journal t place
    pub enabled : HasStatus (st (suc place)) t Enabled
    pub silent : (i : ℕ) → i < suc place → ¬ IsSegmentOf journal t i

  -- so its next entry is no segment
  still_silent : (n : ℕ) → NotYet n → (i : ℕ) → i < suc n → ¬ IsSegmentOf journal t i
  still_silent n yet i below segment = elim (cases_eq i n) [
    | inl same ↦
        let may = runner p wf keeps lim journal legal t n (subst (λ (k : ℕ). IsSegmentOf journal t k) same segment) in
        let both : Made ≡ Enabled = sym (yet.made may.0.0 may.0.1) ∙ may.0.2 in
        cc (both)
    | inr differ ↦ yet.silent i (omega (arith, below, differ)) segment
  ]

  -- The entry after which t is admitted.

  abbrev EnabledNow : ℕ → Type 0
  EnabledNow n = IsEnabledBy p lim journal t n × HasStatus (st (suc n)) t Enabled

  own_admission : (n : ℕ) (entry : Entry) (kind : Kind) → slice_get journal n ≡ Some entry → entry.mv.kind ≡ kind → entry.mv.task ≡ t → (row : TaskRow) → IsRow (st n) t row → row.status ≡ Made
      → EnabledNow n
  own_admission n entry Run there is own row here made =
      let taken = taken_at p wf lim journal legal n entry there in
      let may = subst (MayTake (st n) Run) own (subst (λ (k : Kind). MayTake (st n) k entry.mv.task) is taken.may) in
      let same : row ≡ may.0.0 = got_one (slice_get (st n).tasks t) here may.0.1 in
      let both : Made ≡ Enabled = sym made ∙ (ap (λ (r : TaskRow). r.status) same ∙ may.0.2) in
      absurd (cc (both))
  own_admission n entry Admit there is own row here made =
      let taken = taken_at p wf lim journal legal n entry there in
      let leads : st (suc n) ≡ (result_by_kind p lim (st n) Admit t).0 = taken.leads ∙ (λ i. (result_by_kind p lim (st n) (is i) (own i)).0) in
      let now : IsRow (result_by_kind p lim (st n) Admit t).0 t (admitted_row row) = admitted_now (st n) t row (slice_get (st n).tasks t) refl here in
      (results.admitted entry there is own, (admitted_row row, subst (λ (s : State). IsRow s t (admitted_row row)) (sym leads) now, refl))

  from_made : (n : ℕ) (entry : Entry) → slice_get journal n ≡ Some entry → (row new : TaskRow) → IsRow (st n) t row → row.status ≡ Made → IsRow (st (suc n)) t new → new.status ≢ Made
      → EnabledNow n
  from_made n entry there row new here made later changed =
      let taken = taken_at p wf lim journal legal n entry there in
      elim (cases_eq t entry.mv.task) [
        | inl own ↦ own_admission n entry entry.mv.kind there refl (sym own) row here made
        | inr differ ↦ elim (row_after p lim (st n) entry.mv.task t differ row here entry.mv.kind) [
          | inl stays ↦
              let now = subst (λ (s : State). IsRow s t row) (sym taken.leads) stays.1 in
              absurd (changed (ap (λ (r : TaskRow). r.status) (got_one (slice_get (st (suc n)).tasks t) later now) ∙ made))
          | inr marked ↦
              let joined : TaskRow = record row { joined = true } in
              let now = subst (λ (s : State). IsRow s t joined) (sym taken.leads) marked.1 in
              absurd (changed (ap (λ (r : TaskRow). r.status) (got_one (slice_get (st (suc n)).tasks t) later now) ∙ made))
        ]
      ]

  from_spawn : (n : ℕ) (entry : Entry) → slice_get journal n ≡ Some entry → length (st n).tasks ≤ t → (new : TaskRow) → IsRow (st (suc n)) t new → new.status ≢ Made → EnabledNow n
  from_spawn n entry there past new later changed =
      let taken = taken_at p wf lim journal legal n entry there in
      let here = subst (λ (s : State). IsRow s t new) taken.leads later in
      let moved = move_row p lim (st n) (stands_at p wf lim journal legal n) entry.mv.task entry.mv.kind t past new here in
      let makes = moved.makes in
      by_spawn makes.spawned (sym taken.end ∙ makes.end_is) moved.runs makes.parent makes.status
    where
      by_spawn : (spawned : Bool) → entry.end ≡ entry_ends.Made t → entry.mv.kind ≡ Run → new.parent ≡ parent_of entry.mv.task spawned
          → new.status ≡ status_at_start (parent_of entry.mv.task spawned) → EnabledNow n
      by_spawn false made runs parent status = absurd (changed status)
      by_spawn true made runs parent status =
          let kept = (later_end p wf lim journal legal (suc n)).kept t new later in
          let segment : IsSegmentOf journal entry.mv.task n = record { entry = entry; there = there; runs = runs; task = refl } in
          let spawn : Spawns p lim journal entry.mv.task n t = record { segment = segment; made = made; child = kept.now; there = kept.there; parent = kept.parent ∙ parent } in
          (results.spawned entry.mv.task spawn, (new, later, status))

  enabled_now : (n : ℕ) (entry : Entry) → slice_get journal n ≡ Some entry → NotYet n → (new : TaskRow) → IsRow (st (suc n)) t new → new.status ≢ Made → (found : Option TaskRow)
      → slice_get (st n).tasks t ≡ found → EnabledNow n
  enabled_now n entry there yet new later changed (Some row) here = from_made n entry there row new here (yet.made row here) later changed
  enabled_now n entry there yet new later changed None gone = from_spawn n entry there (past_end (st n).tasks t gone) new later changed

  -- One entry after another.

  found_now : (n : ℕ) → NotYet n → EnabledNow n → BecameEnabled
  found_now n yet now = record { place = n; enabled_by = now.0; enabled = now.1; silent = still_silent n yet }

  by_status : (n : ℕ) (entry : Entry) → slice_get journal n ≡ Some entry → NotYet n → (new : TaskRow) → IsRow (st (suc n)) t new → (status : TaskStatus) → new.status ≡ status
      → NotYet (suc n) ⊎ BecameEnabled
  by_status n entry there yet new later Made is = inl (record {
    silent = still_silent n yet;
    made = λ row here. ap (λ (r : TaskRow). r.status) (got_one (slice_get (st (suc n)).tasks t) here later) ∙ is;
  })
  by_status n entry there yet new later Enabled is =
      inr (found_now n yet (enabled_now n entry there yet new later (λ made. let both : Enabled ≡ Made = sym is ∙ made in cc (both)) (slice_get (st n).tasks t) refl))
  by_status n entry there yet new later Done is =
      inr (found_now n yet (enabled_now n entry there yet new later (λ made. let both : Done ≡ Made = sym is ∙ made in cc (both)) (slice_get (st n).tasks t) refl))
  by_status n entry there yet new later Faulted is =
      inr (found_now n yet (enabled_now n entry there yet new later (λ made. let both : Faulted ≡ Made = sym is ∙ made in cc (both)) (slice_get (st n).tasks t) refl))

  by_row : (n : ℕ) (entry : Entry) → slice_get journal n ≡ Some entry → NotYet n → (found : Option TaskRow) → slice_get (st (suc n)).tasks t ≡ found → NotYet (suc n) ⊎ BecameEnabled
  by_row n entry there yet None gone = inl (record { silent = still_silent n yet; made = λ row here. absurd (cc (gone, here)) })
  by_row n entry there yet (Some new) later = by_status n entry there yet new later new.status refl

  by_entry : (n : ℕ) (found : Option Entry) → slice_get journal n ≡ found → NotYet n → NotYet (suc n) ⊎ BecameEnabled
  by_entry n None gone yet = inl (record {
    silent = still_silent n yet;
    made = λ row here. yet.made row (subst (λ (entries : List Entry). IsRow (state_after p lim entries) t row) (take_past journal n gone) here);
  })
  by_entry n (Some entry) there yet = by_row n entry there yet (slice_get (st (suc n)).tasks t) refl

  made_at_start : (u : ℕ) (row : TaskRow) → IsRow (st 0) u row → row.status ≡ Made
  made_at_start zero row here = let same = got_one (slice_get (st 0).tasks 0) refl here in ap (λ (r : TaskRow). r.status) (sym same)
  made_at_start (suc u) row here = absurd (cc (here))

  search : (n : ℕ) → NotYet n ⊎ BecameEnabled
  search zero = inl (record { silent = λ i below. absurd (omega (arith, below)); made = made_at_start t })
  search (suc n) = elim (search n) [
    | inl yet ↦ by_entry n (slice_get journal n) refl yet
    | inr found ↦ inr found
  ]

  -- a task that is done at the end became enabled
  pub became_enabled : HasStatus (state_after p lim journal) t Done → BecameEnabled
  became_enabled done = elim (search (length journal)) [
    | inl yet ↦
        let all : take (length journal) journal ≡ journal = take_all (length journal) journal (omega arith) in
        let here = subst (λ (entries : List Entry). IsRow (state_after p lim entries) t done.0) (sym all) done.1 in
        let both : Made ≡ Done = sym (yet.made done.0 here) ∙ done.2 in
        absurd (cc (both))
    | inr found ↦ found
  ]
