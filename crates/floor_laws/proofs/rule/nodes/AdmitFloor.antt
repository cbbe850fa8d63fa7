-- The entry of an admission keeps the rule of the floor.
use Rattle.std.proofs.Common.{◌≡◌, ◌≢◌, ◌<◌, ◌≤◌, ◌+◌, ◌++◌, ℕ, ℤ, List, [], ◌∷◌, length, Some, refl, sym, ap, subst, ◌∙◌, inl, inr, ⊎_elim, length-append, length-set}
use Rattle.std.specs.Prelude.{slice_get, slice_set}
use Rattle.std.proofs.lemmas.List.{append-nil, append_assoc, map-append}
use Rattle.seg_journal.specs.declared.journal.Entry.{Entry}
use Rattle.seg_journal.specs.declared.moves.Kind.TheVariants.{Admit}
use Rattle.seg_journal.specs.declared.moves.Move.{Move}
use Rattle.twe_base.specs.Limits.{Bounds}
use Rattle.twe_program.specs.Program.{Program}
use Rattle.machine_state.specs.declared.state.State.{State}
use Rattle.machine_state.specs.declared.state.TaskRow.{TaskRow}
use Rattle.machine_state.specs.declared.state.TaskStatus.{TaskStatus}
use Rattle.machine_state.specs.declared.state.TaskStatus.TheVariants as status
use Rattle.machine_state.specs.Legal.{MayAdmit}
use Rattle.machine_state.specs.Moves.{admitted, admitted_row, result_by_kind}
use Rattle.machine_state.specs.Rows.{HasStatus, IsRow}
use Rattle.machine_state.specs.Runs.{IsRun, state_after}
use Rattle.machine_state.proofs.lists.Places.{got_one, put_cases, set_other, set_same}
use Rattle.machine_state.proofs.replays.Replayed.{run_more}
use Rattle.seg_journal.specs.declared.numbered.NumberedEntry.{NumberedEntry}
use Rattle.seg_journal.specs.Merging.{journal_of, prints_of}
use Rattle.floor_laws.specs.declared.rule.view.DoneFact.{DoneFact}
use Rattle.floor_laws.specs.declared.rule.view.HeldTurn.{HeldTurn}
use Rattle.floor_laws.specs.declared.rule.view.OpenSegment.{OpenSegment}
use Rattle.floor_laws.specs.declared.rule.view.Phase.{Phase}
use Rattle.floor_laws.specs.declared.rule.view.Phase.TheVariants as phases
use Rattle.floor_laws.specs.rule.Fitting.{FactsHold, FloorFits, HomeFits, IsMade, IsUnheld, PhaseFits, RowIs, RowsAreKnown, SegmentsAreOpen, TurnFits, Turns}
use Rattle.floor_laws.specs.rule.Floors.{Floor, Home, Away, Empty, Holds, TurnWord, Free, Taken, New, put_turn}
use Rattle.floor_laws.specs.rule.Rows.{unmarked}
use Rattle.floor_laws.specs.rule.Rule.{KeepsRule}
use Rattle.floor_laws.specs.rule.Touches.{accesses_of}
use Rattle.floor_laws.proofs.rule.Puts.{none_some, some_one}
use Rattle.floor_laws.proofs.rule.RuleSteps.{lies_more}
use Rattle.floor_laws.proofs.rule.RunLemmas.{open_still}
use Rattle.floor_laws.proofs.rule.TurnLemmas.{one_holder_put, phases_put, turn_fits_replaced, turn_here, turn_of_other, turn_was}
use Rattle.floor_laws.proofs.rule.TurnSteps.{alone, held_not_free, homes_replaced}
use Rattle.floor_laws.specs.rule.nodes.AdmitSteps.{admission_drawn, after_admission}

made_enabled : status.Made ≡ status.Enabled → ⊥
made_enabled h = cc

made_done : status.Made ≡ status.Done → ⊥
made_done h = cc

made_faulted : status.Made ≡ status.Faulted → ⊥
made_faulted h = cc

prints_more : (log : List NumberedEntry) (e : NumberedEntry) → prints_of (log ++ e ∷ []) ≡ prints_of log ++ e.prints
prints_more [] e = append-nil e.prints
prints_more (x ∷ log) e = ap (λ (l : List ℤ). x.prints ++ l) (prints_more log e) ∙ sym (append_assoc x.prints (prints_of log) e.prints)

-- The state of which task t was admitted.
module _ (st : State) (t : ℕ) (row : TaskRow) (there : IsRow st t row) (made : row.status ≡ status.Made) where
  abbrev pub next : State
  next = record st { tasks = slice_set st.tasks t (admitted_row row) }

  pub own_row : IsRow next t (admitted_row row)
  own_row = set_same st.tasks t row (admitted_row row) there

  pub other_row : (u : ℕ) (r : TaskRow) → u ≢ t → IsRow st u r → IsRow next u r
  other_row u r other at = set_other st.tasks t u (admitted_row row) other ∙ at

  row_before : (u : ℕ) (r : TaskRow) → u ≢ t → IsRow next u r → IsRow st u r
  row_before u r other at = sym (set_other st.tasks t u (admitted_row row) other) ∙ at

  as_long : length (slice_set st.tasks t (admitted_row row)) ≡ length st.tasks
  as_long = length-set st.tasks t (admitted_row row)

  made_next : (u : ℕ) → IsMade st u → IsMade next u
  made_next u below = subst (λ (n : ℕ). u < n) (sym as_long) below

  turn_next : (held : Turns) (workers : ℕ → ℕ) (u : ℕ) (word : TurnWord) → TurnFits st held workers u word → TurnFits next held workers u word
  turn_next held workers u Free fits = (made_next u fits.0, fits.1)
  turn_next held workers u (Taken worker) fits = fits
  turn_next held workers u New (inl new) = inl (subst (λ (n : ℕ). n ≤ u) (sym as_long) new.0, new.1)
  turn_next held workers u New (inr first) = inr first

  home_next : (held : Turns) (u : ℕ) (home : Home) → (IsUnheld held u → u ≢ t) → HomeFits st held u home → HomeFits next held u home
  home_next held u Away other fits = fits
  home_next held u Empty other fits = subst (λ (n : ℕ). n ≤ u) (sym as_long) fits
  home_next held u (Holds slot) other fits =
      (fits.0, record { row = fits.1.row; there = other_row u fits.1.row (other fits.0) fits.1.there; same = fits.1.same })

  has_else : (u : ℕ) (to : TaskStatus) → status.Made ≢ to → HasStatus st u to → u ≢ t
  has_else u to apart has same =
      let one : has.0 ≡ row = got_one (slice_get st.tasks t) (subst (λ (n : ℕ). IsRow st n has.0) same has.1) there in
      apart (sym made ∙ (ap (λ (r : TaskRow). r.status) (sym one) ∙ has.2))

  phase_next : (u : ℕ) (phase : Phase) → PhaseFits st u phase → PhaseFits next u phase
  phase_next u phases.Absent fits = tt
  phase_next u phases.Made fits = made_next u fits
  phase_next u phases.Running fits = made_next u fits
  phase_next u (phases.Waits on) fits =
      let other = has_else u status.Enabled made_enabled (fits.row, fits.there, fits.enabled) in
      record { row = fits.row; there = other_row u fits.row other fits.there; enabled = fits.enabled; on = fits.on }
  phase_next u phases.Done fits = (fits.0, other_row u fits.0 (has_else u status.Done made_done fits) fits.1, fits.2)
  phase_next u phases.Faulted fits = (fits.0, other_row u fits.0 (has_else u status.Faulted made_faulted fits) fits.1, fits.2)

  facts_next : (facts : ℕ → List DoneFact) → FactsHold st facts → FactsHold next facts
  facts_next facts hold j fact among =
      let was = hold j fact among in
      let other = has_else fact.task status.Done made_done (was.row, was.there, was.done) in
      record { row = was.row; there = other_row fact.task was.row other was.there; done = was.done; value_is = was.value_is }

  module _ (p : Program) (f : Floor) (fits : FloorFits p st f) (i : ℕ) (turn : HeldTurn) (has : f.held i t ≡ Some turn) (same : unmarked row ≡ turn.row) where
    abbrev new : HeldTurn
    new = record turn { row = admitted_row turn.row }

    abbrev set : Turns
    set = put_turn f.held i t (Some new)

    only : (j : ℕ) (other : HeldTurn) → f.held j t ≡ Some other → j ≡ i
    only = alone p st f fits i t turn new has refl

    not_own : (u : ℕ) → IsUnheld set u → u ≢ t
    not_own u none is = none_some (sym (none i) ∙ (ap (set i) is ∙ turn_here f.held i t (Some new)))

    known_row : RowIs next t new.row
    known_row = record { row = admitted_row row; there = own_row; same = ap admitted_row same }

    rows_next : RowsAreKnown next set
    rows_next j u h at =
        ⊎_elim
        (λ (here : (j ≡ i) × (u ≡ t) × (Some new ≡ Some h)).
        subst (λ (n : ℕ). RowIs next n h.row) (sym here.1) (subst (λ (x : HeldTurn). RowIs next t x.row) (some_one here.2) known_row))
        (λ (old : ((j ≡ i) → u ≢ t) × (f.held j u ≡ Some h)).
        let other : u ≢ t = λ is. old.0 (only j h (ap (f.held j) (sym is) ∙ old.1)) is in
        let was = fits.rows j u h old.1 in
        record { row = was.row; there = other_row u was.row other was.there; same = was.same })
        (turn_was f.held i t (Some new) j u h at)

    -- no segment of a task that was not admitted is open
    apart_open : (j : ℕ) (s : OpenSegment) → f.segments j ≡ Some s → s.task ≢ t
    apart_open j s at is =
        let open_one = fits.segments j s at in
        let known = fits.rows j s.task open_one.turn open_one.has in
        let status_same : known.row.status ≡ open_one.turn.row.status = ap (λ (r : TaskRow). r.status) known.same in
        has_else s.task status.Enabled made_enabled (known.row, known.there, status_same ∙ open_one.may.enabled) is

    segments_next : SegmentsAreOpen p set f.facts f.segments
    segments_next j s at =
        open_still p (f.held j) (set j) (f.facts j) (f.facts j) s.task (accesses_of s.touches)
        (λ old held. (old, turn_of_other f.held i t (Some new) j s.task (apart_open j s at) ∙ held, refl, refl))
        (λ fact among. among)
        (fits.segments j s at)

    pub admitting : FloorFits p next (after_admission f i t turn)
    admitting = record {
      asked = fits.asked;
      one_holder = one_holder_put f.held i t (Some new) fits.one_holder only;
      turns = λ u. turn_next set f.workers u (f.turns u) (turn_fits_replaced f.held i t turn new has refl fits.one_holder st f.workers u (f.turns u) (fits.turns u));
      rows = rows_next;
      homes = λ u. home_next set u (f.homes u) (not_own u) (homes_replaced p st f fits i t turn new has refl u (f.homes u) (fits.homes u));
      phases = λ u. phase_next u (f.phases u) (fits.phases u);
      free_phases = λ u r free at.
          let other : u ≢ t = λ is. held_not_free p st f fits i t turn new has refl (ap f.turns (sym is) ∙ free) in
          fits.free_phases u r free (row_before u r other at);
      known_phases = phases_put f.held i t (Some new) f.phases fits.known_phases (λ other is. fits.known_phases i t turn has ∙ ap (λ (h : HeldTurn). h.phase) (some_one is));
      segments = segments_next;
      reads = fits.reads;
      size = fits.size;
      written = fits.written;
      others = fits.others;
      facts = facts_next f.facts fits.facts;
    }

-- The log with the entry.
module _ (p : Program) (lim : Bounds) (log : List NumberedEntry) (f : Floor) (rule : KeepsRule p lim log f) (t : ℕ) (may : MayAdmit (state_after p lim (journal_of log)) t) where
  abbrev st : State
  st = state_after p lim (journal_of log)

  abbrev e : NumberedEntry
  e = admission_drawn f t

  abbrev move : Move
  move = record { kind = Admit; task = t }

  pub run_admitted : IsRun p lim (journal_of (log ++ admission_drawn f t ∷ [])) (result_by_kind p lim (state_after p lim (journal_of log)) Admit t).0
  run_admitted =
      subst (λ (journal : List Entry). IsRun p lim journal (result_by_kind p lim st Admit t).0) (sym (map-append (λ (x : NumberedEntry). x.entry) log (e ∷ [])))
      (run_more p lim (journal_of log) st move (record { legal = rule.legal; same = refl }) may)

  -- the state that it leads to
  pub next_is : (row : TaskRow) (there : IsRow (state_after p lim (journal_of log)) t row)
      → record (state_after p lim (journal_of log)) { tasks = slice_set (state_after p lim (journal_of log)).tasks t (admitted_row row) }
      ≡ state_after p lim (journal_of (log ++ admission_drawn f t ∷ []))
  next_is row there = ap (admitted st t) (sym there) ∙ run_admitted.same

  pub admitted_rule : (i : ℕ) (turn : HeldTurn) → f.held i t ≡ Some turn → turn.row.status ≡ status.Made
      → KeepsRule p lim (log ++ admission_drawn f t ∷ []) (after_admission f i t turn)
  admitted_rule i turn has made =
      let known = rule.fits.rows i t turn has in
      let is_made : known.row.status ≡ status.Made = ap (λ (r : TaskRow). r.status) known.same ∙ made in
      record {
        legal = run_admitted.legal;
        numbers = λ n x at.
            ⊎_elim
            (λ (before : slice_get log n ≡ Some x). rule.numbers n x before)
            (λ (last : (n ≡ length log) × (e ≡ x)). ap (λ (y : NumberedEntry). y.number) (sym last.1) ∙ (rule.entries ∙ sym last.0))
            (put_cases log e n x at);
        parts = lies_more log f.parts rule.parts i e rule.entries;
        entries = ap (λ (n : ℕ). n + 1) rule.entries ∙ sym (length-append log (e ∷ []));
        prints =
            ap (λ (s : State). s.prints) (sym (next_is known.row known.there))
            ∙ (rule.prints ∙ (sym (append-nil (prints_of log)) ∙ sym (prints_more log e)));
        fits = subst (λ (s : State). FloorFits p s (after_admission f i t turn)) (next_is known.row known.there)
            (admitting st t known.row known.there is_made p f rule.fits i turn has known.same);
      }
