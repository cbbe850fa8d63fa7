-- The steps on turns, phases and seats keep the rule.
use Rattle.std.proofs.Common.{◌≡◌, ◌≢◌, ◌≤◌, ◌++◌, ℕ, ℤ, false, List, [], ◌∷◌, length, Option, None, Some, refl, sym, ap, subst, ◌∙◌, inl, inr, ⊎_elim, arith}
use Rattle.std.specs.Prelude.{slice_get}
use Rattle.std.proofs.lemmas.Bool.{cases_eq}
use Rattle.twe_program.specs.Program.{Program}
use Rattle.machine_state.specs.declared.state.State.{State}
use Rattle.machine_state.specs.declared.state.TaskRow.{TaskRow}
use Rattle.machine_state.specs.declared.state.TaskStatus.{TaskStatus}
use Rattle.machine_state.specs.declared.state.TaskStatus.TheVariants as status
use Rattle.machine_state.specs.Changes.{IsDoneWith}
use Rattle.machine_state.specs.Rows.{HasStatus, IsRow, row_awaited}
use Rattle.machine_state.proofs.lists.Places.{got_one}
use Rattle.std.proofs.lemmas.Option.{slice_get_within}
use Rattle.floor_laws.specs.declared.rule.view.DoneFact.{DoneFact}
use Rattle.floor_laws.specs.declared.rule.view.HeldTurn.{HeldTurn}
use Rattle.floor_laws.specs.declared.rule.view.OpenSegment.{OpenSegment}
use Rattle.floor_laws.specs.declared.rule.view.Phase.{Phase}
use Rattle.floor_laws.specs.declared.rule.view.Phase.TheVariants.{Done}
use Rattle.floor_laws.specs.declared.rule.view.TaskSlot.{TaskSlot}
use Rattle.floor_laws.specs.rule.Floors.{Floor, Home, Away, Empty, Holds, TurnWord, Free, Taken, New, put, put_turn}
use Rattle.floor_laws.specs.rule.Fitting.{FloorFits, FactsHold, HomeFits, IsHeld, IsMade, IsUnheld, PhaseFits, SegmentsAreOpen, SlotIs, TurnFits, Turns}
use Rattle.floor_laws.specs.rule.Rows.{phase_at, phase_of, slot_of, unmarked}
use Rattle.floor_laws.specs.rule.Steps.{MayGive, MayJoin, MayStorePhase, HasNoTurn, after_finding_done, after_giving, after_join, after_phase, after_split, after_taking, with_row}
use Rattle.floor_laws.specs.admission.admission_core.States.{IsAmong}
use Rattle.floor_laws.specs.rule.Touches.{accesses_of}
use Rattle.floor_laws.proofs.rule.Puts.{none_some, put_all, put_else, put_here, some_one}
use Rattle.floor_laws.proofs.rule.RunLemmas.{AllHold, AreAmong, open_still}
use Rattle.floor_laws.proofs.rule.TurnLemmas.{held_else, held_replaced, one_holder_put, phases_put, rows_put, turn_fits_else, turn_fits_replaced, turn_here, turn_of_other, turn_was, turns_elsewhere, unheld_else, unheld_replaced}

free_taken : (worker : ℕ) → Free ≡ Taken worker → ⊥
free_taken worker h = cc

free_new : Free ≡ New → ⊥
free_new h = cc

all_same : (facts : List DoneFact) → AreAmong facts facts
all_same facts fact among = among

-- a slot of another task fits as before
pub home_else : (st : State) (held : Turns) (i t : ℕ) (x : Option HeldTurn) (u : ℕ) (home : Home) → u ≢ t → HomeFits st held u home → HomeFits st (put_turn held i t x) u home
home_else st held i t x u Away other fits = held_else held i t x u other fits
home_else st held i t x u Empty other fits = fits
home_else st held i t x u (Holds slot) other fits = (unheld_else held i t x u other fits.0, fits.1)

none_of : {A : Type 0} (o : Option A) → ((x : A) → o ≡ Some x → ⊥) → o ≡ None
none_of None never = refl
none_of (Some x) never = absurd (never x refl)

-- a turn that was at one seat and is given is at none
given_away : (held : Turns) (i t : ℕ) → ((j : ℕ) (other : HeldTurn) → held j t ≡ Some other → j ≡ i) → IsUnheld (put_turn held i t None) t
given_away held i t alone j =
    ⊎_elim
    (λ (same : j ≡ i). ap (λ (n : ℕ). put_turn held i t None n t) same ∙ turn_here held i t None)
    (λ (differ : j ≢ i).
    ap (λ (g : ℕ → Option HeldTurn). g t) (turns_elsewhere held i t None j differ) ∙ none_of (held j t) (λ other at. differ (alone j other at)))
    (cases_eq j i)

phase_by : (st : State) (t : ℕ) (row : TaskRow) → IsRow st t row → (to : TaskStatus) (on : Option ℕ) → row.status ≡ to → row_awaited row.frame.next ≡ on → PhaseFits st t (phase_at to on)
phase_by st t row there status.Made on is waits = slice_get_within st.tasks t row there
phase_by st t row there status.Enabled None is waits = slice_get_within st.tasks t row there
phase_by st t row there status.Enabled (Some u) is waits = record { row = row; there = there; enabled = is; on = waits }
phase_by st t row there status.Done on is waits = (row, there, is)
phase_by st t row there status.Faulted on is waits = (row, there, is)

-- the phase that its row gives a task fits
pub row_phase_fits : (st : State) (t : ℕ) (row : TaskRow) → IsRow st t row → PhaseFits st t (phase_of row)
row_phase_fits st t row there = phase_by st t row there row.status (row_awaited row.frame.next) refl refl

module _ (p : Program) (st : State) (f : Floor) (fits : FloorFits p st f) where
  free_fits : (t : ℕ) → f.turns t ≡ Free → IsMade st t × IsUnheld f.held t
  free_fits t is = subst (TurnFits st f.held f.workers t) is (fits.turns t)

  -- the slot of a made task whose turn nobody has
  home_of : (t : ℕ) → IsMade st t → IsUnheld f.held t → (home : Home) → f.homes t ≡ home → (slot : TaskSlot) × (f.homes t ≡ Holds slot) × SlotIs st t slot
  home_of t made none Away is =
      let by : IsHeld f.held t = subst (HomeFits st f.held t) is (fits.homes t) in
      absurd (none_some (sym (none by.seat) ∙ by.has))
  home_of t made none Empty is =
      let past : length st.tasks ≤ t = subst (HomeFits st f.held t) is (fits.homes t) in
      absurd (omega (arith, past, made))
  home_of t made none (Holds slot) is =
      let here : IsUnheld f.held t × SlotIs st t slot = subst (HomeFits st f.held t) is (fits.homes t) in
      (slot, is, here.1)

  -- Segments stay open where the turns of their tasks stay.
  segments_put : (i t : ℕ) (x : Option HeldTurn) (facts : ℕ → List DoneFact) → ((s : OpenSegment) → f.segments i ≡ Some s → s.task ≢ t)
      → ((j : ℕ) → AreAmong (f.facts j) (facts j)) → SegmentsAreOpen p (put_turn f.held i t x) facts f.segments
  segments_put i t x facts closed more j s is =
      let before = fits.segments j s is in
      open_still p (f.held j) (put_turn f.held i t x j) (f.facts j) (facts j) s.task (accesses_of s.touches)
      (λ turn has. (
        turn,
        ⊎_elim
            (λ (same : j ≡ i).
            let other : s.task ≢ t = closed s (ap f.segments (sym same) ∙ is) in
            turn_of_other f.held i t x j s.task other ∙ has)
            (λ (differ : j ≢ i). ap (λ (g : ℕ → Option HeldTurn). g s.task) (turns_elsewhere f.held i t x j differ) ∙ has)
            (cases_eq j i),
        refl,
        refl,
      ))
      (more j)
      before

  -- Taking.
  pub taking : (i t : ℕ) → f.turns t ≡ Free → (turn : HeldTurn) × (turn.first ≡ false) × (f.homes t ≡ Holds (slot_of turn.row)) × FloorFits p st (after_taking f i t turn)
  taking i t free =
      let here = free_fits t free in
      let home = home_of t here.0 here.1 (f.homes t) refl in
      let row = home.2.row in
      let turn : HeldTurn = record { first = false; row = unmarked row; phase = f.phases t } in
      let set : Turns = put_turn f.held i t (Some turn) in (
        turn,
        refl,
        home.1 ∙ ap Holds home.2.same,
        record {
          asked = fits.asked;
          one_holder = one_holder_put f.held i t (Some turn) fits.one_holder (λ j other at. absurd (none_some (sym (here.1 j) ∙ at)));
          turns = put_all (TurnFits st set f.workers) f.turns t (Taken (f.workers i))
              (record { by = record { seat = i; turn = turn; has = turn_here f.held i t (Some turn) }; taken = refl; worker_is = refl })
              (λ u other. turn_fits_else f.held i t (Some turn) st f.workers u (f.turns u) other (fits.turns u));
          rows = rows_put f.held i t (Some turn) st fits.rows (λ other is. record { row = row; there = home.2.there; same = ap (λ (h : HeldTurn). h.row) (some_one is) });
          homes = put_all (HomeFits st set) f.homes t Away
              (record { seat = i; turn = turn; has = turn_here f.held i t (Some turn) })
              (λ u other. home_else st f.held i t (Some turn) u (f.homes u) other (fits.homes u));
          phases = fits.phases;
          free_phases = λ u other_row is there.
              ⊎_elim
              (λ (same : u ≡ t). absurd (free_taken (f.workers i) (sym is ∙ (ap (put f.turns t (Taken (f.workers i))) same ∙ put_here f.turns t (Taken (f.workers i))))))
              (λ (other : u ≢ t). fits.free_phases u other_row (sym (put_else f.turns t u (Taken (f.workers i)) other) ∙ is) there)
              (cases_eq u t);
          known_phases = phases_put f.held i t (Some turn) f.phases fits.known_phases (λ other is. ap (λ (h : HeldTurn). h.phase) (some_one is));
          segments = segments_put i t (Some turn) f.facts
              (λ s is same.
              let open_one = fits.segments i s is in
              none_some (sym (here.1 i) ∙ (ap (f.held i) (sym same) ∙ open_one.has)))
              (λ j. all_same (f.facts j));
          reads = fits.reads;
          size = fits.size;
          written = fits.written;
          others = fits.others;
          facts = fits.facts;
        },
      )

  -- Giving.

  row_facts : (to : TaskStatus) (t : ℕ) (row : TaskRow) (facts : List DoneFact) → AreAmong facts (with_row to t row facts)
  row_facts status.Made t row facts fact among = among
  row_facts status.Enabled t row facts fact among = among
  row_facts status.Done t row facts fact among = inr among
  row_facts status.Faulted t row facts fact among = among

  done_more : (t : ℕ) (known row : TaskRow) (facts : List DoneFact) → IsRow st t row → row.status ≡ status.Done → known.value ≡ row.value → AllHold st facts
      → AllHold st (record { task = t; value = known.value } ∷ facts)
  done_more t known row facts there is value hold fact (inl same) =
      subst (λ (x : DoneFact). IsDoneWith st x.task x.value) (sym same) (record { row = row; there = there; done = is; value_is = sym value })
  done_more t known row facts there is value hold fact (inr among) = hold fact among

  row_facts_hold : (to : TaskStatus) (t : ℕ) (known row : TaskRow) (facts : List DoneFact) → IsRow st t row → row.status ≡ to → known.value ≡ row.value → AllHold st facts
      → AllHold st (with_row to t known facts)
  row_facts_hold status.Made t known row facts there is value hold = hold
  row_facts_hold status.Enabled t known row facts there is value hold = hold
  row_facts_hold status.Faulted t known row facts there is value hold = hold
  row_facts_hold status.Done t known row facts there is value hold = done_more t known row facts there is value hold

  -- a set of facts at one seat holds if it holds there
  facts_put : (i : ℕ) (facts : List DoneFact) → AllHold st facts → FactsHold st (put f.facts i facts)
  facts_put i facts hold = put_all (λ (j : ℕ) (known : List DoneFact). AllHold st known) f.facts i facts hold (λ j other. fits.facts j)

  more_put : (i : ℕ) (facts : List DoneFact) → AreAmong (f.facts i) facts → (j : ℕ) → AreAmong (f.facts j) (put f.facts i facts j)
  more_put i facts more = put_all (λ (j : ℕ) (known : List DoneFact). AreAmong (f.facts j) known) f.facts i facts more (λ j other. all_same (f.facts j))

  pub giving : (i t : ℕ) (turn : HeldTurn) → MayGive f i t turn → FloorFits p st (after_giving f i t turn)
  giving i t turn may =
      let set : Turns = put_turn f.held i t None in
      let known = fits.rows i t turn may.has in
      let row = known.row in
      let alone : (j : ℕ) (other : HeldTurn) → f.held j t ≡ Some other → j ≡ i = λ j other at. fits.one_holder j i t other turn at may.has in
      let away : IsUnheld set t = given_away f.held i t alone in
      let slot : slot_of turn.row ≡ slot_of row = ap slot_of (sym known.same) in
      let facts = with_row turn.row.status t turn.row (f.facts i) in
      record {
        asked = fits.asked;
        one_holder = one_holder_put f.held i t None fits.one_holder alone;
        turns = put_all (TurnFits st set f.workers) f.turns t Free
            (slice_get_within st.tasks t row known.there, away)
            (λ u other. turn_fits_else f.held i t None st f.workers u (f.turns u) other (fits.turns u));
        rows = rows_put f.held i t None st fits.rows (λ other is. absurd (none_some is));
        homes = put_all (HomeFits st set) f.homes t (Holds (slot_of turn.row))
            (away, record { row = row; there = known.there; same = slot })
            (λ u other. home_else st f.held i t None u (f.homes u) other (fits.homes u));
        phases = fits.phases;
        free_phases = λ u other_row is there.
            ⊎_elim
            (λ (same : u ≡ t).
            let row_is : other_row ≡ row = got_one (slice_get st.tasks t) (subst (λ (n : ℕ). IsRow st n other_row) same there) known.there in
            ap f.phases same ∙ (fits.known_phases i t turn may.has ∙ (may.phase ∙ (ap phase_of (sym known.same) ∙ ap phase_of (sym row_is)))))
            (λ (other : u ≢ t). fits.free_phases u other_row (sym (put_else f.turns t u Free other) ∙ is) there)
            (cases_eq u t);
        known_phases = phases_put f.held i t None f.phases fits.known_phases (λ other is. absurd (none_some is));
        segments = segments_put i t None (put f.facts i facts) may.closed (more_put i facts (row_facts turn.row.status t turn.row (f.facts i)));
        reads = fits.reads;
        size = fits.size;
        written = fits.written;
        others = fits.others;
        facts = facts_put i facts (row_facts_hold turn.row.status t turn.row row (f.facts i) known.there (ap (λ (r : TaskRow). r.status) known.same) (ap (λ (r : TaskRow). r.value) (sym known.same)) (fits.facts i));
      }

  -- Phases.

  stored_fits : (i t : ℕ) (turn : HeldTurn) (phase : Phase) → MayStorePhase f i t turn phase → PhaseFits st t phase
  stored_fits i t turn phase may =
      let known = fits.rows i t turn may.has in
      elim may.fits [
        | inl last ↦ subst (PhaseFits st t) (ap phase_of known.same ∙ sym last) (row_phase_fits st t known.row known.there)
        | inr running ↦ subst (PhaseFits st t) (sym running.4) (slice_get_within st.tasks t known.row known.there)
      ]

  -- A turn is replaced by one of the same row.
  module _ (i t : ℕ) (turn new : HeldTurn) (has : f.held i t ≡ Some turn) (first : new.first ≡ turn.first) where
    abbrev set : Turns
    set = put_turn f.held i t (Some new)

    pub alone : (j : ℕ) (other : HeldTurn) → f.held j t ≡ Some other → j ≡ i
    alone j other at = fits.one_holder j i t other turn at has

    pub homes_replaced : (u : ℕ) (home : Home) → HomeFits st f.held u home → HomeFits st set u home
    homes_replaced u Away by = (held_replaced f.held i t turn new has first fits.one_holder u by).0
    homes_replaced u Empty past = past
    homes_replaced u (Holds slot) here = (unheld_replaced f.held i t turn new has first fits.one_holder u here.0, here.1)

    -- its own task's turn is not free
    pub held_not_free : f.turns t ≡ Free → ⊥
    held_not_free is = none_some (sym ((free_fits t is).1 i) ∙ has)

    segments_replaced : new.row ≡ turn.row → SegmentsAreOpen p set f.facts f.segments
    segments_replaced row j s is =
        let before = fits.segments j s is in
        open_still p (f.held j) (set j) (f.facts j) (f.facts j) s.task (accesses_of s.touches)
        (λ old at.
        ⊎_elim
        (λ (same : s.task ≡ t).
        let at_t : f.held j t ≡ Some old = ap (f.held j) (sym same) ∙ at in
        let seat : j ≡ i = alone j old at_t in
        let one : turn ≡ old = some_one (sym has ∙ (ap (λ (n : ℕ). f.held n t) (sym seat) ∙ at_t)) in (
          new,
          ap (set j) same ∙ (ap (λ (n : ℕ). set n t) seat ∙ turn_here f.held i t (Some new)),
          first ∙ ap (λ (h : HeldTurn). h.first) one,
          row ∙ ap (λ (h : HeldTurn). h.row) one,
        ))
        (λ (other : s.task ≢ t). (old, turn_of_other f.held i t (Some new) j s.task other ∙ at, refl, refl))
        (cases_eq s.task t))
        (all_same (f.facts j))
        before

  pub storing_phase : (i t : ℕ) (turn : HeldTurn) (phase : Phase) → MayStorePhase f i t turn phase → FloorFits p st (after_phase f i t turn phase)
  storing_phase i t turn phase may =
      let new : HeldTurn = record turn { phase = phase } in
      let known = fits.rows i t turn may.has in
      record {
        asked = fits.asked;
        one_holder = one_holder_put f.held i t (Some new) fits.one_holder (alone i t turn new may.has refl);
        turns = λ u. turn_fits_replaced f.held i t turn new may.has refl fits.one_holder st f.workers u (f.turns u) (fits.turns u);
        rows = rows_put f.held i t (Some new) st fits.rows (λ other is. record { row = known.row; there = known.there; same = known.same ∙ ap (λ (h : HeldTurn). h.row) (some_one is) });
        homes = λ u. homes_replaced i t turn new may.has refl u (f.homes u) (fits.homes u);
        phases = put_all (PhaseFits st) f.phases t phase (stored_fits i t turn phase may) (λ u other. fits.phases u);
        free_phases = λ u row is there.
            ⊎_elim
            (λ (same : u ≡ t). absurd (held_not_free i t turn new may.has refl (ap f.turns (sym same) ∙ is)))
            (λ (other : u ≢ t). put_else f.phases t u phase other ∙ fits.free_phases u row is there)
            (cases_eq u t);
        known_phases = λ j u h at.
            elim (turn_was f.held i t (Some new) j u h at) [
              | inl own ↦ ap (put f.phases t phase) own.1 ∙ (put_here f.phases t phase ∙ ap (λ (x : HeldTurn). x.phase) (some_one own.2))
              | inr old ↦
                  let other : u ≢ t = λ same. old.0 (alone i t turn new may.has refl j h (ap (f.held j) (sym same) ∙ old.1)) same in
                  put_else f.phases t u phase other ∙ fits.known_phases j u h old.1
            ];
        segments = segments_replaced i t turn new may.has refl refl;
        reads = fits.reads;
        size = fits.size;
        written = fits.written;
        others = fits.others;
        facts = fits.facts;
      }

  -- Whoever finds the phase `Done` knows the task's value.
  pub finding_done : (i t : ℕ) → f.phases t ≡ Done → (value : ℤ) × IsDoneWith st t value × FloorFits p st (after_finding_done f i t value)
  finding_done i t is =
      let done : HasStatus st t status.Done = subst (PhaseFits st t) is (fits.phases t) in
      let value : ℤ = (done.0).value in
      let known : IsDoneWith st t value = record { row = done.0; there = done.1; done = done.2; value_is = refl } in
      let facts : List DoneFact = record { task = t; value = value } ∷ f.facts i in
      let more : AreAmong (f.facts i) facts = λ fact among. inr among in (
        value,
        known,
        record {
          asked = fits.asked;
          one_holder = fits.one_holder;
          turns = fits.turns;
          rows = fits.rows;
          homes = fits.homes;
          phases = fits.phases;
          free_phases = fits.free_phases;
          known_phases = fits.known_phases;
          segments = λ j s at.
              open_still p (f.held j) (f.held j) (f.facts j) (put f.facts i facts j) s.task (accesses_of s.touches) (λ turn has. (turn, has, refl, refl)) (more_put i facts more j) (fits.segments j s at);
          reads = fits.reads;
          size = fits.size;
          written = fits.written;
          others = fits.others;
          facts = facts_put i facts (λ fact among.
              elim among [
                | inl same ↦ subst (λ (x : DoneFact). IsDoneWith st x.task x.value) (sym same) known
                | inr old ↦ fits.facts i fact old
              ]);
        },
      )

  -- Seats.

  split_fits : (i worker t : ℕ) → HasNoTurn f i → (word : TurnWord) → TurnFits st f.held f.workers t word → TurnFits st f.held (put f.workers i worker) t word
  split_fits i worker t none Free here = here
  split_fits i worker t none New here = here
  split_fits i worker t none (Taken w) here =
      let other : here.by.seat ≢ i = λ same. none_some (sym (none t) ∙ (ap (λ (n : ℕ). f.held n t) (sym same) ∙ here.by.has)) in
      record { by = here.by; taken = here.taken; worker_is = put_else f.workers i here.by.seat worker other ∙ here.worker_is }

  pub splitting : (i worker : ℕ) → HasNoTurn f i → FloorFits p st (after_split f i worker)
  splitting i worker none = record {
    asked = fits.asked;
    one_holder = fits.one_holder;
    turns = λ t. split_fits i worker t none (f.turns t) (fits.turns t);
    rows = fits.rows;
    homes = fits.homes;
    phases = fits.phases;
    free_phases = fits.free_phases;
    known_phases = fits.known_phases;
    segments = fits.segments;
    reads = fits.reads;
    size = fits.size;
    written = fits.written;
    others = fits.others;
    facts = fits.facts;
  }

  among_left : (a b : List DoneFact) (fact : DoneFact) → IsAmong fact a → IsAmong fact (a ++ b)
  among_left [] b fact none = absurd none
  among_left (x ∷ a) b fact (inl same) = inl same
  among_left (x ∷ a) b fact (inr later) = inr (among_left a b fact later)

  both_hold : (a b : List DoneFact) → AllHold st a → AllHold st b → AllHold st (a ++ b)
  both_hold [] b here there fact among = there fact among
  both_hold (x ∷ a) b here there fact (inl same) = here fact (inl same)
  both_hold (x ∷ a) b here there fact (inr later) = both_hold a b (λ y among. here y (inr among)) there fact later

  pub joining : (i j : ℕ) → MayJoin f i j → FloorFits p st (after_join f i j)
  joining i j may =
      let both : List DoneFact = f.facts i ++ f.facts j in
      let facts : ℕ → List DoneFact = put (put f.facts i both) j [] in
      record {
        asked = fits.asked;
        one_holder = fits.one_holder;
        turns = fits.turns;
        rows = fits.rows;
        homes = fits.homes;
        phases = fits.phases;
        free_phases = fits.free_phases;
        known_phases = fits.known_phases;
        segments = λ k s at.
            let other : k ≢ j = λ same. none_some (sym may.closed ∙ (ap f.segments (sym same) ∙ at)) in
            let more : AreAmong (f.facts k) (facts k) =
            subst (AreAmong (f.facts k)) (sym (put_else (put f.facts i both) j k [] other)) (more_put i both (among_left (f.facts i) (f.facts j)) k) in
            open_still p (f.held k) (f.held k) (f.facts k) (facts k) s.task (accesses_of s.touches) (λ turn has. (turn, has, refl, refl)) more (fits.segments k s at);
        reads = fits.reads;
        size = fits.size;
        written = fits.written;
        others = fits.others;
        facts = put_all (λ (k : ℕ) (known : List DoneFact). AllHold st known) (put f.facts i both) j [] (λ fact none. absurd none)
            (λ k other. facts_put i both (both_hold (f.facts i) (f.facts j) (fits.facts i) (fits.facts j)) k);
      }
