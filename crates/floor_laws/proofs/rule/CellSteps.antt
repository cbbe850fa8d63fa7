-- Loads and stores of cells keep the rule.
use Rattle.std.proofs.Common.{◌≡◌, ◌≢◌, ℕ, ℤ, true, false, List, ◌∷◌, length, Option, Some, refl, sym, ap, subst, ◌∙◌, inl, inr, ⊎_elim}
use Rattle.std.specs.Prelude.{slice_set}
use Rattle.std.proofs.lemmas.Bool.{cases_eq}
use Rattle.twe_program.specs.Program.{Program}
use Rattle.seg_meaning.specs.Access.{Access, Reads, Writes, Agrees, after}
use Rattle.machine_state.specs.declared.state.State.{State}
use Rattle.machine_state.specs.Rows.{LinksAgree}
use Rattle.isolation_laws.specs.Conflicts.{MoversApart}
use Rattle.isolation_laws.proofs.rows.ListElements.{length_set}
use Rattle.floor_laws.specs.declared.rule.view.OpenSegment.{OpenSegment}
use Rattle.floor_laws.specs.declared.rule.view.Touch.{Touch}
use Rattle.floor_laws.specs.declared.rule.view.Touch.TheVariants.{Read, Write}
use Rattle.floor_laws.specs.rule.Floors.{Floor}
use Rattle.floor_laws.specs.rule.Fitting.{FloorFits, IsOpen, NobodyWrote, ReadsHold, SegmentsAreOpen}
use Rattle.floor_laws.specs.rule.Steps.{MayTouch, after_load, after_store, touched}
use Rattle.floor_laws.specs.admission.admission_core.States.{IsAmong}
use Rattle.floor_laws.specs.rule.Touches.{IsAccessFrom, access_by, accesses_of, cell_at, is_written, touches_of}
use Rattle.floor_laws.proofs.rule.Puts.{put_else, put_here, put_was, some_one}
use Rattle.floor_laws.proofs.rule.AccessLemmas.{after_length, other_write, own_write, set_at, set_else}
use Rattle.floor_laws.proofs.rule.SegmentLemmas.{hand_made, hand_reads, hand_written, nobody, open_accesses, spared, word_now}

module _ (p : Program) (st : State) (f : Floor) (fits : FloorFits p st f) (agree : LinksAgree st) (apart : MoversApart p st) (i t : ℕ) (touch : Touch) (may : MayTouch p f i t (access_by touch)) where
  abbrev new : OpenSegment
  new = record { task = t; touches = touch ∷ touches_of (f.segments i) }

  abbrev segments : ℕ → Option OpenSegment
  segments = touched f i t touch

  -- an open segment is the one with the new touch, or one of another seat
  segment_was : (P : OpenSegment → Type 0) (j : ℕ) (s : OpenSegment) → segments j ≡ Some s → ((j ≡ i) → P new) → ((j ≢ i) → f.segments j ≡ Some s → P s) → P s
  segment_was P j s is own other =
      ⊎_elim
      (λ (here : (j ≡ i) × (Some new ≡ Some s)). subst P (some_one here.1) (own here.0))
      (λ (else : (j ≢ i) × (f.segments j ≡ Some s)). other else.0 else.1)
      (put_was f.segments i j (Some new) (Some s) is)

  made_all : (x : Access) → IsAmong x (accesses_of new.touches) → IsAccessFrom p may.ready x
  made_all x (inl same) = subst (IsAccessFrom p may.ready) (sym same) may.made
  made_all x (inr before) = hand_made p st f fits agree apart i t may.turn may.ready may.has may.may may.own x before

  pub open_touched : SegmentsAreOpen p f.held f.facts segments
  open_touched j s is =
      segment_was (λ (x : OpenSegment). IsOpen p (f.held j) (f.facts j) x.task (accesses_of x.touches)) j s is
      (λ same.
      subst (λ (n : ℕ). IsOpen p (f.held n) (f.facts n) t (accesses_of new.touches)) (sym same)
      (record { turn = may.turn; has = may.has; ready = may.ready; may = may.may; made = made_all }))
      (λ other at. fits.segments j s at)

  pub reads_touched : Agrees st.cells (accesses_of new.touches) → ReadsHold st.cells segments
  reads_touched agrees j s is = segment_was (λ (x : OpenSegment). Agrees st.cells (accesses_of x.touches)) j s is (λ same. agrees) (λ other at. fits.reads j s at)

  -- what nobody has written now, nobody had written
  pub nobody_before : (c : ℕ) → (is_written c (accesses_of new.touches) ≡ false → is_written c (open_accesses f i) ≡ false) → NobodyWrote segments c → NobodyWrote f.segments c
  nobody_before c fewer none =
      nobody p st f fits agree apart i t may.turn may.ready may.has may.may may.own c (fewer (none i new (put_here f.segments i (Some new))))
      (λ j s other at. none j s (put_else f.segments i j (Some new) other ∙ at))

module _ (p : Program) (st : State) (f : Floor) (fits : FloorFits p st f) (agree : LinksAgree st) (apart : MoversApart p st) (i t c : ℕ) where
  -- A load.
  module _ (value : ℤ) (found : value ≡ cell_at f.cells c) (may : MayTouch p f i t (Reads c value)) where
    abbrev read : Touch
    read = Read c value

    -- it finds what the cell is after what the segment has done so far
    pub found_is : value ≡ cell_at (after st.cells (open_accesses f i)) c
    found_is = found ∙ word_now p st f fits agree apart i t may.turn may.ready may.has may.may may.own (Reads c value) may.made c (λ v. (refl, refl))

    pub loading : FloorFits p st (after_load f i t c value)
    loading = record {
      asked = fits.asked;
      one_holder = fits.one_holder;
      turns = fits.turns;
      rows = fits.rows;
      homes = fits.homes;
      phases = fits.phases;
      free_phases = fits.free_phases;
      known_phases = fits.known_phases;
      segments = open_touched p st f fits agree apart i t read may;
      reads = reads_touched p st f fits agree apart i t read may (hand_reads p st f fits agree apart i t may.turn may.ready may.has may.may may.own, sym found_is);
      size = fits.size;
      written = λ j s k is written.
          segment_was p st f fits agree apart i t read may (λ (x : OpenSegment). is_written k (accesses_of x.touches) ≡ true → cell_at f.cells k ≡ cell_at (after st.cells (accesses_of x.touches)) k) j s is
          (λ same. hand_written p st f fits agree apart i t may.turn may.ready may.has may.may may.own k)
          (λ other at. fits.written j s k at)
          written;
      others = λ k none. fits.others k (nobody_before p st f fits agree apart i t read may k (λ not. not) none);
      facts = fits.facts;
    }

  -- A store.
  module _ (value : ℤ) (may : MayTouch p f i t (Writes c value)) where
    abbrev write : Touch
    write = Write c value

    abbrev words : List ℤ
    words = slice_set f.cells c value

    abbrev before : List ℤ
    before = after st.cells (open_accesses f i)

    same_size : length f.cells ≡ length before
    same_size = fits.size ∙ sym (after_length st.cells (open_accesses f i))

    -- the word of each cell that this segment has written, with this one
    own_words : (k : ℕ) → is_written k (Writes c value ∷ open_accesses f i) ≡ true → cell_at words k ≡ cell_at (slice_set before c value) k
    own_words k written =
        ⊎_elim
        (λ (here : c ≡ k). subst (λ (n : ℕ). cell_at words n ≡ cell_at (slice_set before c value) n) here (set_at f.cells before c value same_size))
        (λ (else : c ≢ k).
        let other : k ≢ c = λ same. else (sym same) in
        set_else f.cells c k value other
        ∙ (hand_written p st f fits agree apart i t may.turn may.ready may.has may.may may.own k (sym (other_write c k value (open_accesses f i) else) ∙ written)
        ∙ sym (set_else before c k value other)))
        (cases_eq c k)

    -- another seat's segment has not written this cell
    other_words : (j : ℕ) (s : OpenSegment) (k : ℕ) → j ≢ i → f.segments j ≡ Some s → is_written k (accesses_of s.touches) ≡ true → cell_at words k ≡ cell_at (after st.cells (accesses_of s.touches)) k
    other_words j s k other at written =
        let differ : k ≢ c = λ same.
        let not = spared p st f fits agree apart i t may.turn may.ready may.has may.may may.own (Writes c value) may.made c (λ v. (refl, refl)) j s other at in
        let no : true ≡ false = sym written ∙ (ap (λ (n : ℕ). is_written n (accesses_of s.touches)) same ∙ not) in
        absurd (cc) in
        set_else f.cells c k value differ ∙ fits.written j s k at written

    pub storing : FloorFits p st (after_store f i t c value)
    storing = record {
      asked = fits.asked;
      one_holder = fits.one_holder;
      turns = fits.turns;
      rows = fits.rows;
      homes = fits.homes;
      phases = fits.phases;
      free_phases = fits.free_phases;
      known_phases = fits.known_phases;
      segments = open_touched p st f fits agree apart i t write may;
      reads = reads_touched p st f fits agree apart i t write may (hand_reads p st f fits agree apart i t may.turn may.ready may.has may.may may.own);
      size = length_set f.cells c value ∙ fits.size;
      written = λ j s k is written.
          segment_was p st f fits agree apart i t write may (λ (x : OpenSegment). is_written k (accesses_of x.touches) ≡ true → cell_at words k ≡ cell_at (after st.cells (accesses_of x.touches)) k) j s is
          (λ same. own_words k)
          (λ other at. other_words j s k other at)
          written;
      others = λ k none.
          let here = none i (record { task = t; touches = write ∷ touches_of (f.segments i) }) (put_here f.segments i (Some (record { task = t; touches = write ∷ touches_of (f.segments i) }))) in
          let differ : k ≢ c = λ same.
          let no : true ≡ false = sym (own_write c value (open_accesses f i)) ∙ (ap (λ (n : ℕ). is_written n (Writes c value ∷ open_accesses f i)) (sym same) ∙ here) in
          absurd (cc) in
          set_else f.cells c k value differ ∙ fits.others k (nobody_before p st f fits agree apart i t write may k (λ not. sym (other_write c k value (open_accesses f i) (λ e. differ (sym e))) ∙ not) none);
      facts = fits.facts;
    }
