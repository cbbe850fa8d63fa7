-- Segments that are open at the same time: none writes a cell that another one accesses. So a word is what the seat says of
-- it, and what one segment does leaves what the others know.
use Rattle.std.proofs.Common.{◌≡◌, ◌≢◌, ◌⊎◌, ℕ, ℤ, Bool, true, false, List, length, Contains, Option, None, Some, refl, sym, ap, subst, ◌∙◌, inl, inr, ⊎_elim}
use Rattle.std.proofs.lemmas.Bool.{cases_eq}
use Rattle.effect_sets.specs.Access.{PathAccess as PathAccess, Conflict}
use Rattle.twe_program.specs.Program.{Program}
use Rattle.seg_meaning.specs.declared.frame.Frame.{Frame}
use Rattle.seg_meaning.specs.Access.{Access, Reads, Writes, Agrees, after}
use Rattle.seg_meaning.specs.Segment.{segment}
use Rattle.isolation_laws.specs.soundness.DeclaredNow.{access_of}
use Rattle.machine_state.specs.declared.state.State.{State}
use Rattle.machine_state.specs.Rows.{LinksAgree}
use Rattle.isolation_laws.specs.Conflicts.{AccessesAreCovered, Makes, MoversApart}
use Rattle.isolation_laws.specs.CoveredNow.{CoveredNow}
use Rattle.floor_laws.specs.declared.rule.view.HeldTurn.{HeldTurn}
use Rattle.floor_laws.specs.declared.rule.view.OpenSegment.{OpenSegment}
use Rattle.floor_laws.specs.rule.Floors.{Floor, put}
use Rattle.floor_laws.specs.rule.Fitting.{FloorFits, MayRunFrom, NobodyWrote, OthersHold, ReadsHold, WrittenHold}
use Rattle.floor_laws.specs.rule.Steps.{IsOwn}
use Rattle.floor_laws.specs.admission.admission_core.States.{IsAmong}
use Rattle.floor_laws.specs.rule.Touches.{IsAccessFrom, accesses_of, cell_at, is_written, touches_of}
use Rattle.floor_laws.proofs.rule.Puts.{none_some, put_else, put_was}
use Rattle.floor_laws.proofs.rule.RunLemmas.{Runs, one_ready, runs}
use Rattle.floor_laws.proofs.rule.AccessLemmas.{after_length, after_unwritten, after_written, agrees_over, writer_of}

bool_cases : (b : Bool) → (b ≡ true) ⊎ (b ≡ false)
bool_cases true = inl refl
bool_cases false = inr refl

-- the accesses of the segment that is open at seat i; none if none is open
abbrev pub open_accesses : Floor → ℕ → List Access
open_accesses f i = accesses_of (touches_of (f.segments i))

module _ (p : Program) (st : State) (f : Floor) (fits : FloorFits p st f) (agree : LinksAgree st) (apart : MoversApart p st) where
  pub runs_of : (i t : ℕ) (turn : HeldTurn) (ready : Frame) → f.held i t ≡ Some turn → MayRunFrom turn (f.facts i) ready → Runs st t turn ready
  runs_of i t turn ready has may = runs st t turn (f.facts i) ready agree (fits.facts i) (fits.rows i t turn has) may

  makes : (t : ℕ) (turn : HeldTurn) (ready : Frame) (r : Runs st t turn ready) (x : Access) → (from : IsAccessFrom p ready x) → Makes p st r.row from.cells from.made
  makes t turn ready r x from = subst (λ (fr : Frame). Contains (segment p fr from.cells).accesses from.made) r.frame from.makes

  -- accesses of the segments of two seats don't conflict
  pub clash : (i j t u : ℕ) (turn other : HeldTurn) (ready last : Frame) → i ≢ j → f.held i t ≡ Some turn → f.held j u ≡ Some other
      → MayRunFrom turn (f.facts i) ready → MayRunFrom other (f.facts j) last → (x y : Access) → IsAccessFrom p ready x → IsAccessFrom p last y
      → ¬ Conflict (access_of p x) (access_of p y)
  clash i j t u turn other ready last differ at_i at_j may_i may_j x y made_x made_y =
      let a = runs_of i t turn ready at_i may_i in
      let b = runs_of j u other last at_j may_j in
      let tasks : t ≢ u = λ same. differ (fits.one_holder i j u turn other (subst (λ (n : ℕ). f.held i n ≡ Some turn) same at_i) at_j) in
      let one = makes t turn ready a x made_x in
      let two = makes u other last b y made_y in
      λ conflict.
      apart t u a.row b.row tasks a.there b.there a.may b.may made_x.cells made_y.cells made_x.made made_y.made one two
      (subst (λ (path : PathAccess). Conflict path (access_of p made_y.made)) (sym made_x.same) (subst (Conflict (access_of p x)) (sym made_y.same) conflict))

  -- each access of an open segment is covered
  pub access_covered : AccessesAreCovered p st → (i : ℕ) (s : OpenSegment) (x : Access) → f.segments i ≡ Some s → IsAmong x (accesses_of s.touches) → CoveredNow st s.task (access_of p x)
  access_covered covered i s x is among =
      let there = fits.segments i s is in
      let a = runs_of i s.task there.turn there.ready there.has there.may in
      let from = there.made x among in
      let one = makes s.task there.turn there.ready a x from in
      subst (CoveredNow st s.task) from.same (covered s.task a.row a.there a.may from.cells from.made one)

  -- What seat i runs: a task whose turn it has, from this frame, and no other segment is open there.
  module _ (i t : ℕ) (turn : HeldTurn) (ready : Frame) (has : f.held i t ≡ Some turn) (may : MayRunFrom turn (f.facts i) ready) (own : IsOwn f i t) where
    -- no other seat has written a cell that an access of this segment conflicts with
    pub spared : (x : Access) → IsAccessFrom p ready x → (c : ℕ) → ((value : ℤ) → Conflict (access_of p x) (access_of p (Writes c value)))
        → (j : ℕ) (s : OpenSegment) → j ≢ i → f.segments j ≡ Some s → is_written c (accesses_of s.touches) ≡ false
    spared x made c conflicts j s other is =
        ⊎_elim
        (λ (written : is_written c (accesses_of s.touches) ≡ true).
        let writer = writer_of (accesses_of s.touches) c written in
        let there = fits.segments j s is in
        absurd (clash i j t s.task turn there.turn ready there.ready (λ e. other (sym e)) has there.has may there.may x (Writes c writer.0) made (there.made (Writes c writer.0) writer.1) (conflicts writer.0)))
        (λ (not : is_written c (accesses_of s.touches) ≡ false). not)
        (bool_cases (is_written c (accesses_of s.touches)))

    -- nor reads it a cell that this segment has written
    pub unread : (c : ℕ) (value : ℤ) → IsAccessFrom p ready (Writes c value) → (j : ℕ) (s : OpenSegment) (found : ℤ) → j ≢ i → f.segments j ≡ Some s
        → ¬ IsAmong (Reads c found) (accesses_of s.touches)
    unread c value made j s found other is among =
        let there = fits.segments j s is in
        clash i j t s.task turn there.turn ready there.ready (λ e. other (sym e)) has there.has may there.may (Writes c value) (Reads c found) made (there.made (Reads c found) among) (refl, refl)

    -- What it has touched so far.
    record Hand (accesses : List Access) : Type 0 where
      made : (x : Access) → IsAmong x accesses → IsAccessFrom p ready x
      reads : Agrees st.cells accesses
      written : (c : ℕ) → is_written c accesses ≡ true → cell_at f.cells c ≡ cell_at (after st.cells accesses) c

    hand_by : (o : Option OpenSegment) → f.segments i ≡ o → Hand (accesses_of (touches_of o))
    hand_by None is = record { made = λ x none. absurd none; reads = tt; written = λ c no. absurd (cc (no)) }
    hand_by (Some s) is =
        let there = fits.segments i s is in
        let task : s.task ≡ t = own s is in
        let frame : there.ready ≡ ready = one_ready st s.task t there.turn turn there.ready ready task (runs_of i s.task there.turn there.ready there.has there.may) (runs_of i t turn ready has may) in
        record {
          made = λ x among. subst (λ (fr : Frame). IsAccessFrom p fr x) frame (there.made x among);
          reads = fits.reads i s is;
          written = λ c written. fits.written i s c is written;
        }

    hand : Hand (open_accesses f i)
    hand = hand_by (f.segments i) refl

    pub hand_made : (x : Access) → IsAmong x (open_accesses f i) → IsAccessFrom p ready x
    hand_made = hand.made

    pub hand_reads : Agrees st.cells (open_accesses f i)
    hand_reads = hand.reads

    pub hand_written : (c : ℕ) → is_written c (open_accesses f i) ≡ true → cell_at f.cells c ≡ cell_at (after st.cells (open_accesses f i)) c
    hand_written = hand.written

    -- nobody has written the cell if neither this seat has nor another one
    pub nobody : (c : ℕ) → is_written c (open_accesses f i) ≡ false
        → ((j : ℕ) (s : OpenSegment) → j ≢ i → f.segments j ≡ Some s → is_written c (accesses_of s.touches) ≡ false) → NobodyWrote f.segments c
    nobody c none others j s is =
        ⊎_elim
        (λ (same : j ≡ i).
        let here : f.segments i ≡ Some s = ap f.segments (sym same) ∙ is in
        sym (ap (λ (o : Option OpenSegment). is_written c (accesses_of (touches_of o))) here) ∙ none)
        (λ (other : j ≢ i). others j s other is)
        (cases_eq j i)

    -- the word of a cell that the segment accesses next is what the cell is after what it has done
    pub word_now : (x : Access) → IsAccessFrom p ready x → (c : ℕ) → ((value : ℤ) → Conflict (access_of p x) (access_of p (Writes c value)))
        → cell_at f.cells c ≡ cell_at (after st.cells (open_accesses f i)) c
    word_now x made c conflicts =
        ⊎_elim
        (λ (written : is_written c (open_accesses f i) ≡ true). hand.written c written)
        (λ (not : is_written c (open_accesses f i) ≡ false).
        fits.others c (nobody c not (spared x made c conflicts)) ∙ sym (after_unwritten st.cells (open_accesses f i) c not))
        (bool_cases (is_written c (open_accesses f i)))

    -- Once the entry is drawn: the cells of the state are those that the segment leaves, and no segment is open here.
    abbrev left : List ℤ
    left = after st.cells (open_accesses f i)

    same_length : length st.cells ≡ length left
    same_length = sym (after_length st.cells (open_accesses f i))

    -- the segments that are still open were open
    still_open : (j : ℕ) (s : OpenSegment) → put f.segments i None j ≡ Some s → (j ≢ i) × (f.segments j ≡ Some s)
    still_open j s is =
        ⊎_elim
        (λ (here : (j ≡ i) × (None ≡ Some s)). absurd (none_some here.1))
        (λ (else : (j ≢ i) × (f.segments j ≡ Some s)). else)
        (put_was f.segments i j None (Some s) is)

    -- a cell that another open segment has read is the same in both
    read_stays : (j : ℕ) (s : OpenSegment) → j ≢ i → f.segments j ≡ Some s → (c : ℕ) (value : ℤ) → IsAmong (Reads c value) (accesses_of s.touches)
        → cell_at st.cells c ≡ cell_at left c
    read_stays j s other is c value among =
        ⊎_elim
        (λ (written : is_written c (open_accesses f i) ≡ true).
        let writer = writer_of (open_accesses f i) c written in
        absurd (unread c writer.0 (hand.made (Writes c writer.0) writer.1) j s value other is among))
        (λ (not : is_written c (open_accesses f i) ≡ false). sym (after_unwritten st.cells (open_accesses f i) c not))
        (bool_cases (is_written c (open_accesses f i)))

    pub reads_left : ReadsHold left (put f.segments i None)
    reads_left j s is =
        let was = still_open j s is in
        agrees_over st.cells left (accesses_of s.touches) same_length (read_stays j s was.0 was.1) (fits.reads j s was.1)

    pub written_left : WrittenHold left f.cells (put f.segments i None)
    written_left j s c is written =
        let was = still_open j s is in
        fits.written j s c was.1 written ∙ after_written st.cells left (accesses_of s.touches) c same_length written

    pub others_left : OthersHold left f.cells (put f.segments i None)
    others_left c none =
        ⊎_elim
        (λ (written : is_written c (open_accesses f i) ≡ true). hand.written c written)
        (λ (not : is_written c (open_accesses f i) ≡ false).
        fits.others c (nobody c not (λ j s other is. none j s (put_still j s other is))) ∙ sym (after_unwritten st.cells (open_accesses f i) c not))
        (bool_cases (is_written c (open_accesses f i)))
      where
        put_still : (j : ℕ) (s : OpenSegment) → j ≢ i → f.segments j ≡ Some s → put f.segments i None j ≡ Some s
        put_still j s other is = put_else f.segments i j None other ∙ is
