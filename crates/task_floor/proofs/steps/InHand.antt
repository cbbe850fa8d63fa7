-- What a stand knows after it has looked at a task.
use Rattle.std.proofs.Common.{◌≡◌, ◌≢◌, ℕ, ℤ, pos, Bool, List, ◌∷◌, Option, None, Some, if◌then◌else◌, refl, sym, ap, subst, ◌∙◌, inl, inr, ⊎_elim, eq-eqb, ne_eqb}
use Rattle.std.proofs.lemmas.Bool.{cases_eq}
use Rattle.twe_base.specs.Limits.{Bounds}
use Rattle.seg_meaning.specs.declared.frame.Frame.{Frame}
use Rattle.seg_meaning.specs.declared.frame.Next.{Next}
use Rattle.seg_meaning.specs.declared.frame.Next.TheVariants.{Go, Get, Join, Closing, Ended}
use Rattle.seg_meaning.specs.Giving.{given_by}
use Rattle.machine_state.specs.declared.state.TaskRow.{TaskRow}
use Rattle.machine_state.specs.declared.state.TaskStatus.{TaskStatus}
use Rattle.machine_state.specs.declared.state.TaskStatus.TheVariants as status
use Rattle.machine_state.specs.Rows.{row_awaited}
use Rattle.floor_laws.specs.declared.rule.view.DoneFact.{DoneFact}
use Rattle.floor_laws.specs.declared.rule.view.HeldTurn.{HeldTurn}
use Rattle.floor_laws.specs.declared.rule.view.Phase.{Phase}
use Rattle.floor_laws.specs.declared.rule.view.Phase.TheVariants as phases
use Rattle.floor_laws.specs.declared.rule.view.TaskSlot.{TaskSlot}
use Rattle.floor_laws.specs.rule.Fitting.{KnowsAwaited}
use Rattle.floor_laws.specs.rule.Rows.{phase_at, phase_of}
use Rattle.floor_laws.specs.rule.Steps.{with_row}
use Rattle.floor_laws.specs.admission.admission_core.States.{IsAmong}
use Rattle.floor_laws.proofs.rule.Puts.{none_some}
use Rattle.floor_laws.specs.declared.table.view.View.{View}
use Rattle.floor_laws.specs.table.FloorOf.{turn_in}
use Rattle.floor_laws.specs.table.Layout.{phase_of_word, word_of_phase}
use Rattle.floor_laws.specs.table.Tells.{FoundDone, FoundPhase, GaveTurn, MayStore, Seat, StoredPhase, with_turn}
use Rattle.floor_laws.proofs.table.Added.{grown_by, grown_same, grown_then}
use Rattle.floor_laws.proofs.table.Steps.{phase_again}
use Rattle.task_floor.specs.steps.Resuming.{HasInHand, KnowsMore, KnowsValue, MovesOn}
use Rattle.task_floor.specs.steps.Segments.{MayRunSegment}
use Rattle.task_floor.specs.steps.Stands.{HasTaken, MayGiveBack}

-- Phases of rows.

pub status_done : (s : TaskStatus) (on : Option ℕ) → phase_at s on ≡ phases.Done → s ≡ status.Done
status_done status.Made on is = absurd (cc (is))
status_done status.Enabled None is = absurd (cc (is))
status_done status.Enabled (Some u) is = absurd (cc (is))
status_done status.Done on is = refl
status_done status.Faulted on is = absurd (cc (is))

pub status_running : (s : TaskStatus) (on : Option ℕ) → phase_at s on ≡ phases.Running → (s ≡ status.Enabled) × (on ≡ None)
status_running status.Made on is = absurd (cc (is))
status_running status.Enabled None is = (refl, refl)
status_running status.Enabled (Some u) is = absurd (cc (is))
status_running status.Done on is = absurd (cc (is))
status_running status.Faulted on is = absurd (cc (is))

pub status_waits : (s : TaskStatus) (on : Option ℕ) (u : ℕ) → phase_at s on ≡ phases.Waits u → (s ≡ status.Enabled) × (on ≡ Some u)
status_waits status.Made on u is = absurd (cc (is))
status_waits status.Enabled None u is = absurd (cc (is))
status_waits status.Enabled (Some v) u is = (refl, ap Some (one_wait v u is))
  where
    one_wait : (v u : ℕ) → phases.Waits v ≡ phases.Waits u → v ≡ u
    one_wait v u h = cc
status_waits status.Done on u is = absurd (cc (is))
status_waits status.Faulted on u is = absurd (cc (is))

-- Knowing more.

pub more_same : (a : Seat) → KnowsMore a a
more_same a = record { turns = λ t. refl; grown = grown_same a.0.turns; done = λ fact among. among; rest = refl }

pub more_is : (a b : Seat) → b ≡ a → KnowsMore a b
more_is a b same = subst (KnowsMore a) (sym same) (more_same a)

pub more_then : (a b c : Seat) → KnowsMore a b → KnowsMore b c → KnowsMore a c
more_then a b c one two = record {
  turns = λ t. two.turns t ∙ one.turns t;
  grown = grown_then a.0.turns b.0.turns c.0.turns one.grown two.grown;
  done = λ fact among. two.done fact (one.done fact among);
  rest = two.rest ∙ ap (λ (m : Seat). (record m.0 { turns = c.0.turns; done = c.0.done }, m.1)) one.rest;
}

-- a phase was loaded
pub found_more : (lim : Bounds) (a b : Seat) (t found : ℕ) → FoundPhase lim a t found b → KnowsMore a b
found_more lim a b t found is =
    ⊎_elim
    (λ (done : (phase_of_word found ≡ phases.Done) × FoundDone a b t).
    subst (KnowsMore a) (sym done.1.seat) (record { turns = λ u. refl; grown = grown_same a.0.turns; done = λ fact among. inr among; rest = refl }))
    (λ (other : (phase_of_word found ≢ phases.Done) × (b ≡ a)). more_is a b other.1)
    is.3

-- Turns.

turn_set : (v : View) (t : ℕ) (turn : Option HeldTurn) → turn_in (with_turn v t turn).turns t ≡ turn
turn_set v t turn = ap (λ (b : Bool). if b then turn else turn_in v.turns t) (eq-eqb t t refl)

turn_else : (v : View) (t u : ℕ) (turn : Option HeldTurn) → u ≢ t → turn_in (with_turn v t turn).turns u ≡ turn_in v.turns u
turn_else v t u turn other = ap (λ (b : Bool). if b then turn else turn_in v.turns u) (ne_eqb u t other)

row_among : (s : TaskStatus) (t : ℕ) (row : TaskRow) (facts : List DoneFact) (fact : DoneFact) → IsAmong fact facts → IsAmong fact (with_row s t row facts)
row_among status.Made t row facts fact among = among
row_among status.Enabled t row facts fact among = among
row_among status.Done t row facts fact among = inr among
row_among status.Faulted t row facts fact among = among

-- a turn was taken, its task's phase loaded, and the turn given back
module _ (lim : Bounds) (a b c d : Seat) (t found : ℕ) (slot : TaskSlot) (took : HasTaken a b t slot) (looked : FoundPhase lim b t found c) where
  pub had_turn : turn_in c.0.turns t ≡ Some took.turn
  had_turn = (found_more lim b c t found looked).turns t ∙ (ap (λ (m : Seat). turn_in m.0.turns t) took.seat ∙ turn_set a.0 t (Some took.turn))

  pub had_slots : c.1 ≡ (t, None) ∷ a.1
  had_slots = ap (λ (m : Seat). m.1) ((found_more lim b c t found looked).rest ∙ ap (λ (m : Seat). (record m.0 { turns = c.0.turns; done = c.0.done }, m.1)) took.seat)

  pub had_segment : c.0.segment ≡ a.0.segment
  had_segment = ap (λ (m : Seat). m.0.segment) ((found_more lim b c t found looked).rest ∙ ap (λ (m : Seat). (record m.0 { turns = c.0.turns; done = c.0.done }, m.1)) took.seat)

  pub may_give_back : a.0.segment ≡ None → MayGiveBack c t slot took.turn a.1
  may_give_back closed = record {
    has = had_turn;
    phase = took.phase;
    closed = λ s is. absurd (none_some (sym (had_segment ∙ closed) ∙ is));
    is = took.is;
    out = had_slots;
  }

  module _ (gave : GaveTurn c t took.turn a.1 d) where
    turn_after : (u : ℕ) → turn_in d.0.turns u ≡ turn_in a.0.turns u
    turn_after u =
        ap (λ (m : Seat). turn_in m.0.turns u) gave
        ∙ ⊎_elim
        (λ (same : u ≡ t).
        ap (turn_in (with_turn c.0 t None).turns) same ∙ (turn_set c.0 t None ∙ (sym took.had_none ∙ ap (turn_in a.0.turns) (sym same))))
        (λ (other : u ≢ t).
        turn_else c.0 t u None other
        ∙ ((found_more lim b c t found looked).turns u ∙ (ap (λ (m : Seat). turn_in m.0.turns u) took.seat ∙ turn_else a.0 t u (Some took.turn) other)))
        (cases_eq u t)

    pub gave_more : KnowsMore a d
    gave_more = record {
      turns = turn_after;
      grown = grown_then a.0.turns b.0.turns d.0.turns
          (grown_by (record { task = t; turn = Some took.turn }) a.0.turns b.0.turns (ap (λ (m : Seat). m.0.turns) took.seat))
          (grown_then b.0.turns c.0.turns d.0.turns (found_more lim b c t found looked).grown
          (grown_by (record { task = t; turn = None }) c.0.turns d.0.turns (ap (λ (m : Seat). m.0.turns) gave)));
      done = λ fact among.
          subst (λ (m : Seat). IsAmong fact m.0.done) (sym gave)
          (row_among took.turn.row.status t took.turn.row c.0.done fact
          ((found_more lim b c t found looked).done fact (subst (λ (m : Seat). IsAmong fact m.0.done) (sym took.seat) among)));
      rest =
          gave
          ∙ (ap (λ (m : Seat). (record m.0 { turns = (record { task = t; turn = None }) ∷ c.0.turns; done = with_row took.turn.row.status t took.turn.row c.0.done }, a.1))
          ((found_more lim b c t found looked).rest ∙ ap (λ (m : Seat). (record m.0 { turns = c.0.turns; done = c.0.done }, m.1)) took.seat)
          ∙ ap (λ (m : Seat). (record a.0 { turns = m.0.turns; done = m.0.done }, a.1)) (sym gave));
    }

    -- a done task's value lies in its slot
    pub gave_value : phase_of_word found ≡ phases.Done → KnowsValue d t slot.frame.value
    gave_value done =
        let phase : phase_of took.turn.row ≡ phases.Done = sym took.phase ∙ (sym (looked.0 took.turn (ap (λ (m : Seat). turn_in m.0.turns t) took.seat ∙ turn_set a.0 t (Some took.turn))) ∙ done) in
        let is_done : took.turn.row.status ≡ status.Done = status_done took.turn.row.status (row_awaited took.turn.row.frame.next) phase in
        let value : slot.frame.value ≡ took.turn.row.value = ap (λ (s : TaskSlot). s.frame.value) took.is ∙ took.value is_done in
        subst (λ (m : Seat). IsAmong (record { task = t; value = slot.frame.value }) m.0.done) (sym gave)
        (subst (λ (s : TaskStatus). IsAmong (record { task = t; value = slot.frame.value }) (with_row s t took.turn.row c.0.done)) (sym is_done)
        (inl (ap (λ (x : ℤ). record { task = t; value = x }) value)))

-- A task in hand.

pub in_hand_more : (a b : Seat) (t : ℕ) (turn : HeldTurn) (frame : Frame) → KnowsMore a b → HasInHand a t turn frame → HasInHand b t turn frame
in_hand_more a b t turn frame more hand = record {
  has = more.turns t ∙ hand.has;
  taken = hand.taken;
  phase = hand.phase;
  frame_is = hand.frame_is;
  latest = record { slot = hand.latest.slot; rest = hand.latest.rest; is = ap (λ (m : Seat). m.1) more.rest ∙ hand.latest.is };
  closed = ap (λ (m : Seat). m.0.segment) more.rest ∙ hand.closed;
}

pub moves_more : (a b : Seat) (t : ℕ) → KnowsMore a b → MovesOn a b t
moves_more a b t more = record { others = λ u other. more.turns u; grown = more.grown; done = more.done; rest = more.rest }

-- the phase that is found is that of the row
pub found_phase : (lim : Bounds) (a b : Seat) (t : ℕ) (phase : Phase) (turn : HeldTurn) (frame : Frame) → HasInHand a t turn frame → FoundPhase lim a t (word_of_phase phase) b → phase_of turn.row ≡ phase
found_phase lim a b t phase turn frame hand found = sym hand.phase ∙ (sym (found.0 turn hand.has) ∙ phase_again phase)

nothing_given : (next : Next) (frame : Frame) (value : ℤ) → row_awaited next ≡ None → given_by next frame value ≡ frame
nothing_given Go frame value none = refl
nothing_given (Get on into) frame value none = absurd (cc (none))
nothing_given (Join on into) frame value none = absurd (cc (none))
nothing_given (Closing on) frame value none = absurd (cc (none))
nothing_given Ended frame value none = refl

with_phase : (turn : HeldTurn) (phase : Phase) → turn.phase ≡ phase → turn ≡ record turn { phase = phase }
with_phase turn phase is = λ k. record { first = turn.first; row = turn.row; phase = is k }

-- a task that waits for nobody may run
pub may_run : (a : Seat) (t : ℕ) (turn : HeldTurn) (frame : Frame) → HasInHand a t turn frame → phase_of turn.row ≡ phases.Running → MayRunSegment a t (record turn { phase = phases.Running }) frame
may_run a t turn frame hand is =
    let says = status_running turn.row.status (row_awaited turn.row.frame.next) is in
    record {
      has = hand.has ∙ ap Some (with_phase turn phases.Running (hand.phase ∙ is));
      may = record {
        taken = hand.taken;
        enabled = says.0;
        value = pos 0;
        known = subst (λ (on : Option ℕ). KnowsAwaited a.0.done on (pos 0)) (sym says.1) refl;
        frame = hand.frame_is ∙ sym (nothing_given turn.row.frame.next turn.row.frame (pos 0) says.1);
      };
      running = refl;
      latest = hand.latest;
      closed = hand.closed;
    }

-- a task that waited for one that is known to be done may store that it runs, and looked it may run
module _ (a b : Seat) (t on : ℕ) (value : ℤ) (turn : HeldTurn) (frame : Frame) (hand : HasInHand a t turn frame) (waits : phase_of turn.row ≡ phases.Waits on) (known : KnowsValue a on value) where
  pub may_store_running : MayStore a t turn phases.Running
  may_store_running = record { has = hand.has; fits = inr (on, value, waits, known, refl) }

  pub stored_moves : StoredPhase a t turn phases.Running b → MovesOn a b t
  stored_moves stored = record {
    others = λ u other. ap (λ (m : Seat). turn_in m.0.turns u) stored ∙ turn_else a.0 t u (Some (record turn { phase = phases.Running })) other;
    grown = grown_by (record { task = t; turn = Some (record turn { phase = phases.Running }) }) a.0.turns b.0.turns (ap (λ (m : Seat). m.0.turns) stored);
    done = λ fact among. subst (λ (m : Seat). IsAmong fact m.0.done) (sym stored) among;
    rest = stored ∙ ap (λ (m : Seat). (record a.0 { turns = m.0.turns; done = m.0.done }, a.1)) (sym stored);
  }

pub more_moves : (a b c : Seat) (t : ℕ) → KnowsMore a b → MovesOn b c t → MovesOn a c t
more_moves a b c t more moves = record {
  others = λ u other. moves.others u other ∙ more.turns u;
  grown = grown_then a.0.turns b.0.turns c.0.turns more.grown moves.grown;
  done = λ fact among. moves.done fact (more.done fact among);
  rest = moves.rest ∙ ap (λ (m : Seat). (record m.0 { turns = c.0.turns; done = c.0.done }, m.1)) more.rest;
}
