-- A worker that has drawn the entry of its task's segment, beside the nodes: what it has in hand then.
use Rattle.std.proofs.Common.{◌≡◌, ◌≢◌, ◌+◌, ◌++◌, ◌<◌, ℕ, Bool, true, false, cond, List, [], ◌∷◌, Option, None, Some, refl, sym, ap, subst, ◌∙◌, inl, ⊎_elim}
use Rattle.std.proofs.lemmas.Bool.{cases_eq}
use Rattle.std.specs.Prelude.{nat_lt}
use Rattle.std.specs.Option.{ForSome}
use Rattle.twe_base.specs.declared.fault.FaultKind.TheVariants.{TaskLimit}
use Rattle.twe_base.specs.Limits.{Bounds}
use Rattle.seg_journal.specs.declared.journal.End.{End}
use Rattle.seg_journal.specs.declared.journal.End.TheVariants as ends
use Rattle.seg_meaning.specs.declared.frame.Frame.{Frame}
use Rattle.seg_meaning.specs.declared.stop.Stop.{Stop}
use Rattle.seg_meaning.specs.declared.stop.Stop.TheVariants as stops
use Rattle.machine_state.specs.declared.state.TaskRow.{TaskRow}
use Rattle.machine_state.specs.Moves.{new_row, parent_of, status_at_start}
use Rattle.seg_journal.specs.declared.numbered.NumberedEntry.{NumberedEntry}
use Rattle.floor_laws.specs.declared.rule.view.HeldTurn.{HeldTurn}
use Rattle.floor_laws.specs.declared.rule.view.TaskSlot.{TaskSlot}
use Rattle.floor_laws.specs.rule.Rows.{phase_of, slot_of}
use Rattle.floor_laws.specs.rule.Steps.{end_after, first_turn, row_after}
use Rattle.floor_laws.proofs.rule.Puts.{none_some, put_else, put_here, some_one}
use Rattle.floor_laws.specs.declared.table.view.TurnChange.{TurnChange}
use Rattle.floor_laws.specs.table.FloorOf.{turn_in}
use Rattle.floor_laws.specs.table.Layout.{asked_of_clock}
use Rattle.floor_laws.specs.table.Tells.{drawn_view, entry_at}
use Rattle.task_floor.specs.steps.Committing.{Log, child_row}
use Rattle.task_floor.proofs.steps.CommittedEntries.{child_below}
use Rattle.floor_laws.specs.admission.admission_core.States.{IsAmong}
use Rattle.floor_laws.proofs.rule.nodes.TaskChanges.{among_others}
use Rattle.floor_laws.specs.declared.table.nodes.slot.TreeSlot.{TreeSlot}
use Rattle.floor_laws.specs.declared.table.nodes.slot.TreeSlot.TheVariants as kinds
use Rattle.floor_laws.specs.table.nodes.Seats.{TreeSeat}
use Rattle.floor_laws.specs.table.nodes.TreeOf.{content_in}
use Rattle.task_floor.specs.Committing.{HasCommittedBeside, left_to_place, made_in, spawned_slot, with_first, with_first_given, with_made}
use Rattle.task_floor.specs.Holding.{HoldsChildBeside, HoldsDrawnBeside, HoldsOneBeside}

-- the number of the child is that of the entry's end
made_end : (lim : Bounds) (asked t : ℕ) (stop : Stop) (row : TaskRow) → child_row lim asked t stop ≡ Some row → end_after lim asked stop ≡ ends.Made (asked + 1)
made_end lim asked t (stops.Make child args effects spawned future place) row is = chosen (nat_lt (asked + 1) lim.tasks) is
  where
    chosen : (b : Bool) → cond {A = Option TaskRow} b (Some (new_row lim (asked + 1) (parent_of t spawned) child args effects)) None ≡ Some row
        → cond {A = End} b (ends.Made (asked + 1)) (ends.Fault TaskLimit place) ≡ ends.Made (asked + 1)
    chosen true some = refl
    chosen false some = absurd (none_some some)
made_end lim asked t (stops.Waits on) row is = absurd (none_some is)
made_end lim asked t (stops.Joins on) row is = absurd (none_some is)
made_end lim asked t (stops.Done value) row is = absurd (none_some is)
made_end lim asked t (stops.Fault kind place) row is = absurd (none_some is)

made_new : (lim : Bounds) (asked t : ℕ) (stop : Stop) (row : TaskRow) → child_row lim asked t stop ≡ Some row → row.status ≡ status_at_start row.parent
made_new lim asked t (stops.Make child args effects spawned future place) row is = chosen (nat_lt (asked + 1) lim.tasks) (new_row lim (asked + 1) (parent_of t spawned) child args effects) refl is
  where
    chosen : (b : Bool) (new : TaskRow) → new.status ≡ status_at_start new.parent → cond {A = Option TaskRow} b (Some new) None ≡ Some row → row.status ≡ status_at_start row.parent
    chosen true new fresh some = subst (λ (r : TaskRow). r.status ≡ status_at_start r.parent) (some_one some) fresh
    chosen false new fresh some = absurd (none_some some)
made_new lim asked t (stops.Waits on) row is = absurd (none_some is)
made_new lim asked t (stops.Joins on) row is = absurd (none_some is)
made_new lim asked t (stops.Done value) row is = absurd (none_some is)
made_new lim asked t (stops.Fault kind place) row is = absurd (none_some is)

made_below : (lim : Bounds) (asked t : ℕ) (stop : Stop) (row : TaskRow) → child_row lim asked t stop ≡ Some row → asked + 1 < lim.tasks
made_below lim asked t stop row is = child_below lim asked t stop row is

module _ (lim : Bounds) (number : ℕ) (me after : TreeSeat) (old new : Log) (t : ℕ) (turn : HeldTurn) (frame : Frame) (stop : Stop) (n : ℕ) (end : End) (child : Option TaskSlot) (slot : TaskSlot)
    (one : HoldsOneBeside number me old t) (has : turn_in me.0.floor.turns t ≡ Some turn) (taken : turn.first ≡ false) (drew : HasCommittedBeside lim me t turn frame stop n end child slot after old new) where
  abbrev asked : ℕ
  asked = asked_of_clock drew.clock

  abbrev pub c : ℕ
  c = asked + 1

  -- the turn with the task's new row
  abbrev pub now : HeldTurn
  now = record turn { row = row_after lim asked turn.row frame stop }

  abbrev entry : NumberedEntry
  entry = entry_at lim drew.clock t frame stop

  abbrev drawn : TreeSeat
  drawn = (record me.0 { floor = drawn_view lim drew.clock me.0.floor t turn frame stop }, me.1)

  abbrev turns : List TurnChange
  turns = record { task = t; turn = Some now } ∷ me.0.floor.turns

  entries_are : (m : TreeSeat) → m.0.floor.part ≡ me.0.floor.part ++ entry ∷ [] → new.entries ≡ m.0.floor.part
  entries_are m part = ap (λ (l : Log). l.entries) drew.log ∙ (ap (λ (es : List NumberedEntry). es ++ entry ∷ []) one.entries ∙ sym part)

  -- no task was made
  drawn_alone : after ≡ drawn → HoldsDrawnBeside number after new t slot now
  drawn_alone seat = record {
    one = record {
      live = λ spent. one.live (sym (ap (λ (m : TreeSeat). m.0.floor.kind) seat) ∙ spent);
      number_is = one.number_is ∙ sym (ap (λ (m : TreeSeat). m.0.floor.worker) seat);
      others = λ u other. ap (λ (m : TreeSeat). turn_in m.0.floor.turns u) seat ∙ (put_else (turn_in me.0.floor.turns) t u (Some now) other ∙ one.others u other);
      out = ap (λ (m : TreeSeat). m.1) seat ∙ one.out;
      entries = entries_are after (ap (λ (m : TreeSeat). m.0.floor.part) seat);
      outside = record {
        idle = ap (λ (m : TreeSeat). m.0.activity) seat ∙ one.outside.idle;
        kept = λ k. ap (λ (m : TreeSeat). content_in m.0.kept k) seat ∙ one.outside.kept k;
        fresh = λ r among. one.outside.fresh r (subst (λ (m : TreeSeat). IsAmong r m.0.fresh) seat among);
        clear = λ r among. one.outside.clear r (subst (λ (m : TreeSeat). IsAmong r m.0.clear) seat among);
      };
    };
    has = ap (λ (m : TreeSeat). turn_in m.0.floor.turns t) seat ∙ put_here (turn_in me.0.floor.turns) t (Some now);
    taken = taken;
    slot_is = drew.slot_is;
    closed = ap (λ (m : TreeSeat). m.0.floor.segment) seat;
  }

  -- a task was made
  module _ (row : TaskRow) (had_none : turn_in me.0.floor.turns c ≡ None) where
    differ : c ≢ t
    differ same = none_some (sym had_none ∙ (ap (turn_in me.0.floor.turns) same ∙ has))

    abbrev first_turns : List TurnChange
    first_turns = record { task = c; turn = Some (first_turn row) } ∷ turns

    abbrev stored_turns : List TurnChange
    stored_turns = record { task = c; turn = Some (record (first_turn row) { phase = phase_of row }) } ∷ first_turns

    abbrev given_turns : List TurnChange
    given_turns = record { task = c; turn = None } ∷ stored_turns

    first_else : (u : ℕ) → u ≢ c → turn_in first_turns u ≡ turn_in turns u
    first_else u other = put_else (turn_in turns) c u (Some (first_turn row)) other

    given_else : (u : ℕ) → u ≢ c → turn_in given_turns u ≡ turn_in turns u
    given_else u other =
        put_else (turn_in stored_turns) c u None other
        ∙ (put_else (turn_in first_turns) c u (Some (record (first_turn row) { phase = phase_of row })) other ∙ first_else u other)

    given_none : (u : ℕ) → u ≢ t → turn_in given_turns u ≡ None
    given_none u other =
        ⊎_elim (λ (same : u ≡ c). ap (turn_in given_turns) same ∙ put_here (turn_in stored_turns) c None)
        (λ (else : u ≢ c). given_else u else ∙ (put_else (turn_in me.0.floor.turns) t u (Some now) other ∙ one.others u other))
        (cases_eq u c)

    t_other : t ≢ c
    t_other same = differ (sym same)

    -- and its turn was given
    drawn_given : after ≡ with_first_given drawn c row → HoldsDrawnBeside number after new t slot now
    drawn_given seat = record {
      one = record {
        live = λ spent. one.live (sym (ap (λ (m : TreeSeat). m.0.floor.kind) seat) ∙ spent);
        number_is = one.number_is ∙ sym (ap (λ (m : TreeSeat). m.0.floor.worker) seat);
        others = λ u other. ap (λ (m : TreeSeat). turn_in m.0.floor.turns u) seat ∙ given_none u other;
        out = ap (λ (m : TreeSeat). m.1) seat ∙ one.out;
        entries = entries_are after (ap (λ (m : TreeSeat). m.0.floor.part) seat);
        outside = record {
          idle = ap (λ (m : TreeSeat). m.0.activity) seat ∙ one.outside.idle;
          kept = λ k. ap (λ (m : TreeSeat). content_in m.0.kept k) seat ∙ one.outside.kept k;
          fresh = λ r among. one.outside.fresh r (among_others c r me.0.fresh (subst (λ (m : TreeSeat). IsAmong r m.0.fresh) seat among)).0;
          clear = λ r among. one.outside.clear r (among_others c r me.0.clear (subst (λ (m : TreeSeat). IsAmong r m.0.clear) seat among)).0;
        };
      };
      has = ap (λ (m : TreeSeat). turn_in m.0.floor.turns t) seat ∙ (given_else t t_other ∙ put_here (turn_in me.0.floor.turns) t (Some now));
      taken = taken;
      slot_is = drew.slot_is;
      closed = ap (λ (m : TreeSeat). m.0.floor.segment) seat;
    }

    -- or it is left, with what its slot will hold
    drawn_kept : (left : TaskSlot) (parent : ℕ) → left ≡ slot_of row → c < lim.tasks → row.status ≡ status_at_start row.parent → row.parent ≡ Some parent → after ≡ with_first drawn c row
        → HoldsChildBeside lim number after new t slot now c left (first_turn row)
    drawn_kept left parent left_is below fits spawned seat = record {
      live = λ spent. one.live (sym (ap (λ (m : TreeSeat). m.0.floor.kind) seat) ∙ spent);
      number_is = one.number_is ∙ sym (ap (λ (m : TreeSeat). m.0.floor.worker) seat);
      others = λ u other else.
          ap (λ (m : TreeSeat). turn_in m.0.floor.turns u) seat ∙ (first_else u else ∙ (put_else (turn_in me.0.floor.turns) t u (Some now) other ∙ one.others u other));
      out = ap (λ (m : TreeSeat). m.1) seat ∙ ap (λ (l : List (ℕ × TreeSlot)). (c, kinds.Task None) ∷ l) one.out;
      entries = entries_are after (ap (λ (m : TreeSeat). m.0.floor.part) seat);
      outside = record {
        idle = ap (λ (m : TreeSeat). m.0.activity) seat ∙ one.outside.idle;
        kept = λ k. ap (λ (m : TreeSeat). content_in m.0.kept k) seat ∙ one.outside.kept k;
        fresh = λ r among. inl (one.outside.fresh r (subst (λ (m : TreeSeat). IsAmong r m.0.fresh) seat among));
        clear = λ r among. inl (one.outside.clear r (subst (λ (m : TreeSeat). IsAmong r m.0.clear) seat among));
      };
      has = ap (λ (m : TreeSeat). turn_in m.0.floor.turns t) seat ∙ (first_else t t_other ∙ put_here (turn_in me.0.floor.turns) t (Some now));
      taken = taken;
      slot_is = drew.slot_is;
      closed = ap (λ (m : TreeSeat). m.0.floor.segment) seat;
      differ = differ;
      below = below;
      has_new = ap (λ (m : TreeSeat). turn_in m.0.floor.turns c) seat ∙ put_here (turn_in turns) c (Some (first_turn row));
      first = refl;
      parent = parent;
      spawned = spawned;
      new_is = left_is;
      new_status = fits;
    }

  -- By what is left to place.

  made_alone : (row : TaskRow) (parent : Option ℕ) → turn_in me.0.floor.turns c ≡ None → None ≡ spawned_slot parent row → after ≡ made_in parent drawn c row → HoldsDrawnBeside number after new t slot now
  made_alone row None had none seat = drawn_given row had seat
  made_alone row (Some parent) had none seat = absurd (none_some none)

  alone : (row : Option TaskRow) → ForSome row (λ _. turn_in me.0.floor.turns c ≡ None) → None ≡ left_to_place row → after ≡ with_made drawn c row → HoldsDrawnBeside number after new t slot now
  alone None had none seat = drawn_alone seat
  alone (Some row) had none seat = made_alone row row.parent (had row refl) none seat

  -- nothing is left to place: the task alone is in hand
  pub holds_drawn_beside : child ≡ None → HoldsDrawnBeside number after new t slot now
  holds_drawn_beside none = alone (child_row lim asked t stop) drew.had_none (sym none ∙ drew.child_is) drew.seat

  -- a spawned child is left to place
  pub record LeftChild (left : TaskSlot) : Type 0 where
    pub row : TaskRow
    pub end_is : end ≡ ends.Made c
    pub holds : HoldsChildBeside lim number after new t slot now c left (first_turn row)

  made_left : (left : TaskSlot) (row : TaskRow) (parent : Option ℕ) → turn_in me.0.floor.turns c ≡ None → c < lim.tasks → row.status ≡ status_at_start row.parent → row.parent ≡ parent
      → Some left ≡ spawned_slot parent row → after ≡ made_in parent drawn c row → HoldsChildBeside lim number after new t slot now c left (first_turn row)
  made_left left row None had below fits is some seat = absurd (none_some (sym some))
  made_left left row (Some parent) had below fits is some seat = drawn_kept row had left parent (some_one some) below fits is seat

  with_left : (left : TaskSlot) (row : Option TaskRow) → child_row lim asked t stop ≡ row → ForSome row (λ _. turn_in me.0.floor.turns c ≡ None) → Some left ≡ left_to_place row → after ≡ with_made drawn c row → LeftChild left
  with_left left None is had some seat = absurd (none_some (sym some))
  with_left left (Some row) is had some seat = record {
    row = row;
    end_is = drew.end_is ∙ made_end lim asked t stop row is;
    holds = made_left left row row.parent (had row refl) (made_below lim asked t stop row is) (made_new lim asked t stop row is) refl some seat;
  }

  pub holds_child_beside : (left : TaskSlot) → child ≡ Some left → LeftChild left
  holds_child_beside left some = with_left left (child_row lim asked t stop) refl drew.had_none (sym some ∙ drew.child_is) drew.seat
