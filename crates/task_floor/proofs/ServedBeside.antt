-- A worker that takes the turn of a task, runs a segment of it, and leaves it, beside the nodes.
use Rattle.std.proofs.Common.{◌≡◌, ◌≢◌, ◌⊎◌, ◌++◌, ◌<◌, ℕ, Bool, true, false, List, [], ◌∷◌, Option, None, Some, if◌then◌else◌, refl, sym, ap, subst, ◌∙◌, inl, inr, ⊎_elim, eq-eqb}
use Rattle.std.proofs.lemmas.Bool.{cases_eq}
use Rattle.std.specs.Prelude.{Contains}
use Rattle.region_paths.specs.declared.elements.Elem.{Elem}
use Rattle.effect_sets.specs.declared.effects.Effect.{Effect}
use Rattle.twe_base.specs.Limits.{Bounds}
use Rattle.twe_program.specs.Program.{Program}
use Rattle.seg_meaning.specs.declared.frame.Frame.{Frame}
use Rattle.seg_meaning.specs.declared.stop.Stop.{Stop}
use Rattle.seg_meaning.specs.Segment.{HasRoomToSpawn}
use Rattle.machine_state.specs.declared.state.TaskStatus.{TaskStatus}
use Rattle.machine_state.specs.declared.state.TaskStatus.TheVariants as status
use Rattle.machine_state.specs.Moves.{admitted_row, status_at_start}
use Rattle.seg_journal.specs.declared.numbered.NumberedEntry.{NumberedEntry}
use Rattle.floor_laws.specs.declared.rule.view.HeldTurn.{HeldTurn}
use Rattle.floor_laws.specs.declared.rule.view.Phase.{Phase}
use Rattle.floor_laws.specs.declared.rule.view.Phase.TheVariants as phases
use Rattle.floor_laws.specs.declared.rule.view.TaskSlot.{TaskSlot}
use Rattle.floor_laws.specs.rule.Rows.{phase_of, slot_of}
use Rattle.floor_laws.proofs.rule.Puts.{none_some, put_all, put_else, put_here, some_one}
use Rattle.floor_laws.specs.declared.table.view.SeatKind.TheVariants.{Spent}
use Rattle.floor_laws.specs.declared.table.view.View.{View}
use Rattle.floor_laws.specs.table.FloorOf.{turn_in}
use Rattle.floor_laws.specs.table.Tells.{Seat, with_turn}
use Rattle.task_floor.specs.steps.Committing.{Log}
use Rattle.task_floor.specs.steps.Resuming.{HasInHand}
use Rattle.task_floor.specs.steps.Segments.{HasRunSegment, MayRunSegment}
use Rattle.floor_laws.specs.admission.admission_core.States.{IsAmong, IsPlaceOf, Record}
use Rattle.floor_laws.specs.rule.nodes.Taking.{clear_after_taking}
use Rattle.floor_laws.specs.rule.nodes.TurnSteps.{HasPlacedChildren, IsClearOf, LeavesNone, of_others}
use Rattle.floor_laws.proofs.rule.nodes.TaskChanges.{among_others}
use Rattle.floor_laws.specs.declared.table.nodes.slot.TreeSlot.{TreeSlot}
use Rattle.floor_laws.specs.declared.table.nodes.slot.TreeSlot.TheVariants as kinds
use Rattle.floor_laws.specs.declared.table.nodes.view.TreeView.{TreeView}
use Rattle.floor_laws.specs.table.nodes.FloorSeats.{HasTaskSlots, floor_seat, tasks_out}
use Rattle.floor_laws.specs.table.nodes.Seats.{TreeSeat, tree_seen, turns_seen}
use Rattle.floor_laws.specs.table.nodes.TreeOf.{content_in}
use Rattle.floor_laws.specs.table.nodes.TurnSeats.{GaveTreeTurn, given_tree_view, gives_first, gives_taken}
use Rattle.floor_laws.specs.table.nodes.EntrySeats.{admission_at}
use Rattle.task_floor.specs.Committing.{HasAdmitted, MayCommitBeside}
use Rattle.task_floor.specs.Holding.{HoldsChildBeside, HoldsDrawnBeside, HoldsOneBeside, HoldsReadyBeside, HoldsTaskBeside, IsIdleBeside, IsOutsideWith}
use Rattle.task_floor.specs.Leaving.{HasLeftTask, MayFinishTask, MayGiveNew, MayGoFrom, MayParkTask, stored_view}
use Rattle.task_floor.specs.Resuming.{KnowsEnough, MovesOnBeside}
use Rattle.task_floor.specs.Stands.{StaysInTree}
use Rattle.task_floor.specs.Turns.{HasTakenTask, MayGiveTask}
use Rattle.task_floor.proofs.Forgetting.{AreOf, all_are, both_are}
use Rattle.task_floor.proofs.GoingOn.{enabled_leaves}
use Rattle.task_floor.proofs.LeavingTasks.{same_out}
use Rattle.task_floor.proofs.Valuing.{clear_taken, knows_enough}

false_true : false ≡ true → ⊥
false_true is = cc (is)

-- Records that a seat knows of.

among_of : (t : ℕ) (records : List Record) → AreOf t records → (r : Record) → IsAmong r records → r.task ≡ t
among_of t [] are r none = absurd none
among_of t (x ∷ records) are r (inl same) = ap (λ (y : Record). y.task) same ∙ are.0
among_of t (x ∷ records) are r (inr later) = among_of t records are.1 r later

told_of : (nodes : List (List Elem)) (t : ℕ) (is : TaskStatus) (effects : List Effect) → AreOf t (clear_after_taking nodes t is effects [])
told_of nodes t status.Made effects = both_are t _ [] (all_are nodes t effects) tt
told_of nodes t status.Enabled effects = tt
told_of nodes t status.Done effects = both_are t _ [] (all_are nodes t effects) tt
told_of nodes t status.Faulted effects = both_are t _ [] (all_are nodes t effects) tt

-- all are forgotten, if all are of the task
pub all_forgotten : (t : ℕ) (records : List Record) → ((r : Record) → IsAmong r records → r.task ≡ t) → of_others t records ≡ []
all_forgotten t [] all = refl
all_forgotten t (r ∷ records) all =
    ap (λ (b : Bool). if b then of_others t records else r ∷ of_others t records) (eq-eqb r.task t (all r (inl refl))) ∙ all_forgotten t records (λ x among. all x (inr among))

-- A worker with one task.

pub children_of_one : (number : ℕ) (me : TreeSeat) (log : Log) (t : ℕ) (turn : HeldTurn) → HoldsOneBeside number me log t → turn_in me.0.floor.turns t ≡ Some turn → turn.first ≡ false → HasPlacedChildren (turns_seen me.0) 0 t
children_of_one number me log t turn one has taken c child is first =
    ⊎_elim
    (λ (same : c ≡ t).
    let alike : turn ≡ child = some_one (sym has ∙ (sym (ap (turn_in me.0.floor.turns) same) ∙ is)) in
    absurd (false_true (sym taken ∙ (ap (λ (h : HeldTurn). h.first) alike ∙ first))))
    (λ (other : c ≢ t). absurd (none_some (sym (one.others c other) ∙ is)))
    (cases_eq c t)

pub one_slots : (lim : Bounds) (number : ℕ) (me : TreeSeat) (log : Log) (t : ℕ) → HoldsOneBeside number me log t → t < lim.tasks → HasTaskSlots lim.tasks me.1
one_slots lim number me log t one below = subst (HasTaskSlots lim.tasks) (sym one.out) (below, tt)

-- Taking the turn.
module _ (nodes : List (List Elem)) (number : ℕ) (a b : TreeSeat) (log : Log) (t : ℕ) (slot : TaskSlot) (idle : IsIdleBeside number a log) (took : HasTakenTask nodes a b t slot) where
  abbrev took_turn : HeldTurn
  took_turn = took.floor.turn

  floor_view : b.0.floor ≡ with_turn a.0.floor t (Some took_turn)
  floor_view = ap (λ (m : Seat). m.0) took.floor.seat

  told_clear : b.0.clear ≡ clear_after_taking nodes t took_turn.row.status took_turn.row.effects.effects []
  told_clear = clear_taken nodes a b t slot took ∙ ap (clear_after_taking nodes t took_turn.row.status took_turn.row.effects.effects) idle.left.clear

  none_fresh : b.0.fresh ≡ []
  none_fresh = ap (λ (v : TreeView). v.fresh) took.view ∙ idle.left.fresh

  one_taken : HoldsOneBeside number b log t
  one_taken = record {
    live = λ spent. idle.floor.live (sym (ap (λ (v : View). v.kind) floor_view) ∙ spent);
    number_is = idle.floor.number_is ∙ sym (ap (λ (v : View). v.worker) floor_view);
    others = λ u other. ap (λ (v : View). turn_in v.turns u) floor_view ∙ (put_else (turn_in a.0.floor.turns) t u (Some took_turn) other ∙ idle.floor.given.turns u);
    out = took.out ∙ ap (λ (l : List (ℕ × TreeSlot)). (t, kinds.Task None) ∷ l) idle.out;
    entries = idle.floor.entries ∙ sym (ap (λ (v : View). v.part) floor_view);
    outside = record {
      idle = ap (λ (v : TreeView). v.activity) took.view ∙ idle.left.activity;
      kept = λ n. ap (λ (v : TreeView). content_in v.kept n) took.view ∙ idle.left.kept n;
      fresh = λ r among. absurd (subst (IsAmong r) none_fresh among);
      clear = λ r among. among_of t _ (told_of nodes t took_turn.row.status took_turn.row.effects.effects) r (subst (IsAmong r) told_clear among);
    };
  }

  pub holds_taken : HoldsTaskBeside nodes number b log t slot took_turn
  holds_taken = record {
    one = one_taken;
    in_hand = record {
      has = ap (λ (v : View). turn_in v.turns t) floor_view ∙ put_here (turn_in a.0.floor.turns) t (Some took_turn);
      taken = took.floor.taken;
      phase = took.floor.phase;
      frame_is = ap (λ (s : TaskSlot). s.frame) took.floor.is;
      latest = record { slot = None; rest = tasks_out a.1; is = ap (λ (m : Seat). m.1) took.floor.seat };
      closed = ap (λ (v : View). v.segment) floor_view ∙ idle.floor.given.segment;
    };
    slot_is = took.floor.is;
    enough = knows_enough nodes a b t slot took idle.left.activity;
  }

-- Leaving a task, whose turn is given: nothing is in hand then.
idle_after : (number : ℕ) (v : TreeView) (after : TreeSeat) (log : Log) (t : ℕ) (turn : HeldTurn) → v.floor.kind ≢ Spent → number ≡ v.floor.worker → ((u : ℕ) → u ≢ t → turn_in v.floor.turns u ≡ None)
    → v.floor.segment ≡ None → log.entries ≡ v.floor.part → IsOutsideWith (λ u. u ≡ t) v → after ≡ (given_tree_view v t turn, []) → IsIdleBeside number after log
idle_after number v after log t turn live number_is others closed entries outside is =
    subst (λ (m : TreeSeat). IsIdleBeside number m log) (sym is)
    (record {
      floor = record {
        live = live;
        number_is = number_is;
        given = record { turns = put_all (λ (n : ℕ) (o : Option HeldTurn). o ≡ None) (turn_in v.floor.turns) t None refl others; segment = closed };
        out = refl;
        entries = entries;
      };
      out = refl;
      left = record {
        activity = outside.idle;
        kept = outside.kept;
        fresh = all_forgotten t v.fresh outside.fresh;
        clear = all_forgotten t v.clear outside.clear;
      };
    })

-- Giving the turn back.
module _ (nodes : List (List Elem)) (number : ℕ) (me : TreeSeat) (log : Log) (t : ℕ) (slot : TaskSlot) (turn : HeldTurn) (holds : HoldsTaskBeside nodes number me log t slot turn) where
  pub may_give_held_beside : MayGiveTask nodes me t slot turn []
  may_give_held_beside = record {
    floor = record {
      has = holds.in_hand.has;
      phase = holds.in_hand.phase;
      closed = λ s is. absurd (none_some (sym holds.in_hand.closed ∙ is));
      is = holds.slot_is;
      out = ap tasks_out holds.one.out;
    };
    out = holds.one.out;
    leaves = gives_taken (record {
      has = holds.in_hand.has;
      taken = holds.in_hand.taken;
      idle = holds.enough.idle;
      children = holds.enough.children;
      leaves = holds.enough.leaves;
    });
  }

  pub idle_given_beside : (after : TreeSeat) → GaveTreeTurn me t turn [] after → IsIdleBeside number after log
  idle_given_beside after gave =
      idle_after number me.0 after log t turn holds.one.live holds.one.number_is holds.one.others holds.in_hand.closed holds.one.entries holds.one.outside gave

-- The task was looked at, and may go on or not.
module _ (nodes : List (List Elem)) (number : ℕ) (a b : TreeSeat) (log : Log) (t : ℕ) (slot : TaskSlot) (turn : HeldTurn) (holds : HoldsTaskBeside nodes number a log t slot turn) (moves : MovesOnBeside a b t) where
  fewer_clear : (r : Record) → IsAmong r b.0.clear → r.task ≡ t
  fewer_clear r among =
      ⊎_elim (λ (same : b.0.clear ≡ a.0.clear). holds.one.outside.clear r (subst (IsAmong r) same among))
      (λ (forgot : (u : ℕ) × (u ≢ t) × (b.0.clear ≡ of_others u a.0.clear)). holds.one.outside.clear r (among_others forgot.0 r a.0.clear (subst (IsAmong r) forgot.2 among)).0)
      moves.clear

  pub one_moved : HoldsOneBeside number b log t
  one_moved = record {
    live = λ spent. holds.one.live (sym (ap (λ (m : Seat). m.0.kind) moves.floor.rest) ∙ spent);
    number_is = holds.one.number_is ∙ sym (ap (λ (m : Seat). m.0.worker) moves.floor.rest);
    others = λ u other. moves.floor.others u other ∙ holds.one.others u other;
    out = moves.out ∙ holds.one.out;
    entries = holds.one.entries ∙ sym (ap (λ (m : Seat). m.0.part) moves.floor.rest);
    outside = record {
      idle = ap (λ (v : TreeView). v.activity) moves.view ∙ holds.one.outside.idle;
      kept = λ n. ap (λ (v : TreeView). content_in v.kept n) moves.view ∙ holds.one.outside.kept n;
      fresh = λ r among. holds.one.outside.fresh r (subst (λ (v : TreeView). IsAmong r v.fresh) moves.view among);
      clear = fewer_clear;
    };
  }

  pub holds_ready : (frame : Frame) → MayRunSegment (floor_seat b) t (record turn { phase = phases.Running }) frame → HoldsReadyBeside number b log t (record slot { frame = frame }) (record turn { phase = phases.Running })
  holds_ready frame may = record { one = one_moved; may = may; slot_is = ap (λ (s : TaskSlot). record s { frame = frame }) holds.slot_is }

  pub holds_still : (frame : Frame) → HasInHand (floor_seat b) t turn frame → KnowsEnough nodes b.0 t turn.row → HoldsTaskBeside nodes number b log t (record slot { frame = frame }) turn
  holds_still frame hand enough = record {
    one = one_moved;
    in_hand = hand;
    slot_is = λ k. record (holds.slot_is k) { frame = hand.frame_is k };
    enough = enough;
  }

-- Running a segment.
module _ (p : Program) (lim : Bounds) (number : ℕ) (me ran : TreeSeat) (old new : Log) (t : ℕ) (slot : TaskSlot) (turn : HeldTurn) (frame : Frame) (stop : Stop)
    (holds : HoldsReadyBeside number me old t slot turn) (logs : new.entries ≡ old.entries) (below : t < lim.tasks) (has : HasRunSegment p (floor_seat me) (floor_seat ran) t turn frame stop) (stays : StaysInTree lim me ran) where
  pub one_ran_beside : HoldsOneBeside number ran new t
  one_ran_beside = record {
    live = λ spent. holds.one.live (sym (ap (λ (m : Seat). m.0.kind) has.kept) ∙ spent);
    number_is = holds.one.number_is ∙ sym (ap (λ (m : Seat). m.0.worker) has.kept);
    others = λ u other. ap (λ (m : Seat). turn_in m.0.turns u) has.kept ∙ holds.one.others u other;
    out = same_out lim.tasks me.1 ran.1 (one_slots lim number me old t holds.one below) stays.slots (ap (λ (m : Seat). m.1) has.kept) ∙ holds.one.out;
    entries = logs ∙ (holds.one.entries ∙ sym (ap (λ (m : Seat). m.0.part) has.kept));
    outside = record {
      idle = ap (λ (v : TreeView). v.activity) stays.view ∙ holds.one.outside.idle;
      kept = λ n. ap (λ (v : TreeView). content_in v.kept n) stays.view ∙ holds.one.outside.kept n;
      fresh = λ r among. holds.one.outside.fresh r (subst (λ (v : TreeView). IsAmong r v.fresh) stays.view among);
      clear = λ r among. holds.one.outside.clear r (subst (λ (v : TreeView). IsAmong r v.clear) stays.view among);
    };
  }

  pub may_commit_beside : HasRoomToSpawn stop frame → MayCommitBeside p ran t (record slot { frame = frame }) stop turn
  may_commit_beside room = record {
    floor = record {
      latest = record { slot = None; rest = []; is = ap tasks_out one_ran_beside.out };
      may = has.draw;
      rest = ap (λ (s : TaskSlot). record s { frame = frame }) holds.slot_is;
      room = room;
    };
    placed = children_of_one number ran new t turn one_ran_beside has.draw.has holds.may.may.taken;
  }

-- Leaving a task whose entry was drawn.
module _ (nodes : List (List Elem)) (number : ℕ) (me : TreeSeat) (log : Log) (t : ℕ) (slot : TaskSlot) (turn : HeldTurn) (holds : HoldsDrawnBeside number me log t slot turn) where
  pub may_go_drawn : LeavesNone nodes (tree_seen me.0) 0 t turn.row.effects.effects turn.row.status → MayGoFrom nodes me t slot turn []
  may_go_drawn leaves = record {
    floor = record {
      has = holds.has;
      closed = λ s is. absurd (none_some (sym holds.closed ∙ is));
      is = holds.slot_is;
      out = ap tasks_out holds.one.out;
    };
    out = holds.one.out;
    leaves = gives_taken (record {
      has = holds.has;
      taken = holds.taken;
      idle = holds.one.outside.idle;
      children = children_of_one number me log t turn holds.one holds.has holds.taken;
      leaves = leaves;
    });
  }

  -- it has ended, and none of its records is left
  pub may_finish_drawn : (phase : Phase) → (turn.row.status ≡ status.Done) ⊎ (turn.row.status ≡ status.Faulted) → phase ≡ phase_of turn.row → IsClearOf nodes (tree_seen me.0) 0 t turn.row.effects.effects
      → MayFinishTask nodes me t slot phase turn []
  may_finish_drawn phase ended is clear = record { may = may_go_drawn (ended_leaves turn.row.status ended); ended = ended; phase_is = is }
    where
      ended_leaves : (s : TaskStatus) → (s ≡ status.Done) ⊎ (s ≡ status.Faulted) → LeavesNone nodes (tree_seen me.0) 0 t turn.row.effects.effects s
      ended_leaves s (inl done) = subst (LeavesNone nodes (tree_seen me.0) 0 t turn.row.effects.effects) (sym done) clear
      ended_leaves s (inr faulted) = subst (LeavesNone nodes (tree_seen me.0) 0 t turn.row.effects.effects) (sym faulted) clear

  pub may_park_drawn : turn.row.status ≡ status.Enabled → MayParkTask nodes me t slot turn []
  may_park_drawn enabled = record { may = may_go_drawn (enabled_leaves nodes me.0 t turn.row enabled); enabled = enabled }

  pub idle_left_beside : (after : TreeSeat) → HasLeftTask me t turn [] after → IsIdleBeside number after log
  idle_left_beside after left =
      idle_after number (stored_view me.0 t turn) after log t turn holds.one.live holds.one.number_is
      (λ u other. put_else (turn_in me.0.floor.turns) t u (Some (record turn { phase = phase_of turn.row })) other ∙ holds.one.others u other) holds.closed holds.one.entries
      (record { idle = holds.one.outside.idle; kept = holds.one.outside.kept; fresh = holds.one.outside.fresh; clear = holds.one.outside.clear }) left

-- The first turn of a spawned child, which is placed.
module _ (nodes : List (List Elem)) (lim : Bounds) (number : ℕ) (me : TreeSeat) (log : Log) (t : ℕ) (slot : TaskSlot) (turn : HeldTurn) (c : ℕ) (child : TaskSlot) (new : HeldTurn)
    (holds : HoldsChildBeside lim number me log t slot turn c child new) where
  child_enabled : new.row.status ≡ status.Enabled
  child_enabled = holds.new_status ∙ ap status_at_start holds.spawned

  pub may_give_child : ((e : Effect) → Contains new.row.effects.effects e → (n : ℕ) × IsPlaceOf nodes e n × IsAmong (record { task = c; effect = e; node = n }) me.0.fresh)
      → MayGiveNew nodes me c child new ((t, kinds.Task None) ∷ [])
  may_give_child placed = record {
    may = record {
      floor = record {
        has = holds.has_new;
        closed = λ s is. absurd (none_some (sym holds.closed ∙ is));
        is = holds.new_is;
        out = ap tasks_out holds.out;
      };
      out = holds.out;
      leaves = gives_first (record { has = holds.has_new; first = holds.first; placed = λ spawned. placed; leaves = enabled_leaves nodes me.0 c new.row child_enabled });
    };
    new = holds.new_status;
  }

  turn_left : (u : ℕ) → u ≢ c → turn_in (record { task = c; turn = None } ∷ record { task = c; turn = Some (record new { phase = phase_of new.row }) } ∷ me.0.floor.turns) u ≡ turn_in me.0.floor.turns u
  turn_left u other =
      put_else (turn_in (record { task = c; turn = Some (record new { phase = phase_of new.row }) } ∷ me.0.floor.turns)) c u None other
      ∙ put_else (turn_in me.0.floor.turns) c u (Some (record new { phase = phase_of new.row })) other

  none_left : (u : ℕ) → u ≢ t → turn_in (record { task = c; turn = None } ∷ record { task = c; turn = Some (record new { phase = phase_of new.row }) } ∷ me.0.floor.turns) u ≡ None
  none_left u other =
      ⊎_elim
      (λ (same : u ≡ c).
      ap (turn_in (record { task = c; turn = None } ∷ record { task = c; turn = Some (record new { phase = phase_of new.row }) } ∷ me.0.floor.turns)) same
      ∙ put_here (turn_in (record { task = c; turn = Some (record new { phase = phase_of new.row }) } ∷ me.0.floor.turns)) c None)
      (λ (apart : u ≢ c). turn_left u apart ∙ holds.others u other apart)
      (cases_eq u c)

  left_of : (r : Record) → (r.task ≡ t) ⊎ (r.task ≡ c) → r.task ≢ c → r.task ≡ t
  left_of r (inl of) other = of
  left_of r (inr of) other = absurd (other of)

  pub holds_after_child : (after : TreeSeat) → HasLeftTask me c new ((t, kinds.Task None) ∷ []) after → HoldsDrawnBeside number after log t slot turn
  holds_after_child after left =
      subst (λ (m : TreeSeat). HoldsDrawnBeside number m log t slot turn) (sym left)
      (record {
        one = record {
          live = holds.live;
          number_is = holds.number_is;
          others = none_left;
          out = refl;
          entries = holds.entries;
          outside = record {
            idle = holds.outside.idle;
            kept = holds.outside.kept;
            fresh = λ r among. let are = among_others c r me.0.fresh among in left_of r (holds.outside.fresh r are.0) are.1;
            clear = λ r among. let are = among_others c r me.0.clear among in left_of r (holds.outside.clear r are.0) are.1;
          };
        };
        has = turn_left t (λ same. holds.differ (sym same)) ∙ holds.has;
        taken = holds.taken;
        slot_is = holds.slot_is;
        closed = holds.closed;
      })

-- What a worker still has in hand after it went through the tree: of the floor it has at most learned of tasks that are done.

pub record CameBack (of : ℕ → Type 0) (a b : TreeSeat) : Type 0 where
  pub floor : b.0.floor ≡ record a.0.floor { done = b.0.floor.done }
  pub out : b.1 ≡ a.1
  pub outside : IsOutsideWith of b.0

module _ (number : ℕ) (a b : TreeSeat) (log : Log) (t : ℕ) (back : CameBack (λ u. u ≡ t) a b) where
  pub one_back : HoldsOneBeside number a log t → HoldsOneBeside number b log t
  one_back one = record {
    live = λ spent. one.live (sym (ap (λ (v : View). v.kind) back.floor) ∙ spent);
    number_is = one.number_is ∙ sym (ap (λ (v : View). v.worker) back.floor);
    others = λ u other. ap (λ (v : View). turn_in v.turns u) back.floor ∙ one.others u other;
    out = back.out ∙ one.out;
    entries = one.entries ∙ sym (ap (λ (v : View). v.part) back.floor);
    outside = back.outside;
  }

  pub drawn_back : (slot : TaskSlot) (turn : HeldTurn) → HoldsDrawnBeside number a log t slot turn → HoldsDrawnBeside number b log t slot turn
  drawn_back slot turn holds = record {
    one = one_back holds.one;
    has = ap (λ (v : View). turn_in v.turns t) back.floor ∙ holds.has;
    taken = holds.taken;
    slot_is = holds.slot_is;
    closed = ap (λ (v : View). v.segment) back.floor ∙ holds.closed;
  }

  -- a task that is still to be admitted, and whose records were taken out again, may be given back
  pub task_back : (nodes : List (List Elem)) (slot : TaskSlot) (turn : HeldTurn) → turn.row.status ≡ status.Made → HoldsTaskBeside nodes number a log t slot turn
      → ((r : Record) → IsAmong r b.0.fresh → r.task ≢ t) → HoldsTaskBeside nodes number b log t slot turn
  task_back nodes slot turn made holds none =
      let one = one_back holds.one in
      let has : turn_in b.0.floor.turns t ≡ Some turn = ap (λ (v : View). turn_in v.turns t) back.floor ∙ holds.in_hand.has in
      record {
        one = one;
        in_hand = record {
          has = has;
          taken = holds.in_hand.taken;
          phase = holds.in_hand.phase;
          frame_is = holds.in_hand.frame_is;
          latest = record { slot = None; rest = []; is = ap tasks_out one.out };
          closed = ap (λ (v : View). v.segment) back.floor ∙ holds.in_hand.closed;
        };
        slot_is = holds.slot_is;
        enough = record {
          idle = back.outside.idle;
          children = children_of_one number b log t turn one has holds.in_hand.taken;
          leaves = subst (LeavesNone nodes (tree_seen b.0) 0 t turn.row.effects.effects) (sym made) none;
        };
      }

-- a spawned child whose records were placed
pub child_back : (lim : Bounds) (number : ℕ) (a b : TreeSeat) (log : Log) (t : ℕ) (slot : TaskSlot) (turn : HeldTurn) (c : ℕ) (child : TaskSlot) (new : HeldTurn)
    → CameBack (λ u. (u ≡ t) ⊎ (u ≡ c)) a b → HoldsChildBeside lim number a log t slot turn c child new → HoldsChildBeside lim number b log t slot turn c child new
child_back lim number a b log t slot turn c child new back holds = record {
  live = λ spent. holds.live (sym (ap (λ (v : View). v.kind) back.floor) ∙ spent);
  number_is = holds.number_is ∙ sym (ap (λ (v : View). v.worker) back.floor);
  others = λ u other apart. ap (λ (v : View). turn_in v.turns u) back.floor ∙ holds.others u other apart;
  out = back.out ∙ holds.out;
  entries = holds.entries ∙ sym (ap (λ (v : View). v.part) back.floor);
  outside = back.outside;
  has = ap (λ (v : View). turn_in v.turns t) back.floor ∙ holds.has;
  taken = holds.taken;
  slot_is = holds.slot_is;
  closed = ap (λ (v : View). v.segment) back.floor ∙ holds.closed;
  differ = holds.differ;
  below = holds.below;
  has_new = ap (λ (v : View). turn_in v.turns c) back.floor ∙ holds.has_new;
  first = holds.first;
  parent = holds.parent;
  spawned = holds.spawned;
  new_is = holds.new_is;
  new_status = holds.new_status;
}

-- The admission of the task in hand was drawn.
pub holds_admitted : (nodes : List (List Elem)) (number : ℕ) (me after : TreeSeat) (old new : Log) (t : ℕ) (slot : TaskSlot) (turn : HeldTurn) (n : ℕ) → HoldsOneBeside number me old t
    → turn.first ≡ false → slot ≡ slot_of turn.row → me.0.floor.segment ≡ None → HasAdmitted me t turn n after old new → HoldsDrawnBeside number after new t slot (record turn { row = admitted_row turn.row })
holds_admitted nodes number me after old new t slot turn n one taken slot_is closed drew =
    let now : HeldTurn = record turn { row = admitted_row turn.row } in
    let seat = drew.seat in
    record {
      one = record {
        live = λ spent. one.live (sym (ap (λ (m : TreeSeat). m.0.floor.kind) seat) ∙ spent);
        number_is = one.number_is ∙ sym (ap (λ (m : TreeSeat). m.0.floor.worker) seat);
        others = λ u other. ap (λ (m : TreeSeat). turn_in m.0.floor.turns u) seat ∙ (put_else (turn_in me.0.floor.turns) t u (Some now) other ∙ one.others u other);
        out = ap (λ (m : TreeSeat). m.1) seat ∙ one.out;
        entries = ap (λ (l : Log). l.entries) drew.log ∙ (ap (λ (es : List NumberedEntry). es ++ admission_at drew.clock t ∷ []) one.entries ∙ sym (ap (λ (m : TreeSeat). m.0.floor.part) seat));
        outside = record {
          idle = ap (λ (m : TreeSeat). m.0.activity) seat ∙ one.outside.idle;
          kept = λ k. ap (λ (m : TreeSeat). content_in m.0.kept k) seat ∙ one.outside.kept k;
          fresh = λ r among. one.outside.fresh r (subst (λ (m : TreeSeat). IsAmong r m.0.fresh) seat among);
          clear = λ r among. one.outside.clear r (subst (λ (m : TreeSeat). IsAmong r m.0.clear) seat among);
        };
      };
      has = ap (λ (m : TreeSeat). turn_in m.0.floor.turns t) seat ∙ put_here (turn_in me.0.floor.turns) t (Some now);
      taken = taken;
      slot_is = slot_is;
      closed = ap (λ (m : TreeSeat). m.0.floor.segment) seat ∙ closed;
    }
