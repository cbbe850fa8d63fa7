-- What stays of a worker's stand over the calls that it makes, and what it has in hand after it went through the tree.
use Rattle.std.proofs.Common.{◌≡◌, ◌≢◌, ◌⊎◌, ◌+◌, ◌++◌, ◌<◌, ℕ, Bool, if◌then◌else◌, ne_eqb, List, [], ◌∷◌, Option, Some, None, refl, sym, ap, subst, ◌∙◌, inl, inr, ⊎_elim}
use Rattle.std.proofs.lemmas.Bool.{cases_eq}
use Rattle.region_paths.specs.declared.elements.Elem.{Elem}
use Rattle.effect_sets.specs.declared.effects.Effect.{Effect}
use Rattle.twe_base.specs.Limits.{Bounds}
use Rattle.twe_program.specs.Program.{Program}
use Rattle.seg_journal.specs.declared.journal.End.{End}
use Rattle.seg_journal.specs.declared.journal.End.TheVariants as ends
use Rattle.seg_journal.specs.declared.moves.Kind.TheVariants.{Run}
use Rattle.seg_meaning.specs.declared.frame.Frame.{Frame}
use Rattle.seg_meaning.specs.declared.stop.Stop.{Stop}
use Rattle.seg_meaning.specs.Segment.{HasRoomToSpawn}
use Rattle.seg_journal.specs.declared.numbered.NumberedEntry.{NumberedEntry}
use Rattle.machine_state.specs.declared.state.TaskRow.{TaskRow}
use Rattle.machine_state.specs.declared.state.TaskStatus.{TaskStatus}
use Rattle.machine_state.specs.declared.state.TaskStatus.TheVariants as status
use Rattle.machine_state.specs.Moves.{admitted_row}
use Rattle.machine_state.specs.Rows.{row_awaited}
use Rattle.floor_laws.specs.declared.rule.view.HeldTurn.{HeldTurn}
use Rattle.floor_laws.specs.declared.rule.view.Phase.{Phase}
use Rattle.floor_laws.specs.declared.rule.view.Phase.TheVariants as phases
use Rattle.floor_laws.specs.declared.rule.view.TaskSlot.{TaskSlot}
use Rattle.floor_laws.specs.rule.Rows.{phase_at, phase_of}
use Rattle.floor_laws.specs.rule.Steps.{end_after, first_turn, row_after}
use Rattle.floor_laws.proofs.rule.Puts.{none_some, put_here, some_one}
use Rattle.floor_laws.specs.declared.table.view.TurnChange.{TurnChange}
use Rattle.floor_laws.specs.declared.table.view.View.{View}
use Rattle.floor_laws.specs.table.Added.{HasGrown, IsAdded}
use Rattle.floor_laws.specs.table.Layout.{asked_of_clock, word_of_phase}
use Rattle.floor_laws.proofs.table.Added.{added_at, added_then, grown_by, grown_is, grown_then}
use Rattle.floor_laws.specs.table.Tells.{Seat, drawn_view, entry_at}
use Rattle.floor_laws.specs.table.FloorOf.{turn_in}
use Rattle.task_floor.specs.steps.Committing.{Log, child_row, status_after}
use Rattle.task_floor.specs.steps.Resuming.{HasInHand}
use Rattle.task_floor.specs.steps.Segments.{HasRunSegment}
use Rattle.task_floor.specs.steps.Working.{HasFound, HasRunOne, SameSeat}
use Rattle.floor_laws.specs.admission.admission_core.States.{IsAmong}
use Rattle.floor_laws.specs.rule.nodes.FactSteps.{HasPlacedAll}
use Rattle.floor_laws.specs.rule.nodes.Trees.{WaitFact}
use Rattle.floor_laws.specs.rule.nodes.TurnSteps.{IsClearOf}
use Rattle.floor_laws.specs.declared.table.nodes.slot.TreeSlot.{TreeSlot}
use Rattle.floor_laws.specs.declared.table.nodes.slot.TreeSlot.TheVariants as kinds
use Rattle.floor_laws.specs.declared.table.nodes.view.TreeView.{TreeView}
use Rattle.floor_laws.specs.table.nodes.Seats.{TreeSeat, tree_seen, turns_seen}
use Rattle.floor_laws.specs.table.nodes.TurnSeats.{GaveTreeTurn}
use Rattle.floor_laws.specs.table.nodes.EntrySeats.{MayAdmitLatest, admission_at}
use Rattle.floor_laws.specs.table.nodes.FloorSeats.{floor_seat, tasks_out}
use Rattle.floor_laws.specs.table.nodes.Follows.{FollowedPhase}
use Rattle.task_floor.specs.Committing.{HasAdmitted, HasCommittedBeside, made_in, with_made}
use Rattle.task_floor.specs.Holding.{HoldsChildBeside, HoldsDrawnBeside, HoldsOneBeside, HoldsReadyBeside, HoldsTaskBeside}
use Rattle.task_floor.specs.Leaving.{HasLeftTask, MayFinishTask, MayGiveNew}
use Rattle.task_floor.specs.Resuming.{KnowsEnough, MovesOnBeside, WasNotDone}
use Rattle.task_floor.specs.Turns.{HasTakenTask}
use Rattle.task_floor.proofs.Valuing.{not_had_since, not_had_then}
use Rattle.task_floor.specs.Stands.{StaysInTree, TreeStand}
use Rattle.task_floor.proofs.CommittedBeside.{c, holds_child_beside, holds_drawn_beside, now}
use Rattle.task_floor.proofs.GoingOn.{looked_enough, looked_in_hand, looked_moves}
use Rattle.task_floor.proofs.ServedBeside.{CameBack, child_back, drawn_back, holds_admitted, holds_after_child, holds_still, may_commit_beside, may_finish_drawn, may_give_child, one_back, one_ran_beside, task_back}
use Rattle.tree_admit.specs.declared.bars.Bar.{Bar}
use Rattle.tree_admit.specs.Attempts.{HasPlacedEach, HasPlacedNone, KeepsAllElse, WasBarredFor}
use Rattle.tree_admit.specs.serving.Working.{HasAdmittedOne, SameTreeStand}
use Rattle.tree_admit.specs.serving.inner.InHand.{HasEndedIn, HasTakenSince, HoldsMadeBeside, HoldsRanBeside}
use Rattle.tree_admit.proofs.Learning.{barred_kept, barred_since}

-- Stands.

pub same_stands : (a b : TreeStand) → b.table_id ≡ a.table_id → b.id ≡ a.id → SameSeat a.me.0.floor b.me.0.floor → SameTreeStand a b
same_stands a b table id seat = record { table = table; id = id; seat = seat }

pub gave_same : (me after : TreeSeat) (t : ℕ) (turn : HeldTurn) (rest : List (ℕ × TreeSlot)) → GaveTreeTurn me t turn rest after → SameSeat me.0.floor after.0.floor
gave_same me after t turn rest gave =
    subst (λ (m : TreeSeat). SameSeat me.0.floor m.0.floor) (sym gave) (record { worker = refl; kind = refl; split = refl; out = refl })

pub gave_part : (me after : TreeSeat) (t : ℕ) (turn : HeldTurn) (rest : List (ℕ × TreeSlot)) → GaveTreeTurn me t turn rest after → after.0.floor.part ≡ me.0.floor.part
gave_part me after t turn rest gave = ap (λ (m : TreeSeat). m.0.floor.part) gave

pub gave_turns : (me after : TreeSeat) (t : ℕ) (turn : HeldTurn) (rest : List (ℕ × TreeSlot)) → GaveTreeTurn me t turn rest after → HasGrown me.0.floor.turns after.0.floor.turns
gave_turns me after t turn rest gave = grown_by (record { task = t; turn = None }) me.0.floor.turns after.0.floor.turns (ap (λ (m : TreeSeat). m.0.floor.turns) gave)

pub gave_knows : (me after : TreeSeat) (t : ℕ) (turn : HeldTurn) (rest : List (ℕ × TreeSlot)) → GaveTreeTurn me t turn rest after
    → (after.0.kept ≡ me.0.kept) × (after.0.waits ≡ me.0.waits) × (after.0.looks ≡ me.0.looks)
gave_knows me after t turn rest gave = (ap (λ (m : TreeSeat). m.0.kept) gave, ap (λ (m : TreeSeat). m.0.waits) gave, ap (λ (m : TreeSeat). m.0.looks) gave)

pub left_same : (me after : TreeSeat) (t : ℕ) (turn : HeldTurn) (rest : List (ℕ × TreeSlot)) → HasLeftTask me t turn rest after → SameSeat me.0.floor after.0.floor
left_same me after t turn rest left =
    subst (λ (m : TreeSeat). SameSeat me.0.floor m.0.floor) (sym left) (record { worker = refl; kind = refl; split = refl; out = refl })

pub left_part : (me after : TreeSeat) (t : ℕ) (turn : HeldTurn) (rest : List (ℕ × TreeSlot)) → HasLeftTask me t turn rest after → after.0.floor.part ≡ me.0.floor.part
left_part me after t turn rest left = ap (λ (m : TreeSeat). m.0.floor.part) left

pub same_twice : (a b c : View) → SameSeat a b → SameSeat b c → SameSeat a c
same_twice a b c first second = record {
  worker = second.worker ∙ first.worker;
  kind = second.kind ∙ first.kind;
  split = second.split ∙ first.split;
  out = second.out ∙ first.out;
}

-- Through the tree and back.

pub kept_same : (t : ℕ) (a b : TreeSeat) → KeepsAllElse t a b → SameSeat a.0.floor b.0.floor
kept_same t a b keeps = record {
  worker = ap (λ (v : View). v.worker) keeps.floor;
  kind = ap (λ (v : View). v.kind) keeps.floor;
  split = ap (λ (v : View). v.split) keeps.floor;
  out = ap (λ (v : View). v.out) keeps.floor;
}

pub kept_part : (t : ℕ) (a b : TreeSeat) → KeepsAllElse t a b → b.0.floor.part ≡ a.0.floor.part
kept_part t a b keeps = ap (λ (v : View). v.part) keeps.floor

pub one_came_back : (number : ℕ) (a b : TreeSeat) (log : Log) (t : ℕ) → HoldsOneBeside number a log t → KeepsAllElse t a b → CameBack (λ u. u ≡ t) a b
one_came_back number a b log t one keeps = record {
  floor = keeps.floor;
  out = keeps.slots;
  outside = record {
    idle = keeps.outside.idle;
    kept = keeps.outside.none;
    fresh = λ r among. ⊎_elim (λ (same : r.task ≡ t). same) (λ (other : r.task ≢ t). one.outside.fresh r ((keeps.fresh r other).0 among)) (cases_eq r.task t);
    clear = λ r among. ⊎_elim (λ (same : r.task ≡ t). same) (λ (other : r.task ≢ t). one.outside.clear r ((keeps.clear r other).0 among)) (cases_eq r.task t);
  };
}

pub child_came_back : (lim : Bounds) (number : ℕ) (a b : TreeSeat) (log : Log) (t : ℕ) (slot : TaskSlot) (turn : HeldTurn) (c : ℕ) (child : TaskSlot) (new : HeldTurn)
    → HoldsChildBeside lim number a log t slot turn c child new → KeepsAllElse c a b → CameBack (λ u. (u ≡ t) ⊎ (u ≡ c)) a b
child_came_back lim number a b log t slot turn c child new holds keeps = record {
  floor = keeps.floor;
  out = keeps.slots;
  outside = record {
    idle = keeps.outside.idle;
    kept = keeps.outside.none;
    fresh = λ r among. ⊎_elim (λ (same : r.task ≡ c). inr same) (λ (other : r.task ≢ c). holds.outside.fresh r ((keeps.fresh r other).0 among)) (cases_eq r.task c);
    clear = λ r among. ⊎_elim (λ (same : r.task ≡ c). inr same) (λ (other : r.task ≢ c). holds.outside.clear r ((keeps.clear r other).0 among)) (cases_eq r.task c);
  };
}

-- Ends.

pub ended : (is : TaskStatus) (phase : Phase) → HasEndedIn is phase → (is ≡ status.Done) ⊎ (is ≡ status.Faulted)
ended is phase (inl done) = inl done.0
ended is phase (inr faulted) = inr faulted.0

pub ended_phase : (row : TaskRow) (phase : Phase) → HasEndedIn row.status phase → phase ≡ phase_of row
ended_phase row phase (inl done) = done.1 ∙ sym (ap (λ (s : TaskStatus). phase_at s (row_awaited row.frame.next)) done.0)
ended_phase row phase (inr faulted) = faulted.1 ∙ sym (ap (λ (s : TaskStatus). phase_at s (row_awaited row.frame.next)) faulted.0)

-- the task that has ended, once its records were taken out
module _ (nodes : List (List Elem)) (number : ℕ) (a b : TreeSeat) (log : Log) (t : ℕ) (slot : TaskSlot) (turn : HeldTurn) (phase : Phase) (effects : List Effect)
    (holds : HoldsDrawnBeside number a log t slot turn) (is : HasEndedIn turn.row.status phase) (these : effects ≡ slot.effects.effects) (keeps : KeepsAllElse t a b)
    (clear : IsClearOf nodes (tree_seen b.0) 0 t effects) where
  pub drawn_still : HoldsDrawnBeside number b log t slot turn
  drawn_still = drawn_back number a b log t (one_came_back number a b log t holds.one keeps) slot turn holds

  pub may_finish : MayFinishTask nodes b t slot phase turn []
  may_finish =
      may_finish_drawn nodes number b log t slot turn drawn_still phase (ended turn.row.status phase is) (ended_phase turn.row phase is)
      (subst (IsClearOf nodes (tree_seen b.0) 0 t) (these ∙ ap (λ (s : TaskSlot). s.effects.effects) holds.slot_is) clear)

-- Children.

abbrev made_number : End → ℕ
made_number ends.Admitted = 0
made_number (ends.Made c) = c
made_number (ends.Waits on) = 0
made_number (ends.Joins on) = 0
made_number (ends.Done value) = 0
made_number (ends.Fault kind place) = 0

-- the child that is in hand is the one that the entry's end names
pub child_in_hand : (lim : Bounds) (number : ℕ) (me : TreeSeat) (log : Log) (t : ℕ) (slot : TaskSlot) (turn : HeldTurn) (end : End) (child : Option TaskSlot) (c : ℕ) (left : TaskSlot)
    → child ≡ Some left → end ≡ ends.Made c → HoldsMadeBeside lim number me log t slot turn end child → (new : HeldTurn) × HoldsChildBeside lim number me log t slot turn c left new
child_in_hand lim number me log t slot turn end child c left some made holds =
    let had : HoldsMadeBeside lim number me log t slot turn end (Some left) = subst (HoldsMadeBeside lim number me log t slot turn end) some holds in
    let same : had.0 ≡ c = ap made_number (sym had.2 ∙ made) in
    (had.1, subst (λ (n : ℕ). HoldsChildBeside lim number me log t slot turn n left had.1) same had.3)

-- the child once its records were placed
module _ (nodes : List (List Elem)) (lim : Bounds) (number : ℕ) (a b : TreeSeat) (log : Log) (t : ℕ) (slot : TaskSlot) (turn : HeldTurn) (c : ℕ) (left : TaskSlot) (new : HeldTurn) (effects : List Effect)
    (holds : HoldsChildBeside lim number a log t slot turn c left new) (these : effects ≡ left.effects.effects) (keeps : KeepsAllElse c a b) (placed : HasPlacedEach nodes b.0 c effects) where
  child_still : HoldsChildBeside lim number b log t slot turn c left new
  child_still = child_back lim number a b log t slot turn c left new (child_came_back lim number a b log t slot turn c left new holds keeps) holds

  pub may_give_placed : MayGiveNew nodes b c left new ((t, kinds.Task None) ∷ [])
  may_give_placed =
      may_give_child nodes lim number b log t slot turn c left new child_still
      (subst (HasPlacedEach nodes b.0 c) (these ∙ ap (λ (s : TaskSlot). s.effects.effects) holds.new_is) placed)

  pub drawn_then : (after : TreeSeat) → HasLeftTask b c new ((t, kinds.Task None) ∷ []) after → HoldsDrawnBeside number after log t slot turn
  drawn_then after gave = holds_after_child nodes lim number b log t slot turn c left new child_still after gave

-- Entries.

by_parent : (d : TreeSeat) (c : ℕ) (row : TaskRow) (parent : Option ℕ) → (SameSeat d.0.floor (made_in parent d c row).0.floor) × ((made_in parent d c row).0.floor.part ≡ d.0.floor.part)
by_parent d c row None = (record { worker = refl; kind = refl; split = refl; out = refl }, refl)
by_parent d c row (Some parent) = (record { worker = refl; kind = refl; split = refl; out = refl }, refl)

made_same : (d : TreeSeat) (c : ℕ) (row : Option TaskRow) → (SameSeat d.0.floor (with_made d c row).0.floor) × ((with_made d c row).0.floor.part ≡ d.0.floor.part)
made_same d c None = (record { worker = refl; kind = refl; split = refl; out = refl }, refl)
made_same d c (Some row) = by_parent d c row row.parent

module _ (p : Program) (lim : Bounds) (number : ℕ) (me after : TreeSeat) (old new : Log) (t : ℕ) (was : TaskSlot) (turn : HeldTurn) (stop : Stop) (n : ℕ) (end : End) (child : Option TaskSlot) (slot : TaskSlot)
    (ran : HoldsRanBeside p number me old t was turn stop) (drew : HasCommittedBeside lim me t turn was.frame stop n end child slot after old new) where
  abbrev pub turn_then : HeldTurn
  turn_then = now lim number me after old new t turn was.frame stop n end child slot ran.one ran.has ran.taken drew

  pub holds_made : (o : Option TaskSlot) → child ≡ o → HoldsMadeBeside lim number after new t slot turn_then end o
  holds_made None none = holds_drawn_beside lim number me after old new t turn was.frame stop n end child slot ran.one ran.has ran.taken drew none
  holds_made (Some left) some =
      let kept = holds_child_beside lim number me after old new t turn was.frame stop n end child slot ran.one ran.has ran.taken drew left some in
      (c lim number me after old new t turn was.frame stop n end child slot ran.one ran.has ran.taken drew, first_turn kept.row, kept.end_is, kept.holds)

  pub status_then : ((lim : Bounds) (asked : ℕ) (row : TaskRow) (frame : Frame) (stop : Stop) → row.status ≡ status.Enabled → (row_after lim asked row frame stop).status ≡ status_after (end_after lim asked stop))
      → turn_then.row.status ≡ status_after end
  status_then law = law lim (asked_of_clock drew.clock) turn.row was.frame stop ran.enabled ∙ ap status_after (sym drew.end_is)

  abbrev drawn_seat : TreeSeat
  drawn_seat = (record me.0 { floor = drawn_view lim drew.clock me.0.floor t turn was.frame stop }, me.1)

  made_after : (SameSeat drawn_seat.0.floor after.0.floor) × (after.0.floor.part ≡ drawn_seat.0.floor.part)
  made_after =
      subst (λ (m : TreeSeat). (SameSeat drawn_seat.0.floor m.0.floor) × (m.0.floor.part ≡ drawn_seat.0.floor.part)) (sym drew.seat)
      (made_same drawn_seat (asked_of_clock drew.clock + 1) (child_row lim (asked_of_clock drew.clock) t stop))

  pub committed_same : SameSeat me.0.floor after.0.floor
  committed_same = same_twice me.0.floor drawn_seat.0.floor after.0.floor (record { worker = refl; kind = refl; split = refl; out = refl }) made_after.0

  pub run_one : (last : TreeSeat) → last.0.floor.part ≡ after.0.floor.part → HasRunOne (floor_seat me) (floor_seat last) t end
  run_one last lasts = record {
    entry = entry_at lim drew.clock t was.frame stop;
    is = λ k. record { mv = record { kind = Run; task = t }; end = sym drew.end_is k };
    part = lasts ∙ made_after.1;
  }

pub same_trees_twice : (a b c : TreeStand) → SameTreeStand a b → SameTreeStand b c → SameTreeStand a c
same_trees_twice a b c first second = record {
  table = second.table ∙ first.table;
  id = second.id ∙ first.id;
  seat = same_twice a.me.0.floor b.me.0.floor c.me.0.floor first.seat second.seat;
}

-- the segment was run
pub holds_ran : (p : Program) (lim : Bounds) (number : ℕ) (me ran : TreeSeat) (old new : Log) (t : ℕ) (slot : TaskSlot) (turn : HeldTurn) (frame : Frame) (stop : Stop)
    → HoldsReadyBeside number me old t slot turn → new.entries ≡ old.entries → t < lim.tasks → HasRunSegment p (floor_seat me) (floor_seat ran) t turn frame stop → StaysInTree lim me ran → HasRoomToSpawn stop frame
    → HoldsRanBeside p number ran new t (record slot { frame = frame }) turn stop
holds_ran p lim number me ran old new t slot turn frame stop ready logs below has stays room = record {
  one = one_ran_beside p lim number me ran old new t slot turn frame stop ready logs below has stays;
  has = has.draw.has;
  taken = ready.may.may.taken;
  enabled = ready.may.may.enabled;
  may = may_commit_beside p lim number me ran old new t slot turn frame stop ready logs below has stays room;
}

pub ran_same : (p : Program) (me ran : TreeSeat) (t : ℕ) (turn : HeldTurn) (frame : Frame) (stop : Stop) → HasRunSegment p (floor_seat me) (floor_seat ran) t turn frame stop → SameSeat me.0.floor ran.0.floor
ran_same p me ran t turn frame stop has = record {
  worker = ap (λ (m : Seat). m.0.worker) has.kept;
  kind = ap (λ (m : Seat). m.0.kind) has.kept;
  split = ap (λ (m : Seat). m.0.split) has.kept;
  out = ap (λ (m : Seat). m.0.out) has.kept;
}

-- what was run is one entry more, also of a seat that had the same part
pub run_since : (a b after : TreeSeat) (t : ℕ) (end : End) → b.0.floor.part ≡ a.0.floor.part → HasRunOne (floor_seat b) (floor_seat after) t end → HasRunOne (floor_seat a) (floor_seat after) t end
run_since a b after t end parts ran = record { entry = ran.entry; is = ran.is; part = ran.part ∙ ap (λ (l : List NumberedEntry). l ++ ran.entry ∷ []) parts }

-- A task that was looked at.

pub still_held : (nodes : List (List Elem)) (number : ℕ) (a b : TreeSeat) (log : Log) (t : ℕ) (slot : TaskSlot) (turn : HeldTurn) (frame : Frame) → HoldsTaskBeside nodes number a log t slot turn → MovesOnBeside a b t
    → HasInHand (floor_seat b) t turn frame → KnowsEnough nodes b.0 t turn.row → HoldsTaskBeside nodes number b log t (record slot { frame = frame }) turn
still_held nodes number a b log t slot turn frame holds moves hand enough = holds_still nodes number a b log t slot turn holds moves frame hand enough

pub moved_part : (a b : TreeSeat) (t : ℕ) → MovesOnBeside a b t → b.0.floor.part ≡ a.0.floor.part
moved_part a b t moves = ap (λ (m : Seat). m.0.part) moves.floor.rest

pub looked_held : (nodes : List (List Elem)) (lim : Bounds) (number : ℕ) (a b : TreeSeat) (log : Log) (t : ℕ) (slot : TaskSlot) (turn : HeldTurn) (phase : Phase) → FollowedPhase lim a t (word_of_phase phase) b
    → HoldsTaskBeside nodes number a log t slot turn → HoldsTaskBeside nodes number b log t slot turn
looked_held nodes lim number a b log t slot turn phase looks holds =
    holds_still nodes number a b log t slot turn holds (looked_moves nodes lim a b t phase looks) slot.frame (looked_in_hand nodes lim a b t phase looks turn slot.frame holds.in_hand) (looked_enough nodes lim a b t phase looks turn.row holds.enough)

pub moved_same : (a b : TreeSeat) (t : ℕ) → MovesOnBeside a b t → SameSeat a.0.floor b.0.floor
moved_same a b t moves = record {
  worker = ap (λ (m : Seat). m.0.worker) moves.floor.rest;
  kind = ap (λ (m : Seat). m.0.kind) moves.floor.rest;
  split = ap (λ (m : Seat). m.0.split) moves.floor.rest;
  out = ap (λ (m : Seat). m.0.out) moves.floor.rest;
}

-- Admission.

pub is_made : (row : TaskRow) → phase_of row ≡ phases.Made → row.status ≡ status.Made
is_made row is = by_status row.status (row_awaited row.frame.next) is
  where
    by_status : (s : TaskStatus) (on : Option ℕ) → phase_at s on ≡ phases.Made → s ≡ status.Made
    by_status status.Made on made = refl
    by_status status.Enabled None made = absurd (cc (made))
    by_status status.Enabled (Some u) made = absurd (cc (made))
    by_status status.Done on made = absurd (cc (made))
    by_status status.Faulted on made = absurd (cc (made))

-- the admission may be drawn once a record for each effect was placed
pub may_admit : (nodes : List (List Elem)) (number : ℕ) (me : TreeSeat) (log : Log) (t : ℕ) (turn : HeldTurn) → HoldsOneBeside number me log t → turn_in me.0.floor.turns t ≡ Some turn
    → HasPlacedAll nodes (turns_seen me.0) (tree_seen me.0) 0 t → MayAdmitLatest nodes me t turn
may_admit nodes number me log t turn one has placed = record {
  latest = record { slot = None; rest = []; is = ap tasks_out one.out };
  has = has;
  may = record { placed = placed; idle = one.outside.idle };
}

pub admitted_same : (a b : TreeSeat) (t : ℕ) (turn : HeldTurn) (n : ℕ) (old new : Log) → HasAdmitted a t turn n b old new → SameSeat a.0.floor b.0.floor
admitted_same a b t turn n old new drew =
    subst (λ (m : TreeSeat). SameSeat a.0.floor m.0.floor) (sym drew.seat) (record { worker = refl; kind = refl; split = refl; out = refl })

-- one entry more, also of a seat that had the same part
pub admitted_one : (was a b after : TreeSeat) (t : ℕ) (turn : HeldTurn) (n : ℕ) (old new : Log) → HasAdmitted a t turn n b old new → a.0.floor.part ≡ was.0.floor.part → after.0.floor.part ≡ b.0.floor.part
    → HasAdmittedOne was after t
admitted_one was a b after t turn n old new drew parts lasts = record {
  entry = admission_at drew.clock t;
  is = refl;
  part = lasts ∙ (ap (λ (m : TreeSeat). m.0.floor.part) drew.seat ∙ ap (λ (l : List NumberedEntry). l ++ admission_at drew.clock t ∷ []) parts);
}

-- the task after an attempt to admit it; the log was given room before
module _ (nodes : List (List Elem)) (number : ℕ) (a b : TreeSeat) (old log : Log) (t : ℕ) (slot : TaskSlot) (turn : HeldTurn) (holds : HoldsTaskBeside nodes number a old t slot turn) (logs : log.entries ≡ old.entries)
    (keeps : KeepsAllElse t a b) where
  one_logged : HoldsOneBeside number a log t
  one_logged =
      let one = holds.one in
      record { live = one.live; number_is = one.number_is; others = one.others; out = one.out; entries = logs ∙ one.entries; outside = one.outside }

  one_tried : HoldsOneBeside number b log t
  one_tried = one_back number a b log t (one_came_back number a b log t one_logged keeps) one_logged

  pub may_admit_tried : HasPlacedAll nodes (turns_seen b.0) (tree_seen b.0) 0 t → MayAdmitLatest nodes b t turn
  may_admit_tried placed = may_admit nodes number b log t turn one_tried (ap (λ (v : View). turn_in v.turns t) keeps.floor ∙ holds.in_hand.has) placed

  pub drawn_admitted : (after : TreeSeat) (new : Log) (n : ℕ) → HasAdmitted b t turn n after log new → HoldsDrawnBeside number after new t slot (record turn { row = admitted_row turn.row })
  drawn_admitted after new n drew =
      holds_admitted nodes number b after log new t slot turn n one_tried holds.in_hand.taken holds.slot_is (ap (λ (v : View). v.segment) keeps.floor ∙ holds.in_hand.closed) drew

  pub held_tried : turn.row.status ≡ status.Made → HasPlacedNone b.0 t → HoldsTaskBeside nodes number b log t slot turn
  held_tried made none =
      task_back number a b log t (one_came_back number a b log t one_logged keeps) nodes slot turn made
      (record { one = one_logged; in_hand = holds.in_hand; slot_is = holds.slot_is; enough = holds.enough }) none

-- A turn that was taken since an earlier seat.

pub taken_since : (nodes : List (List Elem)) (me after : TreeSeat) (t : ℕ) (slot : TaskSlot) → HasTakenTask nodes me after t slot → HasTakenSince me after t
taken_since nodes me after t slot took =
    let turn : HeldTurn = took.floor.turn in
    let turns : after.0.floor.turns ≡ record { task = t; turn = Some turn } ∷ me.0.floor.turns = ap (λ (m : Seat). m.0.turns) took.floor.seat in
    record {
      turn = turn;
      has = ap (λ (l : List TurnChange). turn_in l t) turns ∙ put_here (turn_in me.0.floor.turns) t (Some turn);
      had = added_at (record { task = t; turn = Some turn }) me.0.floor.turns after.0.floor.turns turns;
      part = ap (λ (m : Seat). m.0.part) took.floor.seat;
      served = record {
        kind = ap (λ (m : Seat). m.0.kind) took.floor.seat;
        out = ap (λ (m : Seat). m.0.out) took.floor.seat;
        part = ap (λ (m : Seat). m.0.part) took.floor.seat;
        turns = λ w other. ap (λ (l : List TurnChange). turn_in l w) turns ∙ ap (λ (b : Bool). if b then Some turn else turn_in me.0.floor.turns w) (ne_eqb w t other);
        own = λ had has. absurd (none_some (sym took.floor.had_none ∙ has));
      };
      kept = grown_is me.0.kept after.0.kept (ap (λ (v : TreeView). v.kept) took.view);
      looks = grown_is me.0.looks after.0.looks (ap (λ (v : TreeView). v.looks) took.view);
    }

pub took_same : (nodes : List (List Elem)) (me after : TreeSeat) (t : ℕ) (slot : TaskSlot) → HasTakenTask nodes me after t slot → SameSeat me.0.floor after.0.floor
took_same nodes me after t slot took = record {
  worker = ap (λ (m : Seat). m.0.worker) took.floor.seat;
  kind = ap (λ (m : Seat). m.0.kind) took.floor.seat;
  split = ap (λ (m : Seat). m.0.split) took.floor.seat;
  out = ap (λ (m : Seat). m.0.out) took.floor.seat;
}

module _ (before a : TreeSeat) (t : ℕ) (since : HasTakenSince before a t) (turn : HeldTurn) (has : turn_in a.0.floor.turns t ≡ Some turn) where
  -- it was this turn, also for a seat that has had more turns since
  pub had_since : (after : TreeSeat) → HasGrown a.0.floor.turns after.0.floor.turns → IsAdded (record { task = t; turn = Some turn }) before.0.floor.turns after.0.floor.turns
  had_since after grown =
      subst (λ (h : HeldTurn). IsAdded (record { task = t; turn = Some h }) before.0.floor.turns after.0.floor.turns) (some_one (sym since.has ∙ has))
      (added_then (record { task = t; turn = Some since.turn }) before.0.floor.turns a.0.floor.turns after.0.floor.turns since.had grown)

  -- the task was looked at, and the worker has the turn still
  pub moved_since : (b : TreeSeat) → MovesOnBeside a b t → turn_in b.0.floor.turns t ≡ Some turn → HasTakenSince before b t
  moved_since b moves still = record {
    turn = turn;
    has = still;
    had = had_since b moves.floor.grown;
    part = moved_part a b t moves ∙ since.part;
    served = record {
      kind = ap (λ (m : Seat). m.0.kind) moves.floor.rest ∙ since.served.kind;
      out = ap (λ (m : Seat). m.0.out) moves.floor.rest ∙ since.served.out;
      part = moved_part a b t moves ∙ since.part;
      turns = λ w other. moves.floor.others w other ∙ since.served.turns w other;
      own = λ had own. still ∙ (sym has ∙ since.served.own had own);
    };
    kept = grown_then before.0.kept a.0.kept b.0.kept since.kept (grown_is a.0.kept b.0.kept (ap (λ (v : TreeView). v.kept) moves.view));
    looks = grown_then before.0.looks a.0.looks b.0.looks since.looks moves.looks;
  }

  -- it was looked at, and the turn given back
  pub was_found : (b after : TreeSeat) (phase : Phase) → MovesOnBeside a b t → HasGrown b.0.floor.turns after.0.floor.turns → after.0.floor.part ≡ b.0.floor.part → phase_of turn.row ≡ phase
      → HasFound (floor_seat before) (floor_seat after) t phase
  was_found b after phase moves grown part is = record {
    turn = turn;
    had = had_since after (grown_then a.0.floor.turns b.0.floor.turns after.0.floor.turns moves.floor.grown grown);
    phase_is = is;
    part = part ∙ (moved_part a b t moves ∙ since.part);
  }

-- the awaited task was not done, as was found on the way
pub found_waiting : (before a b after : TreeSeat) (t on : ℕ) → HasTakenSince before a t → WasNotDone a.0.looks b.0.looks on → after.0.looks ≡ b.0.looks → WasNotDone before.0.looks after.0.looks on
found_waiting before a b after t on since not_done same =
    not_had_since before.0.looks a.0.looks after.0.looks on since.looks (not_had_then a.0.looks b.0.looks after.0.looks on not_done (grown_is b.0.looks after.0.looks same))

-- what was in the way was so since then, and is still known
pub held_since : (p : Program) (lim : Bounds) (before a b after : TreeSeat) (t : ℕ) (effects : List Effect) (bar : Bar) → HasTakenSince before a t → WasBarredFor p lim a.0 b.0 t effects bar
    → (after.0.kept ≡ b.0.kept) × (after.0.waits ≡ b.0.waits) × (after.0.looks ≡ b.0.looks) → WasBarredFor p lim before.0 after.0 t effects bar
held_since p lim before a b after t effects bar since (e, contains, was) (kept, waits, looks) = (
  e,
  contains,
  barred_since p lim t e before.0 a.0 after.0 bar since.kept since.looks since.served
      (barred_kept p lim t e a.0 b.0 after.0 bar
      (record {
        waits = λ fact. subst (λ (l : List WaitFact). IsAmong fact l) (sym waits);
        kept = grown_is b.0.kept after.0.kept kept;
        looks = grown_is b.0.looks after.0.looks looks;
      })
      was),
)
