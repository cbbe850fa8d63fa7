-- The turn of a task is taken, its phase loaded, and the turn given again: to read the task's value.
use Rattle.std.proofs.Common.{◌≡◌, ◌≢◌, ◌<◌, ◌++◌, ℕ, ℤ, List, [], ◌∷◌, Option, None, Some, true, false, sym, ap, subst, ◌∙◌, inl, inr, ⊎_elim, append_assoc}
use Rattle.std.proofs.lemmas.List.Elements.{All-append, All-nil}
use Rattle.std.specs.Prelude.{IfNone}
use Rattle.region_paths.specs.declared.elements.Elem.{Elem}
use Rattle.twe_base.specs.Limits.{Bounds}
use Rattle.floor_laws.specs.declared.rule.view.HeldTurn.{HeldTurn}
use Rattle.floor_laws.specs.declared.rule.view.Phase.TheVariants as phases
use Rattle.floor_laws.specs.declared.rule.view.TaskSlot.{TaskSlot}
use Rattle.floor_laws.proofs.rule.Puts.{put_here, put_was, some_one}
use Rattle.floor_laws.specs.declared.table.view.SeatKind.TheVariants.{Spent}
use Rattle.floor_laws.specs.declared.table.view.TurnChange.{TurnChange}
use Rattle.floor_laws.specs.table.FloorOf.{turn_in}
use Rattle.floor_laws.specs.table.Layout.{phase_of_word}
use Rattle.floor_laws.specs.table.Tells.{FoundDone, FoundPhase, GaveTurn, Seat}
use Rattle.floor_laws.specs.table.Added.{HasGrown}
use Rattle.floor_laws.proofs.table.Added.{added_at, added_before, added_then, grown_by, grown_then}
use Rattle.floor_laws.specs.declared.table.nodes.view.Look.{Look}
use Rattle.floor_laws.specs.declared.table.nodes.view.Look.TheVariants.{AtPhase, AtTurn}
use Rattle.task_floor.specs.declared.steps.readiness.Readiness.TheVariants as readiness
use Rattle.task_floor.specs.steps.Resuming.{KnowsMore, KnowsValue}
use Rattle.task_floor.proofs.steps.InHand.{found_more, gave_more, gave_value, had_turn, may_give_back, more_then}
use Rattle.floor_laws.specs.admission.admission_core.States.{IsAmong, Record}
use Rattle.floor_laws.specs.rule.nodes.Taking.{clear_after_taking}
use Rattle.floor_laws.specs.rule.nodes.TurnSteps.{HasPlacedChildren, of_others}
use Rattle.floor_laws.proofs.rule.nodes.Takings.{given_as_taken}
use Rattle.floor_laws.specs.declared.table.nodes.view.TreeView.{TreeView}
use Rattle.floor_laws.specs.table.nodes.FloorSeats.{HasTaskSlots, floor_seat, tasks_out}
use Rattle.floor_laws.specs.table.nodes.Follows.{FollowedPhase}
use Rattle.floor_laws.specs.table.nodes.Seats.{TreeSeat, tree_seen, turns_seen}
use Rattle.floor_laws.specs.table.nodes.TurnSeats.{GaveTreeTurn, MayLeaveTask, given_tree_view, gives_taken}
use Rattle.task_floor.specs.Resuming.{HasLeftTurn, KnowsEnough, KnowsMoreBeside, LeftTurnUnlessUndone, WasNotDone}
use Rattle.task_floor.specs.Turns.{FoundBusy, HasTakenTask, MayGiveTask}
use Rattle.task_floor.proofs.Forgetting.{none_forgotten, taken_forgotten}
use Rattle.task_floor.proofs.Looking.{HasLooked, clear_same, found_floor, has_looked, latest_look}

false_true : false ≡ true → ⊥
false_true is = cc (is)

-- A turn that was taken.
module _ (nodes : List (List Elem)) (a b : TreeSeat) (t : ℕ) (slot : TaskSlot) (took : HasTakenTask nodes a b t slot) where
  abbrev pub turn : HeldTurn
  turn = took.floor.turn

  -- the seat has no first turn of a child of the task
  pub children_taken : HasPlacedChildren (turns_seen b.0) 0 t
  children_taken c child has first =
      ⊎_elim
      (λ (here : (c ≡ t) × (Some turn ≡ Some child)). absurd (false_true (sym took.floor.taken ∙ (ap (λ (h : HeldTurn). h.first) (some_one here.1) ∙ first))))
      (λ (else : (c ≢ t) × (turn_in a.0.floor.turns c ≡ Some child)). took.children c child else.1 first)
      (put_was (turn_in a.0.floor.turns) t c (Some turn) (Some child) (sym (ap (λ (m : Seat). turn_in m.0.turns c) took.floor.seat) ∙ has))

  pub fresh_taken : (r : Record) → IsAmong r b.0.fresh → r.task ≢ t
  fresh_taken r among = took.fresh r (subst (λ (v : TreeView). IsAmong r v.fresh) took.view among)

  pub clear_taken : b.0.clear ≡ clear_after_taking nodes t turn.row.status turn.row.effects.effects a.0.clear
  clear_taken = ap (λ (v : TreeView). v.clear) took.view

  pub idle_taken : a.0.activity ≡ None → b.0.activity ≡ None
  idle_taken idle = ap (λ (v : TreeView). v.activity) took.view ∙ idle

  -- a phase was loaded since
  module _ (lim : Bounds) (c : TreeSeat) (found : ℕ) (looks : FollowedPhase lim b t found c) where
    looked : HasLooked b c
    looked = has_looked lim b c t found looks

    pub looked_floor : FoundPhase lim (floor_seat b) t found (floor_seat c)
    looked_floor = found_floor lim b c t found looks

    children_looked : HasPlacedChildren (turns_seen c.0) 0 t
    children_looked u child has first = children_taken u child (sym ((found_more lim (floor_seat b) (floor_seat c) t found looked_floor).turns u) ∙ has) first

    leaves_looked : a.0.activity ≡ None → MayLeaveTask nodes c.0 t turn
    leaves_looked idle =
        gives_taken
        (given_as_taken nodes (turns_seen c.0) (tree_seen c.0) 0 t turn a.0.clear (had_turn lim (floor_seat a) (floor_seat b) (floor_seat c) (floor_seat c) t found slot took.floor looked_floor) took.floor.taken
        (ap (λ (v : TreeView). v.activity) looked.view ∙ idle_taken idle) children_looked (λ r among. fresh_taken r (subst (λ (v : TreeView). IsAmong r v.fresh) looked.view among))
        (clear_same b c looked ∙ clear_taken))

    pub may_give_looked : a.0.floor.segment ≡ None → a.0.activity ≡ None → MayGiveTask nodes c t slot turn a.1
    may_give_looked closed idle = record {
      floor = may_give_back lim (floor_seat a) (floor_seat b) (floor_seat c) (floor_seat c) t found slot took.floor looked_floor closed;
      out = looked.out ∙ took.out;
      leaves = leaves_looked idle;
    }

    -- and the turn was given
    module _ (d : TreeSeat) (gave : GaveTreeTurn c t turn a.1 d) where
      gave_floor : GaveTurn (floor_seat c) t turn (tasks_out a.1) (floor_seat d)
      gave_floor = ap floor_seat gave

      abbrev gave_view : d.0 ≡ given_tree_view c.0 t turn
      gave_view = ap (λ (m : TreeSeat). m.0) gave

      forgotten : d.0.clear ≡ of_others t a.0.clear
      forgotten = ap (λ (v : TreeView). v.clear) gave_view ∙ (ap (of_others t) (clear_same b c looked ∙ clear_taken) ∙ taken_forgotten nodes t turn.row.status turn.row.effects.effects a.0.clear)

      fresh_now : c.0.fresh ≡ a.0.fresh
      fresh_now = ap (λ (v : TreeView). v.fresh) looked.view ∙ ap (λ (v : TreeView). v.fresh) took.view

      fresh_again : d.0.fresh ≡ a.0.fresh
      fresh_again = ap (λ (v : TreeView). v.fresh) gave_view ∙ (ap (of_others t) fresh_now ∙ none_forgotten t a.0.fresh took.fresh)

      view_again : d.0 ≡ record a.0 { floor = d.0.floor; waits = d.0.waits; clear = d.0.clear; looks = d.0.looks }
      view_again =
          let activity = ap (λ (v : TreeView). v.activity) gave_view ∙ (ap (λ (v : TreeView). v.activity) looked.view ∙ ap (λ (v : TreeView). v.activity) took.view) in
          let kept = ap (λ (v : TreeView). v.kept) gave_view ∙ (ap (λ (v : TreeView). v.kept) looked.view ∙ ap (λ (v : TreeView). v.kept) took.view) in
          let placed = ap (λ (v : TreeView). v.placed) gave_view ∙ (ap (λ (v : TreeView). v.placed) looked.view ∙ ap (λ (v : TreeView). v.placed) took.view) in
          let removed = ap (λ (v : TreeView). v.removed) gave_view ∙ (ap (λ (v : TreeView). v.removed) looked.view ∙ ap (λ (v : TreeView). v.removed) took.view) in
          λ k. record d.0 { activity = activity k; kept = kept k; placed = placed k; removed = removed k; fresh = fresh_again k }

      looks_before : b.0.looks ≡ a.0.looks
      looks_before = ap (λ (v : TreeView). v.looks) took.view

      looks_now : d.0.looks ≡ AtPhase t found ∷ a.0.looks
      looks_now =
          ap (λ (v : TreeView). v.looks) gave_view ∙ (latest_look lim b c t found looks ∙ ap (λ (l : List Look). AtPhase t found ∷ l) looks_before)

      pub value_not_had : phase_of_word found ≢ phases.Done → WasNotDone a.0.looks d.0.looks t
      value_not_had other = (found, inl (added_at (AtPhase t found) a.0.looks d.0.looks looks_now, other))

      pub turn_for_nothing : phase_of_word found ≢ phases.Done → LeftTurnUnlessUndone a.0 d.0 t
      turn_for_nothing other = inr (found, added_at (AtPhase t found) a.0.looks d.0.looks looks_now, other)

      pub gave_more_beside : KnowsMoreBeside a d t
      gave_more_beside = record {
        floor = gave_more lim (floor_seat a) (floor_seat b) (floor_seat c) (floor_seat d) t found slot took.floor looked_floor gave_floor;
        waits = λ fact among.
            subst (λ (v : TreeView). IsAmong fact v.waits) (sym gave_view) (looked.waits fact (subst (λ (v : TreeView). IsAmong fact v.waits) (sym took.view) among));
        looks = grown_by (AtPhase t found) a.0.looks d.0.looks looks_now;
        clear = inr forgotten;
        view = view_again;
        out = ap (λ (m : TreeSeat). m.1) gave;
      }

      pub value_known : phase_of_word found ≡ phases.Done → KnowsValue (floor_seat d) t slot.frame.value
      value_known done = gave_value lim (floor_seat a) (floor_seat b) (floor_seat c) (floor_seat d) t found slot took.floor looked_floor gave_floor done

-- a phase was loaded before
pub looked_then_more : (lim : Bounds) (a b c : TreeSeat) (t found : ℕ) → FollowedPhase lim a t found b → KnowsMoreBeside b c t → KnowsMoreBeside a c t
looked_then_more lim a b c t found looks more =
    let seen = has_looked lim a b t found looks in
    let same = clear_same a b seen in
    record {
      floor = more_then (floor_seat a) (floor_seat b) (floor_seat c) (found_more lim (floor_seat a) (floor_seat b) t found (found_floor lim a b t found looks)) more.floor;
      waits = λ fact among. more.waits fact (seen.waits fact among);
      looks = grown_then a.0.looks b.0.looks c.0.looks seen.looks more.looks;
      clear = ⊎_elim (λ (kept : c.0.clear ≡ b.0.clear). inl (kept ∙ same)) (λ (forgot : c.0.clear ≡ of_others t b.0.clear). inr (forgot ∙ ap (of_others t) same)) more.clear;
      view = more.view ∙ ap (λ (v : TreeView). record v { floor = c.0.floor; waits = c.0.waits; clear = c.0.clear; looks = c.0.looks }) seen.view;
      out = more.out ∙ seen.out;
    }

-- a stand that did nothing in the tree knows enough of the nodes to give the turn that it took
pub knows_enough : (nodes : List (List Elem)) (a b : TreeSeat) (t : ℕ) (slot : TaskSlot) → (took : HasTakenTask nodes a b t slot) → a.0.activity ≡ None → KnowsEnough nodes b.0 t took.floor.turn.row
knows_enough nodes a b t slot took idle =
    let turn : HeldTurn = took.floor.turn in
    let has : turn_in b.0.floor.turns t ≡ Some turn = ap (λ (m : Seat). turn_in m.0.turns t) took.floor.seat ∙ put_here (turn_in a.0.floor.turns) t (Some turn) in
    let may = given_as_taken nodes (turns_seen b.0) (tree_seen b.0) 0 t turn a.0.clear has took.floor.taken (idle_taken nodes a b t slot took idle) (children_taken nodes a b t slot took)
    (fresh_taken nodes a b t slot took) (clear_taken nodes a b t slot took) in
    record { idle = may.idle; children = may.children; leaves = may.leaves }

-- What the next calls need of the stand.
module _ (nodes : List (List Elem)) (a b : TreeSeat) (t : ℕ) (slot : TaskSlot) (took : HasTakenTask nodes a b t slot) where
  kind_taken : b.0.floor.kind ≡ a.0.floor.kind
  kind_taken = ap (λ (m : Seat). m.0.kind) took.floor.seat

  pub live_taken : a.0.floor.kind ≢ Spent → b.0.floor.kind ≢ Spent
  live_taken live spent = live (sym kind_taken ∙ spent)

  pub live_looked : (lim : Bounds) (c : TreeSeat) (found : ℕ) → FollowedPhase lim b t found c → a.0.floor.kind ≢ Spent → c.0.floor.kind ≢ Spent
  live_looked lim c found looks live spent =
      let more = found_more lim (floor_seat b) (floor_seat c) t found (found_floor lim b c t found looks) in
      live_taken live (sym (ap (λ (m : Seat). m.0.kind) more.rest) ∙ spent)

  pub slots_looked : (lim : Bounds) (c : TreeSeat) (found : ℕ) → FollowedPhase lim b t found c → t < lim.tasks → HasTaskSlots lim.tasks a.1 → HasTaskSlots lim.tasks c.1
  slots_looked lim c found looks below has = subst (HasTaskSlots lim.tasks) (sym ((has_looked lim b c t found looks).out ∙ took.out)) (below, has)

-- the same after a look alone
module _ (lim : Bounds) (a b : TreeSeat) (t found : ℕ) (looks : FollowedPhase lim a t found b) where
  pub looked_rest : KnowsMore (floor_seat a) (floor_seat b)
  looked_rest = found_more lim (floor_seat a) (floor_seat b) t found (found_floor lim a b t found looks)

  pub look_live : a.0.floor.kind ≢ Spent → b.0.floor.kind ≢ Spent
  look_live live spent = live (sym (ap (λ (m : Seat). m.0.kind) looked_rest.rest) ∙ spent)

  pub look_worker : b.0.floor.worker ≡ a.0.floor.worker
  look_worker = ap (λ (m : Seat). m.0.worker) looked_rest.rest

  pub look_closed : a.0.floor.segment ≡ None → b.0.floor.segment ≡ None
  look_closed closed = ap (λ (m : Seat). m.0.segment) looked_rest.rest ∙ closed

  pub look_slots : HasTaskSlots lim.tasks a.1 → HasTaskSlots lim.tasks b.1
  look_slots has = subst (HasTaskSlots lim.tasks) (sym (has_looked lim a b t found looks).out) has

  pub look_idle : a.0.activity ≡ None → b.0.activity ≡ None
  look_idle idle = ap (λ (v : TreeView). v.activity) (has_looked lim a b t found looks).view ∙ idle

-- and once more is known
module _ (lim : Bounds) (a b : TreeSeat) (t : ℕ) (more : KnowsMoreBeside a b t) where
  pub more_live : a.0.floor.kind ≢ Spent → b.0.floor.kind ≢ Spent
  more_live live spent = live (sym (ap (λ (m : Seat). m.0.kind) more.floor.rest) ∙ spent)

  pub more_slots : HasTaskSlots lim.tasks a.1 → HasTaskSlots lim.tasks b.1
  more_slots has = subst (HasTaskSlots lim.tasks) (sym more.out) has

-- Why a value was not had.

pub busy_not_had : (a b : TreeSeat) (t : ℕ) (holder : Option ℕ) → FoundBusy a b t holder → WasNotDone a.0.looks b.0.looks t
busy_not_had a b t holder busy =
    (busy.found, inr (added_at (AtTurn t busy.found) a.0.looks b.0.looks (ap (λ (m : TreeSeat). m.0.looks) busy.seat), busy.busy))

pub look_not_had : (lim : Bounds) (a b : TreeSeat) (t found : ℕ) → FollowedPhase lim a t found b → phase_of_word found ≢ phases.Done → WasNotDone a.0.looks b.0.looks t
look_not_had lim a b t found looks other = (found, inl (added_at (AtPhase t found) a.0.looks b.0.looks (latest_look lim a b t found looks), other))

pub not_had_since : (a b c : List Look) (t : ℕ) → HasGrown a b → WasNotDone b c t → WasNotDone a c t
not_had_since a b c t grown (found, inl (look, other)) = (found, inl (added_before (AtPhase t found) a b c grown look, other))
not_had_since a b c t grown (found, inr (look, other)) = (found, inr (added_before (AtTurn t found) a b c grown look, other))

pub none_had_since : (a b c : List Look) (t : ℕ) (value : Option ℤ) → HasGrown a b → IfNone value (WasNotDone b c t) → IfNone value (WasNotDone a c t)
none_had_since a b c t None grown had = not_had_since a b c t grown had
none_had_since a b c t (Some value) grown had = tt

pub waits_for : (a b : List Look) (t u : ℕ) → readiness.Waits t ≡ readiness.Waits u → WasNotDone a b t → WasNotDone a b u
waits_for a b t u is had = subst (WasNotDone a b) (one_wait t u is) had
  where
    one_wait : (t u : ℕ) → readiness.Waits t ≡ readiness.Waits u → t ≡ u
    one_wait t u h = cc

pub not_had_then : (a b c : List Look) (t : ℕ) → WasNotDone a b t → HasGrown b c → WasNotDone a c t
not_had_then a b c t (found, inl (look, other)) grown = (found, inl (added_then (AtPhase t found) a b c look grown, other))
not_had_then a b c t (found, inr (look, other)) grown = (found, inr (added_then (AtTurn t found) a b c look grown, other))

-- Why the turn was not taken for nothing.

turn_left : (a b : List TurnChange) (t : ℕ) → b ≡ a → HasLeftTurn a b t
turn_left a b t same = record { added = []; is = same; others = All-nil (λ (change : TurnChange). change.task ≢ t) }

turn_left_then : (a b c : List TurnChange) (t : ℕ) → HasLeftTurn a b t → HasLeftTurn b c t → HasLeftTurn a c t
turn_left_then a b c t first second = record {
  added = second.added ++ first.added;
  is = second.is ∙ (ap (λ (l : List TurnChange). second.added ++ l) first.is ∙ sym (append_assoc second.added first.added a));
  others = All-append (λ (change : TurnChange). change.task ≢ t) second.added first.added second.others first.others;
}

-- a look at a phase takes no turn
look_turns : (lim : Bounds) (a b : TreeSeat) (t found : ℕ) → FollowedPhase lim a t found b → b.0.floor.turns ≡ a.0.floor.turns
look_turns lim a b t found looks =
    ⊎_elim
    (λ (done : (phase_of_word found ≡ phases.Done) × FoundDone (floor_seat a) (floor_seat b) t). ap (λ (m : Seat). m.0.turns) done.1.seat)
    (λ (other : (phase_of_word found ≢ phases.Done) × (floor_seat b ≡ floor_seat a)). ap (λ (m : Seat). m.0.turns) other.1)
    (found_floor lim a b t found looks).3

pub busy_left : (a b : TreeSeat) (t : ℕ) (holder : Option ℕ) → FoundBusy a b t holder → LeftTurnUnlessUndone a.0 b.0 t
busy_left a b t holder busy = inl (turn_left a.0.floor.turns b.0.floor.turns t (ap (λ (m : TreeSeat). m.0.floor.turns) busy.seat))

pub look_left : (lim : Bounds) (a b : TreeSeat) (t found : ℕ) → FollowedPhase lim a t found b → LeftTurnUnlessUndone a.0 b.0 t
look_left lim a b t found looks = inl (turn_left a.0.floor.turns b.0.floor.turns t (look_turns lim a b t found looks))

-- the same if a phase was looked at before
pub left_looked : (lim : Bounds) (a b : TreeSeat) (c : TreeView) (t u found : ℕ) → FollowedPhase lim a u found b → LeftTurnUnlessUndone b.0 c t → LeftTurnUnlessUndone a.0 c t
left_looked lim a b c t u found looks (inl left) =
    inl (turn_left_then a.0.floor.turns b.0.floor.turns c.floor.turns t (turn_left a.0.floor.turns b.0.floor.turns t (look_turns lim a b u found looks)) left)
left_looked lim a b c t u found looks (inr (word, look, other)) =
    inr (word, added_before (AtPhase t word) a.0.looks b.0.looks c.looks (has_looked lim a b u found looks).looks look, other)

pub none_left_looked : (lim : Bounds) (a b : TreeSeat) (c : TreeView) (t u found : ℕ) (value : Option ℤ) → FollowedPhase lim a u found b → IfNone value (LeftTurnUnlessUndone b.0 c t)
    → IfNone value (LeftTurnUnlessUndone a.0 c t)
none_left_looked lim a b c t u found None looks left = left_looked lim a b c t u found looks left
none_left_looked lim a b c t u found (Some value) looks left = tt

pub left_for : (a b : TreeView) (t u : ℕ) → readiness.Waits t ≡ readiness.Waits u → LeftTurnUnlessUndone a b t → LeftTurnUnlessUndone a b u
left_for a b t u is left = subst (LeftTurnUnlessUndone a b) (one_awaited t u is) left
  where
    one_awaited : (t u : ℕ) → readiness.Waits t ≡ readiness.Waits u → t ≡ u
    one_awaited t u h = cc
