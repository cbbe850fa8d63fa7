-- An entry of a segment, drawn by a fetch-and-add on the clock, keeps the rule of the table with nodes.
use Rattle.std.proofs.Common.{◌≡◌, ◌≢◌, ◌+◌, ◌++◌, ◌%◌, ℕ, Bool, true, false, cond, List, [], ◌∷◌, Option, Some, refl, sym, ap, subst, ◌∙◌, arith, nat_lt}
use Rattle.std.specs.Prelude.{◌==◌, ◌^◌, slice_index}
use mathlib.Core.Option as core
use lib.ListN.{get_elem?}
use Rattle.atomic_table.specs.Table.{Act, Allows, stepped}
use Rattle.atomic_table.proofs.Lists.{at_map}
use Rattle.region_paths.specs.declared.elements.Elem.{Elem}
use Rattle.twe_base.specs.Limits.{Bounds}
use Rattle.twe_program.specs.Program.{Program}
use Rattle.seg_meaning.specs.declared.frame.Frame.{Frame}
use Rattle.seg_meaning.specs.declared.stop.Stop.{Stop}
use Rattle.seg_meaning.specs.declared.stop.Stop.TheVariants as stops
use Rattle.machine_state.specs.declared.state.TaskRow.{TaskRow}
use Rattle.machine_state.specs.Moves.{new_row, parent_of}
use Rattle.seg_journal.specs.declared.numbered.NumberedEntry.{NumberedEntry}
use Rattle.floor_laws.specs.declared.rule.view.DoneFact.{DoneFact}
use Rattle.floor_laws.specs.declared.rule.view.HeldTurn.{HeldTurn}
use Rattle.floor_laws.specs.declared.rule.view.OpenSegment.{OpenSegment}
use Rattle.floor_laws.specs.declared.rule.view.TaskSlot.{TaskSlot}
use Rattle.floor_laws.specs.rule.Fitting.{MayRunFrom}
use Rattle.floor_laws.specs.rule.Floors.{Floor, put, put_turn}
use Rattle.floor_laws.specs.rule.Rule.{KeepsRule}
use Rattle.floor_laws.specs.rule.Steps.{MayCommit, after_entry, entry_drawn, first_turn, row_after, row_with_child, without_child}
use Rattle.floor_laws.specs.rule.Touches.{StandFor, touches_of}
use Rattle.floor_laws.proofs.rule.Puts.{put_here}
use Rattle.floor_laws.proofs.rule.RuleSteps.{commit}
use Rattle.floor_laws.specs.declared.table.view.SeatKind.TheVariants.{Spent}
use Rattle.floor_laws.specs.declared.table.view.View.{View}
use Rattle.floor_laws.specs.table.FloorOf.{Table, part_at, turn_in, turns_at, worker_at}
use Rattle.floor_laws.specs.table.Holds.{TableKeeps}
use Rattle.floor_laws.specs.table.Layout.{clock_place, number_at}
use Rattle.floor_laws.specs.table.Tells.{DrewOne, IsLatest, MayDraw, Seat, clock_step, drawn_seat, drawn_view, drawn_with, with_turn}
use Rattle.floor_laws.proofs.table.Elements.{word_at}
use Rattle.floor_laws.proofs.table.Entries.{draw_allowed}
use Rattle.floor_laws.proofs.table.Steps.{facts_id, segment_id, turns_id}
use Rattle.floor_laws.proofs.table.Views.{seats_kept, seats_put}
use Rattle.floor_laws.specs.admission.admission_core.States.{IsAmong}
use Rattle.floor_laws.specs.rule.nodes.TurnSteps.{HasPlacedChildren, IsTaskEvent}
use Rattle.floor_laws.proofs.rule.nodes.EntryCases.{entering}
use Rattle.floor_laws.proofs.rule.nodes.Facts.{next_unplaced}
use Rattle.floor_laws.specs.declared.table.nodes.slot.TreeSlot.{TreeSlot}
use Rattle.floor_laws.specs.declared.table.nodes.view.TreeView.{TreeView}
use Rattle.floor_laws.specs.table.nodes.EntrySeats.{DrewTreeEntry, HasNoneOfNext}
use Rattle.floor_laws.specs.table.nodes.FloorSeats.{HasTaskSlots, floor_seat, tasks_out}
use Rattle.floor_laws.specs.table.nodes.Holds.{TreeKeeps}
use Rattle.floor_laws.specs.table.nodes.Seats.{turns_seen}
use Rattle.floor_laws.specs.table.nodes.TreeOf.{TreeTable, floor_part, floor_shown, floor_view, tree_of}
use Rattle.floor_laws.proofs.table.nodes.FloorSteps.{StepsBeside, floor_finds}
use Rattle.floor_laws.proofs.table.nodes.FloorCalls.{lift_step}
use Rattle.floor_laws.proofs.table.nodes.LogSteps.{grows_beside}
use Rattle.floor_laws.proofs.table.nodes.Seen.{fresh_id, held_id}

-- a value that is set twice is the second one
put_twice : {X : Type 0} (g : ℕ → X) (k : ℕ) (x y : X) → put (put g k x) k y ≡ put g k y
put_twice {X} g k x y = λ i j. twice (j == k) (g j) i
  where
    twice : (test : Bool) (z : X) → cond {A = X} test y (cond {A = X} test x z) ≡ cond {A = X} test y z
    twice true z = refl
    twice false z = refl

module _ (nodes : List (List Elem)) (p : Program) (lim : Bounds) (s : TreeTable) (kept : TreeKeeps nodes p lim s) (id : ℕ) (v : TreeView)
    (at : get_elem? s.views id ≡ core.some v) (live : v.floor.kind ≢ Spent) where
  abbrev fs : Table
  fs = floor_part p lim s

  abbrev f : Floor
  f = floor_shown p lim s

  abbrev log : List NumberedEntry
  log = kept.floor.log

  at_floor : get_elem? (floor_part p lim s).views id ≡ core.some v.floor
  at_floor = at_map floor_view s.views id v at

  had : turns_at (get_elem? (floor_part p lim s).views id) ≡ turn_in v.floor.turns
  had = turns_id p lim fs kept.floor id v.floor at_floor live

  part_id : part_at (get_elem? (floor_part p lim s).views id) ≡ v.floor.part
  part_id = ap part_at at_floor

  -- what the clock says
  abbrev clock : ℕ
  clock = number_at (get_elem? fs.words clock_place)

  pub clock_found : number_at (get_elem? (floor_part p lim s).words clock_place) ≡ slice_index s.words clock_place
  clock_found =
      let size = kept.floor.words in
      ap number_at (word_at fs.words clock_place (omega (arith, size))) ∙ floor_finds nodes p lim s kept id v at clock_place (omega arith)

  -- What the seat needs by its view holds of the floor.
  module _ (t : ℕ) (turn : HeldTurn) (frame : Frame) where
    may_commit : (out : List (ℕ × Option TaskSlot)) (stop : Stop) → MayDraw p (v.floor, out) t turn frame stop → MayCommit p f id t turn frame stop
    may_commit out stop may = record {
      has = ap (λ (g : ℕ → Option HeldTurn). g t) had ∙ may.has;
      ready = may.ready;
      may = subst (λ (facts : List DoneFact). MayRunFrom turn facts may.ready) (sym (facts_id p lim fs kept.floor id v.floor at_floor live)) may.may;
      running = may.running;
      own = λ o is. may.own o (sym (segment_id p lim fs kept.floor id v.floor at_floor live) ∙ is);
      accesses = may.accesses;
      touches = subst (λ (o : Option OpenSegment). StandFor p (touches_of o) may.accesses) (sym (segment_id p lim fs kept.floor id v.floor at_floor live)) may.touches;
      means = may.means;
    }

    placed_here : HasPlacedChildren (turns_seen v) 0 t → HasPlacedChildren f.held id t
    placed_here placed c child has first = placed c child (sym (held_id nodes p lim s id v at c) ∙ has) first

    -- The floor after the entry differs in what this seat knows, which its view says.
    pub record IsDrawn (g : Floor) (stop : Stop) (w : View) : Type 0 where
      pub part : w.part ≡ v.floor.part ++ entry_drawn lim f t frame stop ∷ []
      pub worker : w.worker ≡ v.floor.worker
      pub parts : g.parts ≡ put f.parts id (f.parts id ++ entry_drawn lim f t frame stop ∷ [])
      pub held : g.held ≡ put f.held id (turn_in w.turns)
      pub workers : g.workers ≡ f.workers

    abbrev new : Stop → Option HeldTurn
    new stop = Some (record turn { row = row_after lim f.asked turn.row frame stop })

    plain : (stop : Stop) → IsDrawn (without_child lim f id t turn frame stop) stop (drawn_view lim clock v.floor t turn frame stop)
    plain stop = record {
      part = refl;
      worker = refl;
      parts = refl;
      held = ap (λ (h : ℕ → Option HeldTurn). put f.held id (put h t (new stop))) had;
      workers = refl;
    }

    -- the two turns, as they are put one after the other
    turns_both : (stop : Stop) (c : ℕ) (first : Option HeldTurn)
        → put_turn (put_turn f.held id t (new stop)) id c first ≡ put f.held id (put (put (turn_in v.floor.turns) t (new stop)) c first)
    turns_both stop c first =
        let one : ℕ → Option HeldTurn = put (f.held id) t (new stop) in
        ap (λ (h : ℕ → Option HeldTurn). put (put f.held id one) id (put h c first)) (put_here f.held id one)
        ∙ (put_twice f.held id one (put one c first) ∙ ap (λ (h : ℕ → Option HeldTurn). put f.held id (put (put h t (new stop)) c first)) had)

    with_one : (stop : Stop) (c : ℕ) (row : TaskRow)
        → IsDrawn (row_with_child (without_child lim f id t turn frame stop) id c row) stop
        (with_turn (drawn_view lim clock v.floor t turn frame stop) c (Some (first_turn row)))
    with_one stop c row = record { part = refl; worker = refl; parts = refl; held = turns_both stop c (Some (first_turn row)); workers = refl }

    -- the seat after an entry that asks for a task, which is made if one more may be
    made : (out : List (ℕ × Option TaskSlot)) (stop : Stop) (row : TaskRow) (b : Bool)
        → IsDrawn
        (cond {A = Floor} b (row_with_child (without_child lim f id t turn frame stop) id (f.asked + 1) row) (without_child lim f id t turn frame stop))
        stop
        (cond {A = Seat} b (drawn_with (drawn_view lim clock v.floor t turn frame stop, out) (f.asked + 1) row)
        (drawn_view lim clock v.floor t turn frame stop, out)).0
    made out stop row true = with_one stop (f.asked + 1) row
    made out stop row false = plain stop

    drawn : (out : List (ℕ × Option TaskSlot)) (stop : Stop)
        → IsDrawn (after_entry lim f id t turn frame stop) stop (drawn_seat lim clock (v.floor, out) t turn frame stop).0
    drawn out (stops.Waits on) = plain (stops.Waits on)
    drawn out (stops.Joins on) = plain (stops.Joins on)
    drawn out (stops.Done value) = plain (stops.Done value)
    drawn out (stops.Fault kind place) = plain (stops.Fault kind place)
    drawn out (stops.Make child args effects spawned future place) =
        made out (stops.Make child args effects spawned future place) (new_row lim (f.asked + 1) (parent_of t spawned) child args effects)
        (nat_lt (f.asked + 1) lim.tasks)

    -- The nodes keep their rule beside the floor after the entry.
    module _ (out : List (ℕ × Option TaskSlot)) (stop : Stop) (may : MayDraw p (v.floor, out) t turn frame stop)
        (placed : HasPlacedChildren (turns_seen v) 0 t) where
      abbrev more : List NumberedEntry
      more = log ++ entry_drawn lim f t frame stop ∷ []

      abbrev after : Floor
      after = after_entry lim f id t turn frame stop

      rule : KeepsRule p lim more after
      rule = commit p kept.floor.well kept.floor.keeps lim log f kept.floor.rule id t turn frame stop (may_commit out stop may)

      event : IsTaskEvent nodes p lim more after (tree_of p lim s) kept.core
      event = entering nodes p lim log f (tree_of p lim s) kept.core kept.both id t turn frame stop (may_commit out stop may) (placed_here placed)

      beside_drawn : (x : ℕ) (w : View) (a : Act (Option TaskSlot)) → IsDrawn after stop w
          → TableKeeps p lim (stepped (floor_part p lim s) clock_place x id out w a)
          → StepsBeside nodes p lim s kept id v at clock_place x (record v { floor = w })
      beside_drawn x w a is keep =
          grows_beside nodes p lim s kept id v at x out w a keep more (entry_drawn lim f t frame stop) refl after (record kept.core { tasks = event.0 }) rule.parts event.2
          (seats_put part_at fs.views id v.floor w at_floor (f.parts id ++ entry_drawn lim f t frame stop ∷ [])
          (is.part ∙ ap (λ (l : List NumberedEntry). l ++ entry_drawn lim f t frame stop ∷ []) (sym part_id))
          ∙ sym is.parts)
          (seats_put turns_at fs.views id v.floor w at_floor (turn_in w.turns) refl ∙ sym is.held)
          (seats_kept worker_at fs.views id v.floor w at_floor is.worker ∙ sym is.workers)

      pub draws_beside : (x : ℕ) (w : View) (a : Act (Option TaskSlot)) → IsLatest (v.floor, out) t
          → TableKeeps p lim (stepped (floor_part p lim s) clock_place x id out w a)
          → (carried : List (ℕ × Option TaskSlot)) → DrewOne p lim (v.floor, out) (slice_index s.words clock_place) (w, carried)
          → StepsBeside nodes p lim s kept id v at clock_place x (record v { floor = w })
      draws_beside x w a latest keep carried drew =
          let seat = drew.0 t turn frame stop latest may in
          let at_found : IsDrawn after stop (drawn_seat lim (slice_index s.words clock_place) (v.floor, out) t turn frame stop).0 =
          subst (λ (n : ℕ). IsDrawn after stop (drawn_seat lim n (v.floor, out) t turn frame stop).0) clock_found (drawn out stop) in
          beside_drawn x w a (subst (λ (y : Seat). IsDrawn after stop y.0) (sym seat) at_found) keep

  -- no record is known of the task that is made next
  pub none_of_next : HasNoneOfNext lim v (slice_index s.words clock_place)
  none_of_next =
      subst (HasNoneOfNext lim v) clock_found
      (λ few r among.
      next_unplaced nodes p lim log f (tree_of p lim s) kept.core kept.both id r few (subst (IsAmong r) (sym (fresh_id nodes p lim s id v at)) among))

pub draw_tree_entry : (nodes : List (List Elem)) (p : Program) (lim : Bounds) (slots id t : ℕ) (v : TreeView) (mine : List (ℕ × TreeSlot))
    (turn : HeldTurn) (frame : Frame) (stop : Stop) → HasTaskSlots lim.tasks mine → v.floor.kind ≢ Spent → IsLatest (floor_seat (v, mine)) t
    → MayDraw p (floor_seat (v, mine)) t turn frame stop → HasPlacedChildren (turns_seen v) 0 t
    → Allows (TreeKeeps nodes p lim) slots id (v, mine) clock_place (λ n. (n + clock_step stop) % 2 ^ 64) (DrewTreeEntry p lim (v, mine))
draw_tree_entry nodes p lim slots id t v mine turn frame stop has live latest may placed =
    lift_step nodes p lim id v mine has slots clock_place (λ n. (n + clock_step stop) % 2 ^ 64) (DrewOne p lim (floor_seat (v, mine)))
    (DrewTreeEntry p lim (v, mine)) (omega arith)
    (draw_allowed p lim id t v.floor (tasks_out mine) turn frame stop live latest may)
    (λ s kept at me a keep tell. (
      record v { floor = me.0 },
      refl,
      draws_beside nodes p lim s kept id v at live t turn frame (tasks_out mine) stop may placed ((slice_index s.words clock_place + clock_step stop) % 2 ^ 64)
          me.0 a latest keep me.1 tell,
      ((me, tell, refl), none_of_next nodes p lim s kept id v at live),
    ))
