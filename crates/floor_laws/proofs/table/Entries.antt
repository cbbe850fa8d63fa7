-- Drawing an entry, by a fetch-and-add on the clock, keeps the rule of the table.
use Rattle.std.proofs.Common.{◌≡◌, ◌≢◌, ◌+◌, ◌<◌, ◌≤◌, ◌++◌, ◌%◌, ℕ, zero, suc, ℤ, Bool, true, false, cond, List, [], ◌∷◌, length, Option, None, Some, refl, sym, ap, subst, ◌∙◌, arith, length-append, length-set, ltb-true, nat_lt}
use Rattle.std.specs.Prelude.{◌==◌, ◌^◌, slice_index, slice_set}
use Rattle.std.proofs.lemmas.Option.{slice_get_within}
use Rattle.std.proofs.lemmas.Nat.{div-add-mod'}
use mathlib.Core.Option as core
use lib.ListN.{get_elem?}
use Rattle.atomic_table.specs.Table.{Act, Allows, Valid, carried_after, keeps, stepped, takes}
use Rattle.twe_base.specs.declared.place.Place.{Place}
use Rattle.effect_sets.specs.declared.effects.Summary.{Summary}
use Rattle.twe_base.specs.Limits.{Bounds}
use Rattle.twe_program.specs.Program.{Program, cell_count}
use Rattle.seg_meaning.specs.declared.frame.Frame.{Frame}
use Rattle.seg_meaning.specs.declared.stop.Stop.{Stop}
use Rattle.seg_meaning.specs.declared.stop.Stop.TheVariants as stops
use Rattle.machine_state.specs.declared.state.State.{State}
use Rattle.machine_state.specs.declared.state.TaskRow.{TaskRow}
use Rattle.machine_state.specs.Changes.{asked_by}
use Rattle.machine_state.specs.Moves.{new_row, parent_of}
use Rattle.machine_state.specs.Runs.{IsReached, state_after}
use Rattle.machine_state.proofs.standing.ReachedStands.{reached_stands}
use Rattle.seg_journal.specs.declared.numbered.NumberedEntry.{NumberedEntry}
use Rattle.seg_journal.specs.Merging.{journal_of}
use Rattle.floor_laws.specs.declared.rule.view.DoneFact.{DoneFact}
use Rattle.floor_laws.specs.declared.rule.view.HeldTurn.{HeldTurn}
use Rattle.floor_laws.specs.declared.rule.view.OpenSegment.{OpenSegment}
use Rattle.floor_laws.specs.declared.rule.view.TaskSlot.{TaskSlot}
use Rattle.floor_laws.specs.rule.Floors.{Floor, Home, Away, Empty, Holds, put, put_turn}
use Rattle.floor_laws.specs.rule.Fitting.{HomeFits, MayRunFrom}
use Rattle.floor_laws.specs.rule.Rule.{KeepsRule}
use Rattle.floor_laws.specs.rule.Steps.{MayCommit, after_entry, entry_drawn, first_turn, row_after, row_with_child, without_child}
use Rattle.floor_laws.specs.rule.Touches.{StandFor, touches_of}
use Rattle.floor_laws.proofs.rule.Puts.{put_here, some_one}
use Rattle.floor_laws.proofs.rule.RuleSteps.{commit, one_drawn}
use Rattle.floor_laws.specs.declared.table.view.SeatKind.TheVariants.{Spent}
use Rattle.floor_laws.specs.declared.table.view.View.{View}
use Rattle.floor_laws.specs.table.FloorOf.{Table, seat_facts_at, floor_of, home_at, part_at, segment_at, turn_in, turns_at, worker_at}
use Rattle.floor_laws.specs.table.Holds.{TableKeeps}
use Rattle.floor_laws.specs.table.Layout.{asked_of_clock, cell_place, cell_words_from, clock_place, entries_of_clock, number_at}
use Rattle.floor_laws.specs.table.Tells.{DrewEntry, DrewOfLatest, DrewOne, HadNoneNext, IsLatest, MayDraw, Seat, clock_step, drawn_seat, drawn_view, drawn_with, with_turn}
use Rattle.floor_laws.proofs.table.Elements.{at_else, at_within, word_at}
use Rattle.floor_laws.proofs.table.Words.{cells_else, phases_kept, turns_kept}
use Rattle.floor_laws.proofs.table.Views.{seats_kept, seats_put}
use Rattle.floor_laws.proofs.table.Steps.{facts_id, floor_is, homes_put, keeps_after, segment_id, turns_id}
use Rattle.floor_laws.proofs.table.Clock.{Ticked, asked_few, entries_few, ticked}

-- a value that is set twice is the second one
put_twice : {X : Type 0} (f : ℕ → X) (i : ℕ) (a b : X) → put f i b ≡ put (put f i a) i b
put_twice {X} f i a b = λ k j. twice (j == i) (f j) k
  where
    twice : (test : Bool) (x : X) → cond {A = X} test b x ≡ cond {A = X} test b (cond {A = X} test a x)
    twice true x = refl
    twice false x = refl

-- a slot within the table that is empty
home_empty : (homes : List (core.Option (Option TaskSlot))) (c : ℕ) → c < length homes → home_at (get_elem? homes c) ≡ Empty → get_elem? homes c ≡ core.some (core.some None)
home_empty [] c below is = absurd (omega (arith, below))
home_empty (core.none ∷ homes) zero below is = absurd (cc (is))
home_empty (core.some None ∷ homes) zero below is = refl
home_empty (core.some (Some slot) ∷ homes) zero below is = absurd (cc (is))
home_empty (h ∷ homes) (suc c) below is = home_empty homes c (omega (arith, below)) is

-- the slot of a task that is not made is empty
unmade_empty : (st : State) (held : ℕ → ℕ → Option HeldTurn) (c : ℕ) (home : Home) → length st.tasks ≤ c → ((i : ℕ) (turn : HeldTurn) → held i c ≡ Some turn → ⊥) → HomeFits st held c home → home ≡ Empty
unmade_empty st held c Away past none by = absurd (none by.seat by.turn by.has)
unmade_empty st held c Empty past none fits = refl
unmade_empty st held c (Holds slot) past none here = let below = slice_get_within st.tasks c here.1.row here.1.there in absurd (omega (arith, past, below))

module _ (p : Program) (lim : Bounds) (s : Table) (kept : TableKeeps p lim s) (id : ℕ) (v : View) (at : get_elem? s.views id ≡ core.some v) (live : v.kind ≢ Spent) (t : ℕ) (turn : HeldTurn) (frame : Frame) where
  abbrev f : Floor
  f = floor_of p s

  abbrev st : State
  st = state_after p lim (journal_of kept.log)

  reached : IsReached p lim (state_after p lim (journal_of kept.log))
  reached = record { journal = journal_of kept.log; legal = kept.rule.legal; same = refl }

  -- what the clock says
  abbrev clock : ℕ
  clock = number_at (get_elem? s.words clock_place)

  clock_within : clock_place < length s.words
  clock_within = let size = kept.words in omega (arith, size)

  clock_is : number_at (get_elem? s.words clock_place) ≡ slice_index s.words clock_place
  clock_is = ap number_at (word_at s.words clock_place clock_within)

  may_commit : (mine : List (ℕ × Option TaskSlot)) (stop : Stop) → MayDraw p (v, mine) t turn frame stop → MayCommit p f id t turn frame stop
  may_commit mine stop may = record {
    has = ap (λ (g : ℕ → Option HeldTurn). g t) (turns_id p lim s kept id v at live) ∙ may.has;
    ready = may.ready;
    may = subst (λ (facts : List DoneFact). MayRunFrom turn facts may.ready) (sym (facts_id p lim s kept id v at live)) may.may;
    running = may.running;
    own = λ o is. may.own o (sym (segment_id p lim s kept id v at live) ∙ is);
    accesses = may.accesses;
    touches = subst (λ (o : Option OpenSegment). StandFor p (touches_of o) may.accesses) (sym (segment_id p lim s kept id v at live)) may.touches;
    means = may.means;
  }

  -- The clock afterwards.

  asked_one : (stop : Stop) → asked_by stop ≤ 1
  asked_one (stops.Make child args effects spawned future place) = omega arith
  asked_one (stops.Waits on) = omega arith
  asked_one (stops.Joins on) = omega arith
  asked_one (stops.Done value) = omega arith
  asked_one (stops.Fault kind place) = omega arith

  clock_ticks : (stop : Stop) → length kept.log + 1 < 2 ^ 45 → Ticked (2 ^ 45) (asked_of_clock clock) (entries_of_clock clock) (asked_by stop) ((clock + clock_step stop) % 2 ^ 64)
  clock_ticks stop few =
      let entries : entries_of_clock clock ≡ length kept.log = kept.rule.entries in
      let asked_is : asked_of_clock clock ≡ st.asked = kept.rule.fits.asked in
      let asked = asked_few p lim st kept.well kept.within reached in
      let one = asked_one stop in
      let rise : asked_of_clock clock + asked_by stop < 2 ^ 19 = few_makes (asked_of_clock clock) st.asked (asked_by stop) asked_is asked one in
      let rest : entries_of_clock clock + 1 < 2 ^ 45 = subst (λ (n : ℕ). n + 1 < 2 ^ 45) (sym entries) few in
      ticked (2 ^ 45) (2 ^ 19) (2 ^ 64) (asked_of_clock clock) (entries_of_clock clock) (asked_by stop) clock (sym (div-add-mod' clock (2 ^ 45))) rest rise refl
    where
      few_makes : (a b d : ℕ) → a ≡ b → b + 1 < 2 ^ 19 → d ≤ 1 → a + d < 2 ^ 19
      few_makes a b d is small one = omega (arith, is, small, one)

  module _ (stop : Stop) (tick : Ticked (2 ^ 45) (asked_of_clock clock) (entries_of_clock clock) (asked_by stop) ((clock + clock_step stop) % 2 ^ 64)) where
    abbrev now : ℕ
    now = (clock + clock_step stop) % 2 ^ 64

    abbrev words : List ℕ
    words = slice_set s.words clock_place now

    clock_now : get_elem? words clock_place ≡ core.some now
    clock_now = at_within s.words clock_place now clock_within

    entries_now : entries_of_clock (number_at (get_elem? words clock_place)) ≡ f.entries + 1
    entries_now = ap (λ (o : core.Option ℕ). entries_of_clock (number_at o)) clock_now ∙ tick.rest

    asked_now : asked_of_clock (number_at (get_elem? words clock_place)) ≡ f.asked + asked_by stop
    asked_now = ap (λ (o : core.Option ℕ). asked_of_clock (number_at o)) clock_now ∙ tick.parts

    cells_now : cell_words_from words 8 (cell_count p) ≡ cell_words_from s.words 8 (cell_count p)
    cells_now = cells_else s.words 8 (cell_count p) clock_place now (λ c below same. omega (arith, same))

    small_now : (c : ℕ) → c < cell_count p → number_at (get_elem? words (cell_place c)) < 2 ^ 32
    small_now c below = subst (λ (o : core.Option ℕ). number_at o < 2 ^ 32) (sym (at_else s.words clock_place (cell_place c) now (λ same. omega (arith, same)))) (kept.cells c below)

    abbrev view : View
    view = drawn_view lim clock v t turn frame stop

    abbrev new_turn : HeldTurn
    new_turn = record turn { row = row_after lim f.asked turn.row frame stop }

    part_id : part_at (get_elem? s.views id) ≡ v.part
    part_id = ap part_at at

    -- An entry that makes no task.
    plain_tie : floor_of p (record { words = words; homes = s.homes; views = slice_set s.views id view }) ≡ without_child lim f id t turn frame stop
    plain_tie =
        floor_is _ (without_child lim f id t turn frame stop) entries_now asked_now cells_now
        (turns_kept p s.words clock_place now (λ u same. omega (arith, same)))
        (phases_kept p s.words clock_place now (λ u same. omega (arith, same)))
        refl
        (seats_kept worker_at s.views id v view at refl)
        (seats_put part_at s.views id v view at (f.parts id ++ entry_drawn lim f t frame stop ∷ []) (ap (λ (l : List NumberedEntry). l ++ entry_drawn lim f t frame stop ∷ []) (sym part_id)))
        (seats_put turns_at s.views id v view at (put (f.held id) t (Some new_turn)) (ap (λ (g : ℕ → Option HeldTurn). put g t (Some new_turn)) (sym (turns_id p lim s kept id v at live))))
        (seats_put segment_at s.views id v view at None refl)
        (seats_kept seat_facts_at s.views id v view at refl)

    plain_step : (mine : List (ℕ × Option TaskSlot)) (log : List NumberedEntry) → KeepsRule p lim log (without_child lim f id t turn frame stop) → (view, mine) ≡ drawn_seat lim clock (v, mine) t turn frame stop
        → (w : View) × (a : Act (Option TaskSlot)) × Valid s.homes mine a × TableKeeps p lim (stepped s clock_place now id mine w a) × DrewEntry lim (v, mine) t turn frame stop clock (w, carried_after mine a)
    plain_step mine log rule seat = (
      view,
      keeps,
      tt,
      keeps_after p lim s kept id v at live words s.homes view refl refl (length-set s.words clock_place now) refl small_now log (subst (KeepsRule p lim log) (sym plain_tie) rule),
      seat,
    )

    -- An entry that makes a task.
    module _ (c : ℕ) (child : TaskRow) (below : c < lim.tasks) (empty : get_elem? s.homes c ≡ core.some (core.some None)) where
      abbrev both_view : View
      both_view = with_turn view c (Some (first_turn child))

      abbrev set : ℕ → ℕ → Option HeldTurn
      set = put_turn f.held id t (Some new_turn)

      -- the two turns, as they are put one after the other
      turns_both : put f.held id (put (put (f.held id) t (Some new_turn)) c (Some (first_turn child))) ≡ put_turn set id c (Some (first_turn child))
      turns_both =
          put_twice f.held id (put (f.held id) t (Some new_turn)) (put (put (f.held id) t (Some new_turn)) c (Some (first_turn child)))
          ∙ ap (λ (g : ℕ → Option HeldTurn). put set id (put g c (Some (first_turn child)))) (sym (put_here f.held id (put (f.held id) t (Some new_turn))))

      with_tie : floor_of p (record { words = words; homes = slice_set s.homes c core.none; views = slice_set s.views id both_view }) ≡ row_with_child (without_child lim f id t turn frame stop) id c child
      with_tie =
          let slots = kept.slots in
          floor_is _ (row_with_child (without_child lim f id t turn frame stop) id c child) entries_now asked_now cells_now
          (turns_kept p s.words clock_place now (λ u same. omega (arith, same)))
          (phases_kept p s.words clock_place now (λ u same. omega (arith, same)))
          (homes_put s.homes c core.none (omega (arith, slots, below)))
          (seats_kept worker_at s.views id v both_view at refl)
          (seats_put part_at s.views id v both_view at (f.parts id ++ entry_drawn lim f t frame stop ∷ []) (ap (λ (l : List NumberedEntry). l ++ entry_drawn lim f t frame stop ∷ []) (sym part_id)))
          (seats_put turns_at s.views id v both_view at (put (put (f.held id) t (Some new_turn)) c (Some (first_turn child)))
          (ap (λ (g : ℕ → Option HeldTurn). put (put g t (Some new_turn)) c (Some (first_turn child))) (sym (turns_id p lim s kept id v at live)))
          ∙ turns_both)
          (seats_put segment_at s.views id v both_view at None refl)
          (seats_kept seat_facts_at s.views id v both_view at refl)

      with_step : (mine : List (ℕ × Option TaskSlot)) (log : List NumberedEntry) → KeepsRule p lim log (row_with_child (without_child lim f id t turn frame stop) id c child)
          → drawn_with (view, mine) c child ≡ drawn_seat lim clock (v, mine) t turn frame stop
          → (w : View) × (a : Act (Option TaskSlot)) × Valid s.homes mine a × TableKeeps p lim (stepped s clock_place now id mine w a) × DrewEntry lim (v, mine) t turn frame stop clock (w, carried_after mine a)
      with_step mine log rule seat = (
        both_view,
        takes c None,
        empty,
        keeps_after p lim s kept id v at live words (slice_set s.homes c core.none) both_view refl refl (length-set s.words clock_place now) (length-set s.homes c core.none) small_now log
            (subst (KeepsRule p lim log) (sym with_tie) rule),
        seat,
      )

  -- what the step gives, at this clock
  abbrev Drawn : List (ℕ × Option TaskSlot) → Stop → ℕ → Type 0
  Drawn mine stop found =
      (w : View) × (a : Act (Option TaskSlot)) × Valid s.homes mine a × TableKeeps p lim (stepped s clock_place ((found + clock_step stop) % 2 ^ 64) id mine w a)
      × DrewEntry lim (v, mine) t turn frame stop found (w, carried_after mine a)

  -- the log is one longer, and still short
  ticks_by : (stop : Stop) (g : Floor) → KeepsRule p lim (kept.log ++ entry_drawn lim f t frame stop ∷ []) g
      → Ticked (2 ^ 45) (asked_of_clock clock) (entries_of_clock clock) (asked_by stop) ((clock + clock_step stop) % 2 ^ 64)
  ticks_by stop g rule =
      let few = entries_few p lim (kept.log ++ entry_drawn lim f t frame stop ∷ []) kept.well kept.within rule.legal in
      let longer = length-append kept.log (entry_drawn lim f t frame stop ∷ []) in
      clock_ticks stop (subst (λ (n : ℕ). n < 2 ^ 45) longer few)

  -- the task with the next number is not made yet
  next_empty : f.asked + 1 ≡ length st.tasks → f.asked + 1 < lim.tasks → get_elem? s.homes (f.asked + 1) ≡ core.some (core.some None)
  next_empty number below =
      let past : length st.tasks ≤ f.asked + 1 = omega (arith, number) in
      let slots = kept.slots in
      home_empty s.homes (f.asked + 1) (omega (arith, slots, below))
      (unmade_empty st f.held (f.asked + 1) (f.homes (f.asked + 1)) past
      (λ i other has. let known = kept.rule.fits.rows i (f.asked + 1) other has in let made = slice_get_within st.tasks (f.asked + 1) known.row known.there in omega (arith, past, made))
      (kept.rule.fits.homes (f.asked + 1)))

  -- and the seat has no turn of it
  unheld_next : (n : ℕ) → n ≡ f.asked → n + 1 < lim.tasks → turn_in v.turns (n + 1) ≡ None
  unheld_next n is below = none_held (turn_in v.turns (n + 1)) refl
    where
      none_held : (o : Option HeldTurn) → turn_in v.turns (n + 1) ≡ o → o ≡ None
      none_held None held = refl
      none_held (Some other) held =
          let asked : n ≡ st.asked = is ∙ kept.rule.fits.asked in
          let number : n + 1 ≡ length st.tasks =
          ap (λ (m : ℕ). m + 1) asked ∙ (reached_stands p lim st kept.well reached).number (subst (λ (m : ℕ). m + 1 < lim.tasks) asked below) in
          let known = kept.rule.fits.rows id (n + 1) other (ap (λ (g : ℕ → Option HeldTurn). g (n + 1)) (turns_id p lim s kept id v at live) ∙ held) in
          let made = slice_get_within st.tasks (n + 1) known.row known.there in
          absurd (omega (arith, number, made))

  pub next_unheld : (mine : List (ℕ × Option TaskSlot)) → HadNoneNext lim (v, mine) (slice_index s.words clock_place)
  next_unheld mine below = unheld_next (asked_of_clock (slice_index s.words clock_place)) (ap asked_of_clock (sym clock_is)) below

  making : (mine : List (ℕ × Option TaskSlot)) (child : Frame) (args : List ℤ) (effects : Summary) (spawned : Bool) (future : ℕ) (place : Place) (b : Bool) → nat_lt (f.asked + 1) lim.tasks ≡ b
      → KeepsRule p lim (kept.log ++ entry_drawn lim f t frame (stops.Make child args effects spawned future place) ∷ [])
      (cond {A = Floor} b (row_with_child (without_child lim f id t turn frame (stops.Make child args effects spawned future place)) id (f.asked + 1) (new_row lim (f.asked + 1) (parent_of t spawned) child args effects))
      (without_child lim f id t turn frame (stops.Make child args effects spawned future place)))
      → Drawn mine (stops.Make child args effects spawned future place) clock
  making mine child args effects spawned future place true is rule =
      let stop = stops.Make child args effects spawned future place in
      let below : f.asked + 1 < lim.tasks = ltb-true (f.asked + 1) lim.tasks is in
      let asked : f.asked ≡ st.asked = kept.rule.fits.asked in
      let number : f.asked + 1 ≡ length st.tasks =
      ap (λ (n : ℕ). n + 1) asked ∙ (reached_stands p lim st kept.well reached).number (subst (λ (n : ℕ). n + 1 < lim.tasks) asked below) in
      let row = new_row lim (f.asked + 1) (parent_of t spawned) child args effects in
      with_step stop (ticks_by stop _ rule) (f.asked + 1) row below (next_empty number below) mine (kept.log ++ entry_drawn lim f t frame stop ∷ []) rule
      (ap (λ (b : Bool). cond {A = View × List (ℕ × Option TaskSlot)} b (drawn_with (drawn_view lim clock v t turn frame stop, mine) (f.asked + 1) row) (drawn_view lim clock v t turn frame stop, mine)) (sym is))
  making mine child args effects spawned future place false is rule =
      let stop = stops.Make child args effects spawned future place in
      let row = new_row lim (f.asked + 1) (parent_of t spawned) child args effects in
      plain_step stop (ticks_by stop _ rule) mine (kept.log ++ entry_drawn lim f t frame stop ∷ []) rule
      (ap (λ (b : Bool). cond {A = View × List (ℕ × Option TaskSlot)} b (drawn_with (drawn_view lim clock v t turn frame stop, mine) (f.asked + 1) row) (drawn_view lim clock v t turn frame stop, mine)) (sym is))

  drawing : (mine : List (ℕ × Option TaskSlot)) (stop : Stop) → KeepsRule p lim (kept.log ++ entry_drawn lim f t frame stop ∷ []) (after_entry lim f id t turn frame stop) → Drawn mine stop clock
  drawing mine (stops.Make child args effects spawned future place) rule = making mine child args effects spawned future place (nat_lt (f.asked + 1) lim.tasks) refl rule
  drawing mine (stops.Waits on) rule = plain_step (stops.Waits on) (ticks_by (stops.Waits on) _ rule) mine _ rule refl
  drawing mine (stops.Joins on) rule = plain_step (stops.Joins on) (ticks_by (stops.Joins on) _ rule) mine _ rule refl
  drawing mine (stops.Done value) rule = plain_step (stops.Done value) (ticks_by (stops.Done value) _ rule) mine _ rule refl
  drawing mine (stops.Fault kind place) rule = plain_step (stops.Fault kind place) (ticks_by (stops.Fault kind place) _ rule) mine _ rule refl

  pub draw_step : (mine : List (ℕ × Option TaskSlot)) (stop : Stop) → MayDraw p (v, mine) t turn frame stop → Drawn mine stop (slice_index s.words clock_place)
  draw_step mine stop may =
      subst (Drawn mine stop) clock_is
      (drawing mine stop (commit p kept.well kept.keeps lim kept.log f kept.rule id t turn frame stop (may_commit mine stop may)))

-- There is one entry to draw.
module _ (p : Program) (lim : Bounds) (s : Table) (kept : TableKeeps p lim s) (id : ℕ) (v : View) (at : get_elem? s.views id ≡ core.some v) (live : v.kind ≢ Spent) where
  same_seat : (me : Seat) (found t : ℕ) (turn other_turn : HeldTurn) (frame other : Frame) (stop last : Stop) → turn ≡ other_turn → frame ≡ other → stop ≡ last
      → drawn_seat lim found me t turn frame stop ≡ drawn_seat lim found me t other_turn other last
  same_seat me found t turn other_turn frame other stop last turns frames stops = λ k. drawn_seat lim found me t (turns k) (frames k) (stops k)

  draws_one : (mine : List (ℕ × Option TaskSlot)) (t : ℕ) (turn : HeldTurn) (frame : Frame) (stop : Stop) (found : ℕ) (after : Seat) → IsLatest (v, mine) t → MayDraw p (v, mine) t turn frame stop
      → DrewEntry lim (v, mine) t turn frame stop found after → DrewOfLatest p lim (v, mine) found after
  draws_one mine t turn frame stop found after latest may drew u other_turn other last latest_too may_too =
      let heads : (t, latest.slot) ∷ latest.rest ≡ (u, latest_too.slot) ∷ latest_too.rest = sym latest.is ∙ latest_too.is in
      let tasks : u ≡ t = first_of_heads t u latest.slot latest_too.slot latest.rest latest_too.rest heads in
      let may_t : MayDraw p (v, mine) t other_turn other last = subst (λ (n : ℕ). MayDraw p (v, mine) n other_turn other last) tasks may_too in
      let turns : turn ≡ other_turn = some_one (sym may.has ∙ may_t.has) in
      let may_turn : MayDraw p (v, mine) t turn other last = subst (λ (h : HeldTurn). MayDraw p (v, mine) t h other last) (sym turns) may_t in
      let one = one_drawn p kept.well kept.keeps lim kept.log (floor_of p s) kept.rule id t turn frame other stop last
      (may_commit p lim s kept id v at live t turn frame mine stop may) (may_commit p lim s kept id v at live t turn other mine last may_turn) in
      subst (λ (n : ℕ). DrewEntry lim (v, mine) n other_turn other last found after) (sym tasks)
      (drew ∙ same_seat (v, mine) found t turn other_turn frame other stop last turns one.frames one.stops)
    where
      first_of_heads : (a b : ℕ) (x y : Option TaskSlot) (xs ys : List (ℕ × Option TaskSlot)) → (a, x) ∷ xs ≡ (b, y) ∷ ys → b ≡ a
      first_of_heads a b x y xs ys same = sym (ap (head_task a) same)
        where
          head_task : ℕ → List (ℕ × Option TaskSlot) → ℕ
          head_task d [] = d
          head_task d (z ∷ zs) = z.0

-- Drawing an entry.
pub draw_allowed : (p : Program) (lim : Bounds) (id t : ℕ) (v : View) (mine : List (ℕ × Option TaskSlot)) (turn : HeldTurn) (frame : Frame) (stop : Stop) → v.kind ≢ Spent → IsLatest (v, mine) t → MayDraw p (v, mine) t turn frame stop
    → Allows (TableKeeps p lim) lim.tasks id (v, mine) clock_place (λ n. (n + clock_step stop) % 2 ^ 64) (DrewOne p lim (v, mine))
draw_allowed p lim id t v mine turn frame stop live latest may s kept slots at small =
    let step = draw_step p lim s kept id v at live t turn frame mine stop may in
    let of_latest = draws_one p lim s kept id v at live mine t turn frame stop (slice_index s.words clock_place) (step.0, carried_after mine step.1) latest may step.4 in
    (step.0, step.1, step.2, step.3, (of_latest, next_unheld p lim s kept id v at live t turn frame mine))
