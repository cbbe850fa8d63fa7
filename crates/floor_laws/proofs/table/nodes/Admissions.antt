-- The entry of an admission, drawn by a fetch-and-add on the clock, keeps the rule of the table with nodes.
use Rattle.std.proofs.Common.{◌≡◌, ◌≢◌, ◌<◌, ◌+◌, ◌++◌, ◌%◌, ℕ, List, [], ◌∷◌, length, Option, Some, refl, sym, ap, subst, ◌∙◌, arith, length-append, length-set}
use Rattle.std.specs.Prelude.{◌^◌, slice_index, slice_set}
use Rattle.std.proofs.lemmas.Nat.{div-add-mod'}
use mathlib.Core.Option as core
use lib.ListN.{get_elem?}
use Rattle.atomic_table.specs.Table.{Act, Allows, Valid, carried_after, keeps, stepped}
use Rattle.atomic_table.proofs.Lists.{at_map}
use Rattle.region_paths.specs.declared.elements.Elem.{Elem}
use Rattle.twe_base.specs.Limits.{Bounds}
use Rattle.twe_program.specs.Program.{Program, cell_count}
use Rattle.machine_state.specs.declared.state.State as machine
use Rattle.machine_state.specs.Moves.{admitted_row}
use Rattle.machine_state.specs.Runs.{IsReached, state_after}
use Rattle.seg_journal.specs.declared.numbered.NumberedEntry.{NumberedEntry}
use Rattle.seg_journal.specs.Merging.{journal_of}
use Rattle.floor_laws.specs.declared.rule.view.HeldTurn.{HeldTurn}
use Rattle.floor_laws.specs.declared.rule.view.TaskSlot.{TaskSlot}
use Rattle.floor_laws.specs.rule.Floors.{Floor, put}
use Rattle.floor_laws.specs.rule.Rule.{KeepsRule}
use Rattle.floor_laws.proofs.rule.Puts.{some_one}
use Rattle.floor_laws.specs.declared.table.view.SeatKind.TheVariants.{Spent}
use Rattle.floor_laws.specs.declared.table.view.View.{View}
use Rattle.floor_laws.specs.table.FloorOf.{Table, seat_facts_at, floor_of, part_at, segment_at, turn_in, turns_at, worker_at}
use Rattle.floor_laws.specs.table.Holds.{TableKeeps}
use Rattle.floor_laws.specs.table.Layout.{asked_of_clock, cell_place, clock_place, entries_of_clock, number_at}
use Rattle.floor_laws.specs.table.Tells.{IsLatest}
use Rattle.floor_laws.proofs.table.Clock.{Ticked, asked_few, entries_few, ticked}
use Rattle.floor_laws.proofs.table.Elements.{at_else, at_within, word_at}
use Rattle.floor_laws.proofs.table.Steps.{floor_is, keeps_after}
use Rattle.floor_laws.proofs.table.Views.{seats_kept, seats_put}
use Rattle.floor_laws.proofs.table.Words.{cells_else, phases_kept, turns_kept}
use Rattle.floor_laws.specs.admission.admission_core.States.{IsAmong}
use Rattle.floor_laws.specs.rule.nodes.AdmitSteps.{MayDrawAdmission, admission_drawn, after_admission}
use Rattle.floor_laws.specs.rule.nodes.Trees.{Tree}
use Rattle.floor_laws.specs.rule.nodes.TurnSteps.{IsTaskEvent}
use Rattle.floor_laws.proofs.rule.nodes.AdmitEvents.{floor_keeps, nodes_admit}
use Rattle.floor_laws.specs.declared.table.nodes.slot.TreeSlot.{TreeSlot}
use Rattle.floor_laws.specs.declared.table.nodes.view.TreeView.{TreeView}
use Rattle.floor_laws.specs.table.nodes.EntrySeats.{DrewAdmission, MayAdmitLatest, admitted_view}
use Rattle.floor_laws.specs.table.nodes.FloorSeats.{floor_seat}
use Rattle.floor_laws.specs.table.nodes.Holds.{TreeKeeps}
use Rattle.floor_laws.specs.table.nodes.Seats.{TreeSeat, tree_seen, turns_seen}
use Rattle.floor_laws.specs.table.nodes.TreeOf.{TreeTable, floor_part, floor_shown, floor_view, tree_of}
use Rattle.floor_laws.proofs.table.nodes.FloorSteps.{StepsBeside, floor_finds, next_step}
use Rattle.floor_laws.proofs.table.nodes.LogSteps.{grows_beside}
use Rattle.floor_laws.proofs.table.nodes.Seen.{activity_id, fresh_id, held_id}

module _ (nodes : List (List Elem)) (p : Program) (lim : Bounds) (s : TreeTable) (kept : TreeKeeps nodes p lim s) (id : ℕ) (v : TreeView)
    (at : get_elem? s.views id ≡ core.some v) (live : v.floor.kind ≢ Spent)
    (t : ℕ) (may : MayDrawAdmission nodes (turns_seen v) (tree_seen v) 0 t) where
  abbrev fs : Table
  fs = floor_part p lim s

  abbrev f : Floor
  f = floor_shown p lim s

  abbrev tree : Tree
  tree = tree_of p lim s

  abbrev log : List NumberedEntry
  log = kept.floor.log

  abbrev turn : HeldTurn
  turn = may.placed.turn

  at_floor : get_elem? (floor_part p lim s).views id ≡ core.some v.floor
  at_floor = at_map floor_view s.views id v at

  -- what the seat needs by its view holds of the table
  abbrev may_here : MayDrawAdmission nodes f.held tree id t
  may_here = record {
    placed = record {
      turn = turn;
      has = held_id nodes p lim s id v at t ∙ may.placed.has;
      taken = may.placed.taken;
      made = may.placed.made;
      all = λ e among.
          let one = may.placed.all e among in
          (one.0, one.1, subst (IsAmong (record { task = t; effect = e; node = one.0 })) (sym (fresh_id nodes p lim s id v at)) one.2);
    };
    idle = activity_id nodes p lim s id v at ∙ may.idle;
  }

  abbrev more : List NumberedEntry
  more = log ++ admission_drawn f t ∷ []

  rule : KeepsRule p lim more (after_admission f id t turn)
  rule = floor_keeps nodes p lim log f tree kept.core kept.both id t may_here

  event : IsTaskEvent nodes p lim more (after_admission f id t turn) tree kept.core
  event = nodes_admit nodes p lim log f tree kept.core kept.both id t may_here

  -- The clock.

  abbrev clock : ℕ
  clock = number_at (get_elem? fs.words clock_place)

  clock_within : clock_place < length fs.words
  clock_within = let size = kept.floor.words in omega (arith, size)

  clock_found : clock ≡ slice_index s.words clock_place
  clock_found = ap number_at (word_at fs.words clock_place clock_within) ∙ floor_finds nodes p lim s kept id v at clock_place (omega arith)

  abbrev now : ℕ
  now = (clock + 1) % 2 ^ 64

  abbrev st : machine.State
  st = state_after p lim (journal_of log)

  reached : IsReached p lim (state_after p lim (journal_of log))
  reached = record { journal = journal_of log; legal = kept.floor.rule.legal; same = refl }

  ticks : Ticked (2 ^ 45) (asked_of_clock clock) (entries_of_clock clock) 0 now
  ticks =
      let few = entries_few p lim more kept.floor.well kept.floor.within rule.legal in
      let longer = length-append log (admission_drawn f t ∷ []) in
      let entries : entries_of_clock clock ≡ length log = kept.floor.rule.entries in
      let asked_is : asked_of_clock clock ≡ st.asked = kept.floor.rule.fits.asked in
      let asked = asked_few p lim st kept.floor.well kept.floor.within reached in
      let rest : entries_of_clock clock + 1 < 2 ^ 45 = subst (λ (n : ℕ). n + 1 < 2 ^ 45) (sym entries) (subst (λ (n : ℕ). n < 2 ^ 45) longer few) in
      let rise : asked_of_clock clock + 0 < 2 ^ 19 = few_makes (asked_of_clock clock) st.asked asked_is asked in
      ticked (2 ^ 45) (2 ^ 19) (2 ^ 64) (asked_of_clock clock) (entries_of_clock clock) 0 clock (sym (div-add-mod' clock (2 ^ 45))) rest rise refl
    where
      few_makes : (a b : ℕ) → a ≡ b → b + 1 < 2 ^ 19 → a + 0 < 2 ^ 19
      few_makes a b is small = omega (arith, is, small)

  abbrev words : List ℕ
  words = slice_set fs.words clock_place now

  clock_now : get_elem? words clock_place ≡ core.some now
  clock_now = at_within fs.words clock_place now clock_within

  no_more : (n : ℕ) → n + 0 ≡ n
  no_more n = omega arith

  small_now : (c : ℕ) → c < cell_count p → number_at (get_elem? words (cell_place c)) < 2 ^ 32
  small_now c below =
      subst (λ (o : core.Option ℕ). number_at o < 2 ^ 32) (sym (at_else fs.words clock_place (cell_place c) now (λ same. omega (arith, same))))
      (kept.floor.cells c below)

  -- The floor.

  abbrev view : View
  view = (admitted_view clock v t turn).floor

  abbrev new : Option HeldTurn
  new = Some (record turn { row = admitted_row turn.row })

  tie : floor_of p (record { words = words; homes = fs.homes; views = slice_set fs.views id view }) ≡ after_admission f id t turn
  tie =
      floor_is _ (after_admission f id t turn)
      (ap (λ (o : core.Option ℕ). entries_of_clock (number_at o)) clock_now ∙ ticks.rest)
      (ap (λ (o : core.Option ℕ). asked_of_clock (number_at o)) clock_now ∙ (ticks.parts ∙ no_more f.asked))
      (cells_else fs.words 8 (cell_count p) clock_place now (λ c below same. omega (arith, same)))
      (turns_kept p fs.words clock_place now (λ u same. omega (arith, same)))
      (phases_kept p fs.words clock_place now (λ u same. omega (arith, same)))
      refl
      (seats_kept worker_at fs.views id v.floor view at_floor refl)
      (seats_put part_at fs.views id v.floor view at_floor (f.parts id ++ admission_drawn f t ∷ [])
      (ap (λ (l : List NumberedEntry). l ++ admission_drawn f t ∷ []) (sym (ap part_at at_floor))))
      (seats_put turns_at fs.views id v.floor view at_floor (put (f.held id) t new)
      (ap (λ (g : ℕ → Option HeldTurn). put g t new) (sym (ap turns_at at_floor))))
      (seats_kept segment_at fs.views id v.floor view at_floor refl)
      (seats_kept seat_facts_at fs.views id v.floor view at_floor refl)

  keep : TableKeeps p lim (stepped (floor_part p lim s) clock_place now id [] view keeps)
  keep =
      keeps_after p lim fs kept.floor id v.floor at_floor live words fs.homes view refl refl (length-set fs.words clock_place now) refl small_now more
      (subst (KeepsRule p lim more) (sym tie) rule)

  steps : StepsBeside nodes p lim s kept id v at clock_place now (admitted_view clock v t turn)
  steps =
      grows_beside nodes p lim s kept id v at now [] view keeps keep more (admission_drawn f t) refl (after_admission f id t turn) (record kept.core { tasks = event.0 }) rule.parts
      event.2
      (ap (λ (g : Floor). g.parts) tie) (ap (λ (g : Floor). g.held) tie) (ap (λ (g : Floor). g.workers) tie)

  -- what the step gives, at this clock
  abbrev Drawn : List (ℕ × TreeSlot) → ℕ → Type 0
  Drawn mine found =
      (w : TreeView) × (a : Act TreeSlot) × Valid s.homes mine a × TreeKeeps nodes p lim (stepped s clock_place ((found + 1) % 2 ^ 64) id mine w a)
      × ◌≡◌ {A = TreeSeat} (w, carried_after mine a) (admitted_view found v t turn, mine)

  pub admit_step : (mine : List (ℕ × TreeSlot)) → Drawn mine (slice_index s.words clock_place)
  admit_step mine =
      let moved = next_step nodes p lim s kept id v at clock_place now (omega arith) [] tt (admitted_view clock v t turn) keeps tt keep steps in
      subst (Drawn mine) clock_found (admitted_view clock v t turn, keeps, tt, moved.1, refl)

-- the latest slot is of one task
one_latest : (me : TreeSeat) (t u : ℕ) → IsLatest (floor_seat me) t → IsLatest (floor_seat me) u → t ≡ u
one_latest me t u a b = heads (sym a.is ∙ b.is)
  where
    head_task : List (ℕ × Option TaskSlot) → ℕ
    head_task [] = 0
    head_task (z ∷ zs) = z.0

    heads : (t, a.slot) ∷ a.rest ≡ (u, b.slot) ∷ b.rest → t ≡ u
    heads same = ap head_task same

pub draw_admission : (nodes : List (List Elem)) (p : Program) (lim : Bounds) (slots id t : ℕ) (v : TreeView) (mine : List (ℕ × TreeSlot)) (turn : HeldTurn)
    → v.floor.kind ≢ Spent → MayAdmitLatest nodes (v, mine) t turn
    → Allows (TreeKeeps nodes p lim) slots id (v, mine) clock_place (λ n. (n + 1) % 2 ^ 64) (DrewAdmission nodes (v, mine))
draw_admission nodes p lim slots id t v mine had live may s kept count at small =
    let step = admit_step nodes p lim s kept id v at live t may.may mine in
    let found = slice_index s.words clock_place in
    let drew : DrewAdmission nodes (v, mine) found (step.0, carried_after mine step.1) =
    λ u other may_too.
    let tasks : t ≡ u = one_latest (v, mine) t u may.latest may_too.latest in
    let turns : may.may.placed.turn ≡ other =
    some_one (sym may.may.placed.has ∙ (ap (turn_in v.floor.turns) tasks ∙ may_too.has)) in
    step.4 ∙ (λ k. (admitted_view found v (tasks k) (turns k), mine)) in
    (step.0, step.1, step.2, step.3, drew)
