-- The calls on the floor, on a table with nodes.
use Rattle.std.proofs.Common.{◌≡◌, ◌≢◌, ◌<◌, ℕ, ℤ, List, map, Option, refl, sym, ap, subst, arith}
use Rattle.std.specs.Prelude.{◌^◌, slice_index}
use mathlib.Core.Option as core
use lib.ListN.{get_elem?}
use Rattle.atomic_table.specs.Table.{Act, Allows, Valid, carried_after, step, stepped}
use Rattle.region_paths.specs.declared.elements.Elem.{Elem}
use Rattle.twe_base.specs.Limits.{Bounds}
use Rattle.twe_program.specs.Program.{Program, cell_count}
use Rattle.seg_meaning.specs.Access.{Reads, Writes}
use Rattle.floor_laws.specs.declared.rule.view.TaskSlot.{TaskSlot}
use Rattle.floor_laws.specs.declared.table.view.SeatKind.TheVariants.{Spent}
use Rattle.floor_laws.specs.declared.table.view.View.{View}
use Rattle.floor_laws.specs.table.FloorOf.{turn_in, turns_at, worker_at}
use Rattle.floor_laws.specs.table.Holds.{TableKeeps}
use Rattle.floor_laws.specs.table.Layout.{cell_place, clock_place, value_of_word, word_count}
use Rattle.floor_laws.specs.table.Plays.{LoadsCell, StoresCell}
use Rattle.floor_laws.specs.table.Tells.{IsLatest, MayTouchCell, Seat}
use Rattle.floor_laws.proofs.table.Calls.{get_cell, put_cell}
use Rattle.floor_laws.proofs.table.Views.{seats_kept}
use Rattle.floor_laws.proofs.rule.nodes.TurnEvents.{floor_same}
use Rattle.floor_laws.specs.declared.table.nodes.slot.TreeSlot.{TreeSlot}
use Rattle.floor_laws.specs.declared.table.nodes.view.TreeView.{TreeView}
use Rattle.floor_laws.specs.table.nodes.FloorSeats.{HasTaskSlots, LoadsTreeCell, StoresTreeCell, TellsFloor, as_slot, floor_seat, tasks_out}
use Rattle.floor_laws.specs.table.nodes.Holds.{TreeKeeps}
use Rattle.floor_laws.specs.table.nodes.Layout.{tree_slot_count}
use Rattle.floor_laws.specs.table.nodes.Seats.{TreeSeat}
use Rattle.floor_laws.specs.table.nodes.TreeOf.{TreeTable, floor_shown}
use Rattle.floor_laws.proofs.table.nodes.FloorSteps.{KeepsBeside, StepsBeside, at_floor, floor_finds, fs, log, next_step, steps_beside, tree, viewed}
use Rattle.floor_laws.proofs.table.nodes.Lifts.{lift, out_again, out_below}

module _ (nodes : List (List Elem)) (p : Program) (lim : Bounds) (id : ℕ) (v : TreeView) (mine : List (ℕ × TreeSlot)) (has : HasTaskSlots lim.tasks mine) where
  -- Whatever the table is: if the floor steps so and tells its seat this, then there is a view for the seat with which the nodes keep
  -- their rule, and of which the other thing can be told.
  abbrev pub GoesAlong : ℕ → (ℕ → ℕ) → (ℕ → Seat → Type 0) → (ℕ → TreeSeat → Type 0) → Type 0
  GoesAlong i g tells other =
      (s : TreeTable) (kept : TreeKeeps nodes p lim s) (at : get_elem? s.views id ≡ core.some v) (me : Seat) (a : Act (Option TaskSlot))
      → TableKeeps p lim (stepped (fs nodes p lim s kept id v at) i (g (slice_index s.words i)) id (tasks_out mine) me.0 a) → tells (slice_index s.words i) me
      → (u : TreeView) × (u.floor ≡ me.0) × StepsBeside nodes p lim s kept id v at i (g (slice_index s.words i)) u × other (slice_index s.words i) (u, map as_slot me.1)

  -- a step that the floor allows is allowed here, if the nodes go along
  pub lift_step : (slots i : ℕ) (g : ℕ → ℕ) (tells : ℕ → Seat → Type 0) (other : ℕ → TreeSeat → Type 0) → i < word_count p lim → Allows (TableKeeps p lim) lim.tasks id (floor_seat (v, mine)) i g tells
      → GoesAlong i g tells other → Allows (TreeKeeps nodes p lim) slots id (v, mine) i g other
  lift_step slots i g tells other low allowed along s kept count at small =
      let found = slice_index s.words i in
      let out = tasks_out mine in
      let same = floor_finds nodes p lim s kept id v at i low in
      let result = allowed (fs nodes p lim s kept id v at) kept.floor kept.floor.slots (at_floor nodes p lim s kept id v at) (subst (λ (n : ℕ). n < 18446744073709551616) (sym same) small) in
      let w : View = result.0 in
      let a : Act (Option TaskSlot) = result.1 in
      let keep : TableKeeps p lim (stepped (fs nodes p lim s kept id v at) i (g found) id out w a) =
      subst (λ (n : ℕ). TableKeeps p lim (stepped (fs nodes p lim s kept id v at) i (g n) id out w a)) same result.3 in
      let tell : tells found (w, carried_after out a) = subst (λ (n : ℕ). tells n (w, carried_after out a)) same result.4 in
      let next = along s kept at (w, carried_after out a) a keep tell in
      let u : TreeView = next.0 in
      let keep_u : TableKeeps p lim (stepped (fs nodes p lim s kept id v at) i (g found) id out u.floor a) =
      subst (λ (x : View). TableKeeps p lim (stepped (fs nodes p lim s kept id v at) i (g found) id out x a)) (sym next.1) keep in
      let moved = next_step nodes p lim s kept id v at i (g found) low out (out_below lim.tasks mine has) u a result.2 keep_u next.2 in
      subst
      (λ (l : List (ℕ × TreeSlot)). (x : TreeView) × (b : Act TreeSlot) × Valid s.homes l b × TreeKeeps nodes p lim (stepped s i (g found) id l x b) × other found (x, carried_after l b))
      (sym (out_again lim.tasks mine has))
      (u, lift a, moved.0, moved.1, subst (λ (l : List (ℕ × TreeSlot)). other found (u, l)) (sym moved.2) next.3)

  -- a step that draws no entry and changes nothing of nodes
  pub lift_allowed : (slots i : ℕ) (g : ℕ → ℕ) (tells : ℕ → Seat → Type 0) → i < word_count p lim → i ≢ clock_place → Allows (TableKeeps p lim) lim.tasks id (floor_seat (v, mine)) i g tells
      → ((n : ℕ) (me : Seat) → tells n me → me.0.part ≡ v.floor.part)
      → ((s : TreeTable) (kept : TreeKeeps nodes p lim s) (at : get_elem? s.views id ≡ core.some v) (me : Seat) → tells (slice_index s.words i) me → KeepsBeside nodes p lim s kept id v at me.0)
      → Allows (TreeKeeps nodes p lim) slots id (v, mine) i g (TellsFloor tells (v, mine))
  lift_allowed slots i g tells low no_clock allowed part beside =
      lift_step slots i g tells (TellsFloor tells (v, mine)) low allowed
      (λ s kept at me a keep tell. (
        record v { floor = me.0 },
        refl,
        steps_beside nodes p lim s kept id v at i (g (slice_index s.words i)) me.0 no_clock (part (slice_index s.words i) me tell) (beside s kept at me tell),
        (me, tell, refl),
      ))

  -- a step after which the seat has the same turns
  pub quiet : (s : TreeTable) (kept : TreeKeeps nodes p lim s) (at : get_elem? s.views id ≡ core.some v) (w : View) → turn_in w.turns ≡ turn_in v.floor.turns → w.worker ≡ v.floor.worker
      → KeepsBeside nodes p lim s kept id v at w
  quiet s kept at w turns worker =
      let views = (fs nodes p lim s kept id v at).views in
      let here = at_floor nodes p lim s kept id v at in (
        kept.core,
        floor_same nodes p lim (log nodes p lim s kept id v at) (floor_shown p lim s) (tree nodes p lim s kept id v at) kept.core kept.both.nodes_keep (viewed nodes p lim s kept id v at w)
            (seats_kept turns_at views id v.floor w here turns) (seats_kept worker_at views id v.floor w here worker),
      )

  pub load_cell : (t c : ℕ) (any : ℤ) → v.floor.kind ≢ Spent → c < cell_count p → IsLatest (floor_seat (v, mine)) t → MayTouchCell p (floor_seat (v, mine)) t (Reads c any)
      → Allows (TreeKeeps nodes p lim) (tree_slot_count nodes lim) id (v, mine) (cell_place c) (λ n. n) (LoadsTreeCell lim (step (tree_slot_count nodes lim) (cell_place c) 0 0 core.none) (v, mine))
  load_cell t c any live below latest may =
      lift_allowed (tree_slot_count nodes lim) (cell_place c) (λ n. n) (LoadsCell (step lim.tasks (cell_place c) 0 0 core.none) (floor_seat (v, mine))) (omega (arith, below)) (λ same. omega (arith, same))
      (get_cell p lim id t c v.floor (tasks_out mine) any live below latest may)
      (λ n me tell. let read = tell t c refl latest in ap (λ (x : Seat). x.0.part) read.2)
      (λ s kept at me tell. let read = tell t c refl latest in quiet s kept at me.0 (ap (λ (x : Seat). turn_in x.0.turns) read.2) (ap (λ (x : Seat). x.0.worker) read.2))

  pub store_cell : (t c x : ℕ) (value : ℤ) → v.floor.kind ≢ Spent → c < cell_count p → x < 2 ^ 32 → value_of_word x ≡ value → IsLatest (floor_seat (v, mine)) t
      → MayTouchCell p (floor_seat (v, mine)) t (Writes c value)
      → Allows (TreeKeeps nodes p lim) (tree_slot_count nodes lim) id (v, mine) (cell_place c) (λ n. x) (λ n. StoresTreeCell lim (step (tree_slot_count nodes lim) (cell_place c) x 0 core.none) (v, mine) x)
  store_cell t c x value live below few is latest may =
      lift_allowed (tree_slot_count nodes lim) (cell_place c) (λ n. x) (λ n. StoresCell (step lim.tasks (cell_place c) x 0 core.none) (floor_seat (v, mine)) x) (omega (arith, below)) (λ same. omega (arith, same))
      (put_cell p lim id t c v.floor (tasks_out mine) x value live below few is latest may)
      (λ n me tell. ap (λ (x : Seat). x.0.part) (tell t c value refl is latest))
      (λ s kept at me tell.
      let wrote = tell t c value refl is latest in
      quiet s kept at me.0 (ap (λ (x : Seat). turn_in x.0.turns) wrote) (ap (λ (x : Seat). x.0.worker) wrote))
