use Rattle.std.proofs.Common.{ℕ, arith, sym, ap, subst, ◌∙◌, w32}
use Rattle.std.proofs.lemmas.Int.{to_z-of_z}
use mathlib.Core.Option.{none}
use Rattle.atomic_table.specs.Table.{Allows, step}
use Rattle.floor_laws.specs.table.Layout.{cell_place}
use Rattle.floor_laws.specs.table.Plays.{StoresCell}
use Rattle.floor_laws.specs.table.Tells.{Seat}
use Rattle.floor_laws.specs.table.nodes.FloorSeats.{StoresTreeCell, floor_seat}
use Rattle.floor_laws.specs.table.nodes.Holds.{TreeKeeps}
use Rattle.floor_laws.specs.table.nodes.Layout.{tree_slot_count}
use Rattle.floor_laws.proofs.table.nodes.FloorCalls.{store_cell}
use Rattle.task_floor.proofs.Told.{stays, told}
use Rattle.task_floor.proofs.floor.Floor.store.Goals as goal

pub store-requires : goal.store-requires
store-requires g c =
    let nodes = g.N.Planted.nodes in
    let p = g.N.Named.prog in
    let lim = g.N.Named.lim in
    let me = c.args.stand.now.me in
    let id = c.args.stand.now.id in
    let place = c.cell_place-place.ensures in
    let words = c.self.invariant.3 in
    let below = c.requires.cell in
    let here = c.requires.here in
    let same = c.self.view_is in
    let may = c.requires.may in
    let x = c.word_of_value.result in
    let count = tree_slot_count nodes lim in
    let P : ℕ → ℕ → Type 0 = λ word slots. Allows (TreeKeeps nodes p lim) slots id me word (λ n. x) (λ n. StoresTreeCell lim (step slots word x 0 none) me x) in
    let allowed : P (cell_place c.args.cell) count =
    store_cell nodes p lim id me.0 me.1 c.requires.slots may.task c.args.cell x c.args.value c.requires.live below c.word_of_value.ensures.0 (c.word_of_value.ensures.1 ∙ to_z-of_z w32 c.args.value c.ranges.value) may.latest may.may in
    let at_word : P c.cell_place-place.result count = subst (λ (w : ℕ). P w count) (sym place) allowed in
    (cc (here, same), omega (arith, words, place, below), subst (P c.cell_place-place.result) (sym c.self.invariant.4) at_word)

pub returns-clause-stored : goal.returns-clause-stored
returns-clause-stored g c t latest =
    let me = c.args.stand.now.me in
    let lim = g.N.Named.lim in
    let x = c.word_of_value.result in
    let tells = StoresCell (step lim.tasks c.cell_place-place.result x 0 none) (floor_seat me) in
    told tells me x c.store.new.seat.me c.store.ensures.2 t c.args.cell c.args.value c.cell_place-place.ensures (c.word_of_value.ensures.1 ∙ to_z-of_z w32 c.args.value c.ranges.value) latest

pub returns-clause-stays : goal.returns-clause-stays
returns-clause-stays g c =
    let may = c.requires.may in
    let me = c.args.stand.now.me in
    let lim = g.N.Named.lim in
    let x = c.word_of_value.result in
    let tells = StoresCell (step lim.tasks c.cell_place-place.result x 0 none) (floor_seat me) in
    let wrote = told tells me x c.store.new.seat.me c.store.ensures.2 may.task c.args.cell c.args.value c.cell_place-place.ensures (c.word_of_value.ensures.1 ∙ to_z-of_z w32 c.args.value c.ranges.value) may.latest in
    stays lim tells me x c.store.new.seat.me c.requires.slots c.store.ensures.2 (ap (λ (m : Seat). m.1) wrote)
