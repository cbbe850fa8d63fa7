use Rattle.std.proofs.Common.{◌≡◌, ℕ, ℤ, arith, sym, ap, subst, ◌∙◌, w32, FitsSigned}
use Rattle.std.proofs.lemmas.Int.{ints, to_z-of_z}
use mathlib.Core.Option.{none}
use Rattle.atomic_table.specs.Table.{Allows, step}
use Rattle.floor_laws.specs.declared.rule.view.Touch.TheVariants.{Read}
use Rattle.floor_laws.specs.table.Layout.{cell_place}
use Rattle.floor_laws.specs.table.Plays.{LoadsCell}
use Rattle.floor_laws.specs.table.Tells.{IsLastTouch, Seat, with_touch}
use Rattle.floor_laws.specs.table.nodes.FloorSeats.{LoadsTreeCell, floor_seat}
use Rattle.floor_laws.specs.table.nodes.Holds.{TreeKeeps}
use Rattle.floor_laws.specs.table.nodes.Layout.{tree_slot_count}
use Rattle.floor_laws.proofs.table.nodes.FloorCalls.{load_cell}
use Rattle.task_floor.proofs.Told.{stays, told}
use Rattle.task_floor.proofs.floor.Floor.load.Goals as goal

pub load-word-requires : goal.load-word-requires
load-word-requires g c =
    let nodes = g.N.Planted.nodes in
    let p = g.N.Named.prog in
    let lim = g.N.Named.lim in
    let me = c.args.stand.now.me in
    let id = c.args.stand.now.id in
    let place = c.cell_place-place.ensures in
    let words = c.self.invariant.3 in
    let below = c.requires.cell in
    let here = c.requires.here in
    let same = c.self.view_is in
    let may = c.requires.may in
    let count = tree_slot_count nodes lim in
    let P : ℕ → ℕ → Type 0 = λ word slots. Allows (TreeKeeps nodes p lim) slots id me word (λ n. n) (LoadsTreeCell lim (step slots word 0 0 none) me) in
    let allowed : P (cell_place c.args.cell) count = load_cell nodes p lim id me.0 me.1 c.requires.slots may.1.task c.args.cell may.0 c.requires.live below may.1.latest may.1.may in
    let at_word : P c.cell_place-place.result count = subst (λ (w : ℕ). P w count) (sym place) allowed in
    (cc (here, same), omega (arith, words, place, below), subst (P c.cell_place-place.result) (sym c.self.invariant.4) at_word)

pub value_of-requires : goal.value_of-requires
value_of-requires g c =
    let may = c.requires.may.1 in
    let me = c.args.stand.now.me in
    let lim = g.N.Named.lim in
    let tells = LoadsCell (step lim.tasks c.cell_place-place.result 0 0 none) (floor_seat me) in
    (told tells me c.load-word.result c.load-word.new.seat.me c.load-word.ensures.2 may.task c.args.cell c.cell_place-place.ensures may.latest).0

pub returns-clause-loaded : goal.returns-clause-loaded
returns-clause-loaded g c t latest =
    let me = c.args.stand.now.me in
    let lim = g.N.Named.lim in
    let after = c.load-word.new.seat.me in
    let was : Seat = floor_seat me in
    let tells = LoadsCell (step lim.tasks c.cell_place-place.result 0 0 none) was in
    let read = told tells me c.load-word.result after c.load-word.ensures.2 t c.args.cell c.cell_place-place.ensures latest in
    let small = read.0 in
    let is = c.value_of.ensures in
    let fits : FitsSigned w32 c.value_of.result = omega (arith, ints, small, is) in
    subst (λ (value : ℤ). floor_seat after ≡ (with_touch was.0 t (Read c.args.cell value), was.1)) (sym (to_z-of_z w32 c.value_of.result fits ∙ is)) read.2

pub returns-clause-last : goal.returns-clause-last
returns-clause-last g c =
    let may = c.requires.may.1 in
    let me = c.args.stand.now.me in
    let lim = g.N.Named.lim in
    let was : Seat = floor_seat me in
    let tells = LoadsCell (step lim.tasks c.cell_place-place.result 0 0 none) was in
    let read = told tells me c.load-word.result c.load-word.new.seat.me c.load-word.ensures.2 may.task c.args.cell c.cell_place-place.ensures may.latest in
    let small = read.0 in
    let is = c.value_of.ensures in
    let fits : FitsSigned w32 c.value_of.result = omega (arith, ints, small, is) in
    subst (IsLastTouch was c.args.cell) (sym (to_z-of_z w32 c.value_of.result fits ∙ is)) read.1

pub returns-clause-stays : goal.returns-clause-stays
returns-clause-stays g c =
    let may = c.requires.may.1 in
    let me = c.args.stand.now.me in
    let lim = g.N.Named.lim in
    let tells = LoadsCell (step lim.tasks c.cell_place-place.result 0 0 none) (floor_seat me) in
    let read = told tells me c.load-word.result c.load-word.new.seat.me c.load-word.ensures.2 may.task c.args.cell c.cell_place-place.ensures may.latest in
    stays lim tells me c.load-word.result c.load-word.new.seat.me c.requires.slots c.load-word.ensures.2 (ap (λ (m : Seat). m.1) read.2)
