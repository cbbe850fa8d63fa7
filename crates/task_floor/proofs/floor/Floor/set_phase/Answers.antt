use Rattle.std.proofs.Common.{ℕ, arith, sym, ap, subst}
use mathlib.Core.Option.{none}
use Rattle.atomic_table.specs.Table.{Allows, step}
use Rattle.floor_laws.specs.table.Layout.{phase_place, word_of_phase}
use Rattle.floor_laws.specs.table.Plays.{StoresPhase}
use Rattle.floor_laws.specs.table.Tells.{Seat}
use Rattle.floor_laws.specs.table.nodes.FloorSeats.{StoresTreePhase, floor_seat}
use Rattle.floor_laws.specs.table.nodes.Holds.{TreeKeeps}
use Rattle.floor_laws.specs.table.nodes.Layout.{tree_slot_count}
use Rattle.floor_laws.proofs.table.nodes.PhaseCalls.{store_phase}
use Rattle.task_floor.proofs.Told.{stays, told}
use Rattle.task_floor.proofs.floor.Floor.set_phase.Goals as goal

pub store-requires : goal.store-requires
store-requires g c =
    let nodes = g.N.Planted.nodes in
    let p = g.N.Named.prog in
    let lim = g.N.Named.lim in
    let me = c.args.stand.now.me in
    let id = c.args.stand.now.id in
    let place = c.phase_place-place.ensures in
    let words = c.self.invariant.3 in
    let below = c.requires.task in
    let here = c.requires.here in
    let same = c.self.view_is in
    let may = c.requires.may in
    let count = tree_slot_count nodes lim in
    let P : ℕ → ℕ → ℕ → Type 0 = λ word slots x. Allows (TreeKeeps nodes p lim) slots id me word (λ n. x) (λ n. StoresTreePhase p lim (step slots word x 0 none) me x) in
    let allowed : P (phase_place p c.args.task) count (word_of_phase c.args.phase) = store_phase nodes p lim id me.0 me.1 c.requires.slots c.args.task may.0 c.args.phase c.requires.live below may.1 in
    let at_word : P c.phase_place-place.result count (word_of_phase c.args.phase) = subst (λ (w : ℕ). P w count (word_of_phase c.args.phase)) (sym place) allowed in
    let with_word : P c.phase_place-place.result count c.word_of.result = subst (P c.phase_place-place.result count) (sym c.word_of.ensures) at_word in
    (cc (here, same), omega (arith, words, place, below), subst (λ (n : ℕ). P c.phase_place-place.result n c.word_of.result) (sym c.self.invariant.4) with_word)

pub returns-clause-stored : goal.returns-clause-stored
returns-clause-stored g c turn may =
    let me = c.args.stand.now.me in
    let lim = g.N.Named.lim in
    let x = c.word_of.result in
    let tells = StoresPhase g.N.Named.prog (step lim.tasks c.phase_place-place.result x 0 none) (floor_seat me) in
    told tells me x c.store.new.seat.me c.store.ensures.2 c.args.task turn c.args.phase c.phase_place-place.ensures c.word_of.ensures may

pub returns-clause-stays : goal.returns-clause-stays
returns-clause-stays g c =
    let may = c.requires.may in
    let me = c.args.stand.now.me in
    let lim = g.N.Named.lim in
    let x = c.word_of.result in
    let tells = StoresPhase g.N.Named.prog (step lim.tasks c.phase_place-place.result x 0 none) (floor_seat me) in
    let stored = told tells me x c.store.new.seat.me c.store.ensures.2 c.args.task may.0 c.args.phase c.phase_place-place.ensures c.word_of.ensures may.1 in
    stays lim tells me x c.store.new.seat.me c.requires.slots c.store.ensures.2 (ap (λ (m : Seat). m.1) stored)
