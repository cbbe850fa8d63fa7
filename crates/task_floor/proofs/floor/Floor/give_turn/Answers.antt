use Rattle.std.proofs.Common.{◌≢◌, ℕ, List, ◌∷◌, None, arith, sym, ap, subst, ◌∙◌}
use mathlib.Core.Option.{none}
use Rattle.atomic_table.specs.Table.{Allows, rest, step}
use Rattle.floor_laws.specs.declared.table.view.SeatKind.TheVariants.{Spent}
use Rattle.floor_laws.specs.table.Layout.{free_word, turn_place}
use Rattle.floor_laws.specs.declared.table.nodes.slot.TreeSlot.{TreeSlot}
use Rattle.floor_laws.specs.declared.table.nodes.slot.TreeSlot.TheVariants as kinds
use Rattle.floor_laws.specs.table.nodes.Holds.{TreeKeeps}
use Rattle.floor_laws.specs.table.nodes.Layout.{tree_slot_count}
use Rattle.floor_laws.specs.table.nodes.Seats.{TreeSeat}
use Rattle.floor_laws.specs.table.nodes.TurnSeats.{GivesTreeTurn, given_tree_view}
use Rattle.floor_laws.proofs.table.nodes.Gives.{give_tree_turn}
use Rattle.task_floor.proofs.Taking.{has_full, may_give_tree}
use Rattle.task_floor.proofs.floor.Floor.give_turn.Goals as goal

pub exchange-empty-requires : goal.exchange-empty-requires
exchange-empty-requires g c =
    let here = c.requires.here in
    let same = c.self.view_is in
    let out = c.requires.may.2.out in
    (cc (here, same), (kinds.Task None, out ∙ ap (λ (l : List (ℕ × TreeSlot)). (c.args.task, kinds.Task None) ∷ l) (sym (ap rest out))))

pub store-requires : goal.store-requires
store-requires g c =
    let nodes = g.N.Planted.nodes in
    let p = g.N.Named.prog in
    let lim = g.N.Named.lim in
    let me = c.args.stand.now.me in
    let mid = c.exchange-empty.new.seat.me in
    let id = c.exchange-empty.new.seat.id in
    let place = c.turn_place-place.ensures in
    let words = c.self.invariant.3 in
    let below = c.requires.task in
    let here = c.requires.here in
    let same = c.self.view_is in
    let still = c.exchange-empty.ensures.0 in
    let may = c.requires.may in
    let seat = c.exchange-empty.ensures.3 in
    let count = tree_slot_count nodes lim in
    let live : mid.0.floor.kind ≢ Spent = λ spent. c.requires.live (sym (ap (λ (m : TreeSeat). m.0.floor.kind) seat) ∙ spent) in
    let P : ℕ → ℕ → Type 0 = λ word slots. Allows (TreeKeeps nodes p lim) slots id mid word (λ n. free_word) (λ n. GivesTreeTurn nodes p (step slots word free_word 0 none) mid free_word) in
    let allowed : P (turn_place p c.args.task) count =
    give_tree_turn nodes p lim id mid.0 mid.1 (has_full nodes me mid c.args.task c.args.slot may.0 may.1 may.2 seat lim.tasks c.requires.slots) c.args.task may.0 may.1
    (may_give_tree nodes me mid c.args.task c.args.slot may.0 may.1 may.2 seat) live below in
    let at_word : P c.turn_place-place.result count = subst (λ (w : ℕ). P w count) (sym place) allowed in
    (cc (here, same, still), omega (arith, words, place, below), subst (P c.turn_place-place.result) (sym c.self.invariant.4) at_word)

pub returns-clause-gave : goal.returns-clause-gave
returns-clause-gave g c turn others may =
    let nodes = g.N.Planted.nodes in
    let me = c.args.stand.now.me in
    let mid = c.exchange-empty.new.seat.me in
    let seat = c.exchange-empty.ensures.3 in
    c.store.ensures.2 c.args.task turn others c.turn_place-place.ensures (may_give_tree nodes me mid c.args.task c.args.slot turn others may seat)
    ∙ ap (λ (m : TreeSeat). (given_tree_view m.0 c.args.task turn, others)) seat
