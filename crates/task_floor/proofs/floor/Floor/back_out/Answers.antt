use Rattle.std.proofs.Common.{ℕ, arith, sym, subst}
use mathlib.Core.Option.{none}
use Rattle.atomic_table.specs.Table.{Allows, step}
use Rattle.floor_laws.specs.table.nodes.Holds.{TreeKeeps}
use Rattle.floor_laws.specs.table.nodes.Layout.{left_lock, lock_place, tree_slot_count}
use Rattle.floor_laws.specs.table.nodes.Plays.{SeatStopsAt}
use Rattle.floor_laws.specs.table.nodes.Seats.{MayStop}
use Rattle.floor_laws.specs.declared.table.nodes.view.TreeView.{TreeView}
use Rattle.floor_laws.proofs.table.nodes.Calls.{stop_at}
use Rattle.task_floor.proofs.Givings.{gave_from, has_content, same_view}
use Rattle.task_floor.proofs.floor.Floor.back_out.Goals as goal

pub give_content-requires-clause-may : goal.give_content-requires-clause-may
give_content-requires-clause-may g c =
    let may = c.requires.may in
    (may.1, may.3.slot)

pub store-requires : goal.store-requires
store-requires g c =
    let nodes = g.N.Planted.nodes in
    let p = g.N.Named.prog in
    let lim = g.N.Named.lim in
    let me = c.args.stand.now.me in
    let mid = c.give_content.new.stand.me in
    let id = c.give_content.new.stand.id in
    let n = c.args.node in
    let place = c.lock_place-place.ensures in
    let words = c.self.invariant.3 in
    let below = c.requires.node in
    let here = c.requires.here in
    let same = c.self.view_is in
    let still = c.give_content.ensures.same.0 in
    let may = c.requires.may in
    let given = c.give_content.ensures.given may.1 may.3.slot in
    let view = same_view lim me mid n c.args.content may.1 given in
    let P : ℕ → ℕ → ℕ → Type 0 =
    λ x word slots. Allows (TreeKeeps nodes p lim) slots id mid word (λ k. x) (λ k. SeatStopsAt p lim (step slots word x 0 none) mid x) in
    let allowed : P (left_lock c.args.content) (lock_place p lim n) (tree_slot_count nodes lim) =
    stop_at nodes p lim id n mid.0 mid.1 may.1 may.0 (subst (λ (v : TreeView). MayStop v n may.0) (sym view) may.2)
    (has_content lim me mid n c.args.content may.1 may.3 given) in
    let at_place : P (left_lock c.args.content) c.lock_place-place.result (tree_slot_count nodes lim) =
    subst (λ (w : ℕ). P (left_lock c.args.content) w (tree_slot_count nodes lim)) (sym place) allowed in
    let at_word : P c.word_left-word.result c.lock_place-place.result (tree_slot_count nodes lim) =
    subst (λ (x : ℕ). P x c.lock_place-place.result (tree_slot_count nodes lim)) (sym c.word_left-word.ensures) at_place in
    (cc (here, same, still), omega (arith, words, place, below), subst (P c.word_left-word.result c.lock_place-place.result) (sym c.self.invariant.4) at_word)

pub returns-clause-gave : goal.returns-clause-gave
returns-clause-gave g c next others may hand =
    let lim = g.N.Named.lim in
    let me = c.args.stand.now.me in
    let mid = c.give_content.new.stand.me in
    let n = c.args.node in
    let given = c.give_content.ensures.given others hand.slot in
    let view = same_view lim me mid n c.args.content others given in
    gave_from me mid c.store.new.seat.me n next others view
    (c.store.ensures.2 n next others c.lock_place-place.ensures (subst (λ (v : TreeView). MayStop v n next) (sym view) may)
    (has_content lim me mid n c.args.content others hand given))
