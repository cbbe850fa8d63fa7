use Rattle.std.proofs.Common.{◌≡◌, ◌+◌, ℕ, arith, sym, ap, subst, ◌∙◌}
use mathlib.Core.Option.{none}
use Rattle.atomic_table.specs.Table.{Allows, step}
use Rattle.floor_laws.specs.table.nodes.Holds.{TreeKeeps}
use Rattle.floor_laws.specs.table.nodes.Layout.{lock_place, taken_lock, tree_slot_count}
use Rattle.floor_laws.specs.table.nodes.RecordSeats.{MarksPlaced}
use Rattle.floor_laws.proofs.table.nodes.MarkCalls as calls
use Rattle.task_floor.proofs.floor.Floor.mark_past.Goals as goal

pub store-requires : goal.store-requires
store-requires g c =
    let nodes = g.N.Planted.nodes in
    let p = g.N.Named.prog in
    let lim = g.N.Named.lim in
    let me = c.args.stand.now.me in
    let id = c.args.stand.now.id in
    let place = c.lock_place-place.ensures in
    let words = c.self.invariant.3 in
    let below = c.requires.node in
    let here = c.requires.here in
    let same = c.self.view_is in
    let worker = c.requires.worker in
    let may = c.requires.may in
    let named : taken_lock me.0.floor.worker ≡ c.args.worker + 2 = omega (arith, worker) in
    let P : ℕ → ℕ → ℕ → Type 0 =
    λ word slots x. Allows (TreeKeeps nodes p lim) slots id me word (λ n. x) (λ n. MarksPlaced nodes p lim (step slots word x 0 none) me x) in
    let allowed : P (lock_place p lim may.0.place) (tree_slot_count nodes lim) (taken_lock me.0.floor.worker) =
    calls.mark_placed_past nodes p lim id me.0 me.1 may.0 may.1 may.3 may.4 in
    let there : c.lock_place-place.result ≡ lock_place p lim may.0.place = place ∙ ap (lock_place p lim) (sym may.2) in
    let at_word : P c.lock_place-place.result (tree_slot_count nodes lim) (taken_lock me.0.floor.worker) =
    subst (λ (w : ℕ). P w (tree_slot_count nodes lim) (taken_lock me.0.floor.worker)) (sym there) allowed in
    let with_worker : P c.lock_place-place.result (tree_slot_count nodes lim) (c.args.worker + 2) =
    subst (P c.lock_place-place.result (tree_slot_count nodes lim)) named at_word in
    let with_slots = subst (λ (n : ℕ). P c.lock_place-place.result n (c.args.worker + 2)) (sym c.self.invariant.4) with_worker in
    (cc (here, same), omega (arith, words, place, below), with_slots)

pub returns-clause-marked : goal.returns-clause-marked
returns-clause-marked g c a content may = c.store.ensures.2 a content may
