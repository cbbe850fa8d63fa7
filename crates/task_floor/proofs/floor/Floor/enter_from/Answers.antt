use Rattle.std.proofs.Common.{◌≡◌, ◌+◌, ℕ, arith, sym, subst}
use Rattle.std.specs.Prelude.{◌==◌}
use mathlib.Core.Option.{some}
use prog.Atomic.{either}
use Rattle.atomic_table.specs.Table.{Allows, step}
use Rattle.floor_laws.specs.declared.table.nodes.slot.TreeSlot.TheVariants as kinds
use Rattle.floor_laws.specs.table.nodes.Holds.{TreeKeeps}
use Rattle.floor_laws.specs.table.nodes.Layout.{lock_place, taken_lock, tree_slot_count}
use Rattle.floor_laws.specs.table.nodes.Plays.{TriesNode}
use Rattle.floor_laws.proofs.table.nodes.Calls.{try_lock}
use Rattle.task_floor.proofs.Tries.{missed_is, took_is}
use Rattle.task_floor.proofs.floor.Floor.enter_from.Goals as goal

pub compare_exchange_with-found-requires : goal.compare_exchange_with-found-requires
compare_exchange_with-found-requires g c =
    let nodes = g.N.Planted.nodes in
    let p = g.N.Named.prog in
    let lim = g.N.Named.lim in
    let me = c.args.stand.now.me in
    let id = c.args.stand.now.id in
    let place = c.lock_place-place.ensures in
    let words = c.self.invariant.3 in
    let root = c.requires.root in
    let here = c.requires.here in
    let same = c.self.view_is in
    let worker = c.requires.worker in
    let may = c.requires.may in
    let said = some (kinds.Errand c.args.errand) in
    let named : taken_lock me.0.floor.worker ≡ c.args.worker + 2 = omega (arith, worker) in
    let P : ℕ → ℕ → ℕ → Type 0 =
    λ word slots x. Allows (TreeKeeps nodes p lim) slots id me word (λ n. either (n == c.args.free) x n)
    (TriesNode nodes p lim (step slots word c.args.free x said) me) in
    let allowed : P (lock_place p lim 0) (tree_slot_count nodes lim) (taken_lock me.0.floor.worker) = try_lock nodes p lim id 0 me.0 me.1 said may.0 c.args.free c.requires.free may.1 in
    let at_word : P c.lock_place-place.result (tree_slot_count nodes lim) (taken_lock me.0.floor.worker) =
    subst (λ (w : ℕ). P w (tree_slot_count nodes lim) (taken_lock me.0.floor.worker)) (sym place) allowed in
    let with_worker : P c.lock_place-place.result (tree_slot_count nodes lim) (c.args.worker + 2) =
    subst (P c.lock_place-place.result (tree_slot_count nodes lim)) named at_word in
    let with_slots = subst (λ (n : ℕ). P c.lock_place-place.result n (c.args.worker + 2)) (sym c.self.invariant.4) with_worker in
    (cc (here, same), omega (arith, words, place, root), with_slots)

pub returns-clause-locked : goal.returns-clause-locked
returns-clause-locked g c locked next may =
    took_is g.N.Named.lim c.args.stand.now.me 0 next c.args.free c.compare_exchange_with-found.result c.compare_exchange_with-found.new.seat.me locked
    (c.compare_exchange_with-found.ensures.2 0 next c.lock_place-place.ensures may)

pub returns-clause-missed : goal.returns-clause-missed
returns-clause-missed g c missed =
    let may = c.requires.may in
    missed_is g.N.Named.lim c.args.stand.now.me 0 may.0 c.args.free c.compare_exchange_with-found.result c.compare_exchange_with-found.new.seat.me missed
    (c.compare_exchange_with-found.ensures.2 0 may.0 c.lock_place-place.ensures may.1)
