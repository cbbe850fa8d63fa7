use Rattle.std.proofs.Common.{ℕ, arith, sym, subst}
use mathlib.Core.Option.{none}
use Rattle.atomic_table.specs.Table.{Allows, step}
use Rattle.floor_laws.specs.table.nodes.Holds.{TreeKeeps}
use Rattle.floor_laws.specs.table.nodes.Layout.{lock_place, tree_slot_count}
use Rattle.floor_laws.specs.table.nodes.Plays.{PassesNode}
use Rattle.floor_laws.proofs.table.nodes.PassingBy as calls
use Rattle.task_floor.proofs.Tries.{kept_is, passed_is}
use Rattle.task_floor.proofs.floor.Floor.pass_by.Goals as goal

pub load-found-requires : goal.load-found-requires
load-found-requires g c =
    let nodes = g.N.Planted.nodes in
    let p = g.N.Named.prog in
    let lim = g.N.Named.lim in
    let me = c.args.stand.now.me in
    let id = c.args.stand.now.id in
    let place = c.lock_place-place.ensures in
    let words = c.self.invariant.3 in
    let below = c.requires.node in
    let here = c.requires.here in
    let same = c.self.view_is in
    let may = c.requires.may in
    let count = tree_slot_count nodes lim in
    let P : ℕ → ℕ → Type 0 = λ word slots. Allows (TreeKeeps nodes p lim) slots id me word (λ n. n) (PassesNode nodes p lim (step slots word 0 0 none) me) in
    let allowed : P (lock_place p lim c.args.node) count = calls.pass_by nodes p lim id c.args.node me.0 me.1 may.0 may.1 in
    let at_word : P c.lock_place-place.result count = subst (λ (w : ℕ). P w count) (sym place) allowed in
    (cc (here, same), omega (arith, words, place, below), subst (P c.lock_place-place.result) (sym c.self.invariant.4) at_word)

pub returns-clause-passed : goal.returns-clause-passed
returns-clause-passed g c is next may =
    passed_is c.args.stand.now.me next c.load-found.result c.load-found.new.seat.me is (c.load-found.ensures.2 c.args.node next c.lock_place-place.ensures may)

pub returns-clause-missed : goal.returns-clause-missed
returns-clause-missed g c other =
    let may = c.requires.may in
    kept_is c.args.stand.now.me may.0 c.load-found.result c.load-found.new.seat.me other (c.load-found.ensures.2 c.args.node may.0 c.lock_place-place.ensures may.1)
