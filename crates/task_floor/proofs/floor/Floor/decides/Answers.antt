use Rattle.std.proofs.Common.{◌+◌, ℕ, arith, sym, subst}
use Rattle.std.proofs.lemmas.Bool.{eqb-true}
use mathlib.Core.Option.{none}
use Rattle.atomic_table.specs.Table.{Allows, step}
use Rattle.floor_laws.specs.table.nodes.Deciders.{LooksUpDecider}
use Rattle.floor_laws.specs.table.nodes.Holds.{TreeKeeps}
use Rattle.floor_laws.specs.table.nodes.Layout.{decider_place, tree_slot_count}
use Rattle.floor_laws.proofs.table.nodes.Deciding.{look_up}
use Rattle.task_floor.proofs.floor.Floor.decides.Goals as goal

pub load-found-requires : goal.load-found-requires
load-found-requires g c =
    let nodes = g.N.Planted.nodes in
    let p = g.N.Named.prog in
    let lim = g.N.Named.lim in
    let me = c.args.stand.now.me in
    let id = c.args.stand.now.id in
    let place = c.decider_place-place.ensures in
    let words = c.self.invariant.3 in
    let few = c.requires.task in
    let here = c.requires.here in
    let same = c.self.view_is in
    let count = tree_slot_count nodes lim in
    let P : ℕ → ℕ → Type 0 = λ word slots. Allows (TreeKeeps nodes p lim) slots id me word (λ n. n) (LooksUpDecider p lim (step slots word 0 0 none) me) in
    let allowed : P (decider_place p lim c.args.task) count = look_up nodes p lim id c.args.task me.0 me.1 few in
    let at_word : P c.decider_place-place.result count = subst (λ (w : ℕ). P w count) (sym place) allowed in
    (cc (here, same), omega (arith, words, place, few), subst (P c.decider_place-place.result) (sym c.self.invariant.4) at_word)

pub returns-clause-told : goal.returns-clause-told
returns-clause-told g c =
    (c.load-found.result, c.load-found.ensures.2 c.args.task c.requires.task c.decider_place-place.ensures, λ is. let same = eqb-true c.load-found.result (c.args.node + 1) is in omega (arith, same))
