use Rattle.std.proofs.Common.{◌≡◌, ◌<◌, ℕ, arith, sym, ap, subst, ◌∙◌}
use mathlib.Core.Option.{none}
use Rattle.atomic_table.specs.Table.{Allows, step}
use Rattle.floor_laws.specs.table.nodes.Deciders.{MayDecide}
use Rattle.floor_laws.specs.table.nodes.Holds.{TreeKeeps}
use Rattle.floor_laws.specs.table.nodes.Layout.{decider_place, tree_slot_count}
use Rattle.floor_laws.specs.table.nodes.RecordSeats.{MarksPlaced, record_task}
use Rattle.floor_laws.proofs.table.nodes.MarkCalls as calls
use Rattle.task_floor.proofs.floor.Floor.mark_saying.Goals as goal

pub store-requires : goal.store-requires
store-requires g c =
    let nodes = g.N.Planted.nodes in
    let p = g.N.Named.prog in
    let lim = g.N.Named.lim in
    let me = c.args.stand.now.me in
    let id = c.args.stand.now.id in
    let said = c.args.said in
    let place = c.decider_place-place.ensures in
    let words = c.self.invariant.3 in
    let few = c.requires.task in
    let here = c.requires.here in
    let same = c.self.view_is in
    let may = c.requires.may in
    let t = record_task may.0.purpose in
    let low : t < lim.tasks = subst (λ (u : ℕ). u < lim.tasks) (sym may.2) few in
    let says : MayDecide me.0 t may.0.place may.1 said = subst (λ (u : ℕ). MayDecide me.0 u may.0.place may.1 said) (sym may.2) may.3 in
    let P : ℕ → ℕ → Type 0 = λ word slots. Allows (TreeKeeps nodes p lim) slots id me word (λ n. said) (λ n. MarksPlaced nodes p lim (step slots word said 0 none) me said) in
    let allowed : P (decider_place p lim t) (tree_slot_count nodes lim) = calls.mark_placed nodes p lim id me.0 me.1 may.0 may.1 said low says may.4 in
    let there : c.decider_place-place.result ≡ decider_place p lim t = place ∙ ap (decider_place p lim) (sym may.2) in
    let at_word : P c.decider_place-place.result (tree_slot_count nodes lim) = subst (λ (w : ℕ). P w (tree_slot_count nodes lim)) (sym there) allowed in
    (cc (here, same), omega (arith, words, place, few), subst (P c.decider_place-place.result) (sym c.self.invariant.4) at_word)

pub returns-clause-marked : goal.returns-clause-marked
returns-clause-marked g c a content may = c.store.ensures.2 a content may
