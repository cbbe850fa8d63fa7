-- The content is that of the node that was locked.
use Rattle.std.proofs.Common.{ℕ, subst}
use mathlib.Core.Option.{some}
use Rattle.floor_laws.specs.admission.admission_core.States.{Activity}
use Rattle.floor_laws.specs.declared.table.nodes.slot.TreeSlot.TheVariants as kinds
use Rattle.floor_laws.specs.table.nodes.Seats.{MayLock, TookNode, TreeSeat}
use Rattle.tree_admit.proofs.Taking.{took_content, took_locked, took_own}
use Rattle.tree_admit.proofs.locking.lock_root.Goals as goal

pub take_content-requires-clause-may : goal.take_content-requires-clause-may
take_content-requires-clause-may g c =
    let start = c.args.stand.now.me in
    let n : ℕ = 0 in
    let took =
    subst (λ (me : TreeSeat). (next : Activity) → MayLock g.N.Planted.nodes me.0 (some (kinds.Errand c.args.errand)) n next → TookNode g.N.Named.lim me n next c.enter.new.stand.me) c.loop.invariant.me
    (c.enter.ensures.locked c.if-enter.true) in
    (start.1, took_content g.N.Named.lim start n c.requires.may.0 c.enter.new.stand.me (took c.requires.may.0 c.requires.may.1))

pub returns-then-enter-clause-locked : goal.returns-then-enter-clause-locked
returns-then-enter-clause-locked g c = λ next may.
    let start = c.args.stand.now.me in
    let n : ℕ = 0 in
    let lim = g.N.Named.lim in
    let mid = c.enter.new.stand.me in
    let took =
    subst (λ (me : TreeSeat). (next : Activity) → MayLock g.N.Planted.nodes me.0 (some (kinds.Errand c.args.errand)) n next → TookNode lim me n next mid) c.loop.invariant.me
    (c.enter.ensures.locked c.if-enter.true) in
    took_locked lim start n next mid (took next may) c.take_content.result c.take_content.new.stand.me
    (c.take_content.ensures.taken start.1 (took_content lim start n next mid (took next may)))

pub returns-then-enter-clause-own : goal.returns-then-enter-clause-own
returns-then-enter-clause-own g c =
    let start = c.args.stand.now.me in
    let n : ℕ = 0 in
    let lim = g.N.Named.lim in
    let mid = c.enter.new.stand.me in
    let next = c.requires.may.0 in
    let took =
    subst (λ (me : TreeSeat). (next : Activity) → MayLock g.N.Planted.nodes me.0 (some (kinds.Errand c.args.errand)) n next → TookNode lim me n next mid) c.loop.invariant.me
    (c.enter.ensures.locked c.if-enter.true) next c.requires.may.1 in
    took_own lim start n next mid took c.take_content.result c.take_content.new.stand.me (c.take_content.ensures.taken start.1 (took_content lim start n next mid took))
