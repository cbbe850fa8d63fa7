-- Who has not passed by the node is as it was.
use Rattle.std.proofs.Common.{sym, subst}
use mathlib.Core.Option.{none}
use Rattle.floor_laws.specs.table.nodes.Seats.{MayLock, TreeSeat}
use Rattle.tree_admit.specs.Going.{HasLocked}
use Rattle.tree_admit.proofs.locking.take_child.Goals as goal

pub returns-then-passes_bare-clause-lowest : goal.returns-then-passes_bare-clause-lowest
returns-then-passes_bare-clause-lowest g c is = c.passes_bare.ensures.lowest c.if-passes_bare.true

pub returns-then-passes_bare-clause-passed : goal.returns-then-passes_bare-clause-passed
returns-then-passes_bare-clause-passed g c is = c.passes_bare.ensures.passed c.if-passes_bare.true

pub returns-clause-locked : goal.returns-clause-locked
returns-clause-locked g c next may =
    let n = c.args.node in
    let same = c.passes_bare.ensures.missed c.if-passes_bare.false in
    subst (λ (me : TreeSeat). HasLocked g.N.Named.lim me n next c.lock_child.result c.lock_child.new.stand.me) same
    (c.lock_child.ensures.locked next (subst (λ (me : TreeSeat). MayLock g.N.Planted.nodes me.0 none n next) (sym same) may))
