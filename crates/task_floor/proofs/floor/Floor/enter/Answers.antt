-- A try that missed changed nothing.
use Rattle.std.proofs.Common.{sym, subst}
use mathlib.Core.Option.{some}
use Rattle.floor_laws.specs.declared.table.nodes.slot.TreeSlot.TheVariants as kinds
use Rattle.floor_laws.specs.table.nodes.Seats.{MayLock, TookNode, TreeSeat}
use Rattle.task_floor.proofs.floor.Floor.enter.Goals as goal

pub returns-clause-locked : goal.returns-clause-locked
returns-clause-locked g c is next may =
    let said = some (kinds.Errand c.args.errand) in
    let same = c.enter_from.ensures.missed c.if-enter_from.false in
    subst (λ (me : TreeSeat). TookNode g.N.Named.lim me 0 next c.enter_from-2.new.stand.me) same
    (c.enter_from-2.ensures.locked is next (subst (λ (me : TreeSeat). MayLock g.N.Planted.nodes me.0 said 0 next) (sym same) may))
