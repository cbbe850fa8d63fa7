-- A try that missed changed nothing.
use Rattle.std.proofs.Common.{sym, subst}
use mathlib.Core.Option.{none}
use Rattle.floor_laws.specs.table.nodes.Seats.{MayLock, TookNode, TreeSeat}
use Rattle.task_floor.proofs.floor.Floor.go_down.Goals as goal

pub returns-clause-locked : goal.returns-clause-locked
returns-clause-locked g c is next may =
    let n = c.args.node in
    let same = c.go_down_from.ensures.missed c.if-go_down_from.false in
    subst (λ (me : TreeSeat). TookNode g.N.Named.lim me n next c.go_down_from-2.new.stand.me) same
    (c.go_down_from-2.ensures.locked is next (subst (λ (me : TreeSeat). MayLock g.N.Planted.nodes me.0 none n next) (sym same) may))
