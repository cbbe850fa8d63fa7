use Rattle.std.proofs.Common.{sym, ◌∙◌}
use Rattle.floor_laws.specs.declared.table.nodes.slot.TreeSlot.TheVariants as kinds
use Rattle.task_floor.proofs.Givings.{content_is, has_taken, no_errand, no_task, out_is}
use Rattle.task_floor.proofs.floor.Floor.take_content.Goals as goal

pub exchange-requires : goal.exchange-requires
exchange-requires g c =
    let may = c.requires.may in
    let here = c.requires.here in
    let same = c.self.view_is in
    let me = c.args.stand.now.me in
    let slot = kinds.Node may.1.content in
    (cc (here, same), (slot, out_is g.N.Named.lim me c.args.node c.content_slot-slot.result slot may.0 c.content_slot-slot.ensures may.1.slot))

pub unreachable-requires : goal.unreachable-requires
unreachable-requires g c =
    let may = c.requires.may in
    let is = content_is g.N.Named.lim c.args.stand.now.me c.args.node c.content_slot-slot.result c.exchange.result may.0 may.1 c.exchange.ensures.2 in
    no_task may.1.content _ (sym is ∙ c.in-Task.is)

pub unreachable-requires-in-Errand : goal.unreachable-requires-in-Errand
unreachable-requires-in-Errand g c =
    let may = c.requires.may in
    let is = content_is g.N.Named.lim c.args.stand.now.me c.args.node c.content_slot-slot.result c.exchange.result may.0 may.1 c.exchange.ensures.2 in
    no_errand may.1.content _ (sym is ∙ c.in-Errand.is)

pub returns-clause-taken : goal.returns-clause-taken
returns-clause-taken g c others has =
    has_taken g.N.Named.lim c.args.stand.now.me c.exchange.new.seat.me c.args.node c.content_slot-slot.result c.exchange.result c.in-Node.content others
    c.content_slot-slot.ensures has c.exchange.ensures.2 c.in-Node.is c.exchange.ensures.3
