use Rattle.floor_laws.specs.declared.table.nodes.slot.TreeSlot.TheVariants as kinds
use Rattle.task_floor.specs.Contents.{nothing}
use Rattle.task_floor.proofs.Givings.{exchanged, out_is}
use Rattle.task_floor.proofs.floor.Floor.give_content.Goals as goal

pub exchange-nothing-requires : goal.exchange-nothing-requires
exchange-nothing-requires g c =
    let may = c.requires.may in
    let here = c.requires.here in
    let same = c.self.view_is in
    let me = c.args.stand.now.me in
    (cc (here, same), (nothing, out_is g.N.Named.lim me c.args.node c.content_slot-slot.result nothing may.0 c.content_slot-slot.ensures may.1))

pub returns-clause-given : goal.returns-clause-given
returns-clause-given g c others out =
    exchanged g.N.Named.lim c.args.stand.now.me c.exchange-nothing.new.seat.me c.args.node c.content_slot-slot.result nothing
    (kinds.Node c.args.content) others c.content_slot-slot.ensures out c.exchange-nothing.ensures.3
