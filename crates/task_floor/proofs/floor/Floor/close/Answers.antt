use Rattle.core.specs.Mem.Slots.{slots_items}
use Rattle.floor_laws.proofs.table.nodes.Closings.{closed_shows}
use Rattle.task_floor.proofs.floor.Floor.close.Goals as goal

pub returns-clause-ended : goal.returns-clause-ended
returns-clause-ended g c =
    let me = c.args.stand.me in
    closed_shows g.N.Planted.nodes g.N.Named.prog g.N.Named.lim c.args.stand.id me.0 (slots_items c.close_with.result.words) (slots_items c.close_with.result.slots) c.requires.main
    c.requires.alone.0 c.requires.alone.1 c.close_with.ensures.values.2
