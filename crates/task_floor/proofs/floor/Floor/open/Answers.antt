use Rattle.std.proofs.Common.{List, sym, subst}
use Rattle.atomic_table.specs.Table.{opening}
use Rattle.floor_laws.specs.declared.table.nodes.slot.TreeSlot.{TreeSlot}
use Rattle.floor_laws.specs.table.nodes.Holds.{TreeKeeps, first_tree_view}
use Rattle.floor_laws.proofs.table.nodes.Starts.{opens}
use Rattle.task_floor.proofs.floor.Floor.open.Goals as goal

pub new-requires : goal.new-requires
new-requires g c =
    let nodes = g.N.Planted.nodes in
    let p = g.N.Named.prog in
    let lim = g.N.Named.lim in
    let words = c.args.words.now in
    let log = c.args.start.now.part in
    let records = c.args.start.now.records in
    let accepted = c.requires.accepted in
    let st = c.requires.shows.0 in
    let shows = c.requires.shows.1 in
    subst (λ (slots : List TreeSlot). TreeKeeps nodes p lim (opening words slots (first_tree_view log records))) (sym c.into_vec.ensures)
    (opens nodes p lim log st records accepted.0 accepted.1 c.requires.nodes accepted.2 shows.run shows.order shows.prints shows.enabled words c.args.slots shows.laid)
