use Rattle.std.proofs.Common.{arith}
use Rattle.floor_laws.proofs.table.nodes.Splits.{split_tree}
use Rattle.task_floor.proofs.floor.Floor.split.Goals as goal

pub split_seat-requires : goal.split_seat-requires
split_seat-requires g c =
    let here = c.requires.here in
    let same = c.self.view_is in
    let words = c.self.invariant.3 in
    let me = c.args.stand.now.me in
    (cc (here, same), omega (arith, words), split_tree g.N.Planted.nodes g.N.Named.prog g.N.Named.lim c.args.stand.now.id me.0 c.requires.main)
