use Rattle.std.proofs.Common.{arith}
use Rattle.floor_laws.proofs.table.nodes.Joins.{join_tree}
use Rattle.task_floor.proofs.floor.Floor.join.Goals as goal

pub join_seat-requires : goal.join_seat-requires
join_seat-requires g c =
    let here = c.requires.here.0 in
    let there = c.requires.here.1 in
    let same = c.self.view_is in
    let words = c.self.invariant.3 in
    let me = c.args.stand.now.me in
    let other = c.requires.other in (
      cc (here, same),
      cc (there, same),
      other.1,
      omega (arith, words),
      join_tree g.N.Planted.nodes g.N.Named.prog g.N.Named.lim c.args.stand.now.id c.args.other.id me.0 c.args.other.me.0 c.requires.main other.0 other.2 other.3,
    )
