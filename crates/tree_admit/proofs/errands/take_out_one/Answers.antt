-- Nobody is in the way of who takes a record out.
use Rattle.std.proofs.Common.{[]}
use Rattle.tree_admit.proofs.Putting.{arrived}
use Rattle.tree_admit.proofs.errands.take_out_one.Goals as goal

pub take_out-requires-clause-may : goal.take_out-requires-clause-may
take_out-requires-clause-may g c =
    let start = c.args.stand.now.me in
    let has = arrived g.N.Named.lim start.0 start.1 c.args.errand c.args.effect.now c.in-Ok.content c.descend.new.stand.me c.in-Ok.ensures.there in
    (start.0, start.1, [], c.requires.knows.0, c.requires.knows.1, has, c.requires.outside.none c.args.errand.place, c.in-Ok.ensures.own)

pub returns-clause-taken : goal.returns-clause-taken
returns-clause-taken g c =
    let start = c.args.stand.now.me in
    let has = arrived g.N.Named.lim start.0 start.1 c.args.errand c.args.effect.now c.in-Ok.content c.descend.new.stand.me c.in-Ok.ensures.there in
    c.take_out.ensures.taken start.0 start.1 [] c.requires.knows.0 c.requires.knows.1 has (c.requires.outside.none c.args.errand.place) c.in-Ok.ensures.own
