-- The worker walks below its place, and has it as before.
use Rattle.std.proofs.Common.{[]}
use Rattle.tree_admit.proofs.Looking.{around_walks, walked_ready}
use Rattle.tree_admit.proofs.at_place.walk_around.Goals as goal

pub walk_below-requires-clause-may : goal.walk_below-requires-clause-may
walk_below-requires-clause-may g c =
    let (earlier, rest, may) = c.requires.may in
    (earlier, rest, [], [], around_walks g.N.Planted.nodes g.N.Named.lim earlier rest c.args.errand c.args.effect.now c.args.content c.args.stand.now.me may)

pub returns-in-Ok-clause-ready : goal.returns-in-Ok-clause-ready
returns-in-Ok-clause-ready g c = λ earlier rest may.
    let nodes = g.N.Planted.nodes in
    let lim = g.N.Named.lim in
    let errand = c.args.errand in
    let e = c.args.effect.now in
    let content = c.args.content in
    let me = c.args.stand.now.me in
    let walk = c.in-Ok.ensures.walked earlier rest [] [] (around_walks nodes lim earlier rest errand e content me may) in
    walked_ready nodes lim earlier rest errand e content me may c.in-Ok.content c.walk_below.new.stand.me walk c.in-Ok.ensures.unchanged

pub returns-in-Err-clause-barred : goal.returns-in-Err-clause-barred
returns-in-Err-clause-barred g c = λ earlier rest may.
    let walks = around_walks g.N.Planted.nodes g.N.Named.lim earlier rest c.args.errand c.args.effect.now c.args.content c.args.stand.now.me may in
    let barred = c.in-Err.ensures.barred earlier rest [] [] walks in
    (barred.0, c.requires.kind, barred.1)
