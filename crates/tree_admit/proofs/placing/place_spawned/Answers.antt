-- The first effects, as many as there are, are all of them.
use Rattle.tree_admit.proofs.Attempts.{each_placed}
use Rattle.tree_admit.proofs.placing.place_spawned.Goals as goal

pub returns-in-Ok-clause-placed : goal.returns-in-Ok-clause-placed
returns-in-Ok-clause-placed g c = each_placed g.N.Planted.nodes c.args.child c.args.effects.now c.args.stand.now.me c.place_all.new.stand.me c.in-Ok.ensures.all
