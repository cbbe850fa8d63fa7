-- The first effects, as many as there are, are all of them.
use Rattle.tree_admit.proofs.Attempts.{each_clear}
use Rattle.tree_admit.proofs.releasing.release.Goals as goal

pub returns-clause-clear : goal.returns-clause-clear
returns-clause-clear g c = each_clear g.N.Planted.nodes c.args.task c.args.effects.now c.args.stand.now.me c.take_out_first.new.stand.me c.take_out_first.ensures.out
