-- The value is the lowest task that isn't done.
use Rattle.wait_graph.proofs.UndoneLemmas.{IsUndone-lowest}
use Rattle.wait_graph.proofs.walk.lowest_undone.Goals as goal

pub returns-clause-undone : goal.returns-clause-undone
returns-clause-undone c =
    rw (c.unwrap_or.ensures, c.first_undone.ensures) (IsUndone-lowest c.args.links.now c.requires.some.0 c.requires.some.1)
