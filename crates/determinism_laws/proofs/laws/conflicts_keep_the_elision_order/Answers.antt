use Rattle.determinism_laws.proofs.RankOrder.{conflicts_keep_ranks}
use Rattle.determinism_laws.proofs.laws.conflicts_keep_the_elision_order.Goals as goal

pub returns : goal.returns
returns c p lim journal run = conflicts_keep_ranks p run.well_formed run.keeps lim journal run.legal
