use Rattle.determinism_laws.proofs.theorem.Played.{executions_played}
use Rattle.determinism_laws.proofs.theorem.executions_are_played.Goals as goal

pub returns : goal.returns
returns c p lim journal run = executions_played p run.well_formed run.keeps lim journal run.legal
