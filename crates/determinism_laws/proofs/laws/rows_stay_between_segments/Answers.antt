use Rattle.determinism_laws.proofs.RowsBetween.{rows_stay}
use Rattle.determinism_laws.proofs.laws.rows_stay_between_segments.Goals as goal

pub returns : goal.returns
returns c p lim journal run = rows_stay p run.well_formed run.keeps lim journal run.legal
