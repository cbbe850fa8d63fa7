use Rattle.determinism_laws.proofs.RankLaws.{ranks_once, segments_once, segments_ordered, segments_ranked}
use Rattle.determinism_laws.proofs.laws.ranks_order_the_segments.Goals as goal

pub returns : goal.returns
returns c = record {
  all = λ p lim journal run. segments_ranked p run.well_formed run.keeps lim journal run.legal;
  one_rank = λ p lim journal run. segments_once p run.well_formed run.keeps lim journal run.legal;
  one_segment = λ p lim journal run. ranks_once p run.well_formed run.keeps lim journal run.legal;
  in_order = λ p lim journal run. segments_ordered p run.well_formed run.keeps lim journal run.legal;
}
