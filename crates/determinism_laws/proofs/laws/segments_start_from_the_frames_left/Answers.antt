use Rattle.determinism_laws.proofs.FinalValues.{ends_give_values}
use Rattle.determinism_laws.proofs.FirstFrames.{children_begin}
use Rattle.determinism_laws.proofs.FramesFollow.{joins_take_values, makers_go_on}
use Rattle.determinism_laws.proofs.laws.segments_start_from_the_frames_left.Goals as goal

pub returns : goal.returns
returns c = record {
  joins = λ p lim journal run. joins_take_values p run.well_formed run.keeps lim journal run.legal;
  makes = λ p lim journal run. makers_go_on p run.well_formed run.keeps lim journal run.legal;
  ends = λ p lim journal run. ends_give_values p run.well_formed run.keeps lim journal run.legal;
  children = λ p lim journal run. children_begin p run.well_formed run.keeps lim journal run.legal;
}
