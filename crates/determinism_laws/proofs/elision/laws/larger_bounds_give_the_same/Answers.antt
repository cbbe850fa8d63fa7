use Rattle.determinism_laws.specs.elision.Elision.{frame_at_start, most_segments, progress_at_start, run_within}
use Rattle.determinism_laws.proofs.elision.Within.{is_over, most_is_enough, over_is, run_ends, same_within}
use Rattle.determinism_laws.proofs.elision.laws.larger_bounds_give_the_same.Goals as goal

pub returns : goal.returns
returns c = record {
  larger = λ p lim n m frame s le other. same_within p lim n m frame s le (is_over (run_within p lim n frame s) other);
  enough = λ p lim task args cells some.
      over_is _ (run_ends p lim (most_segments lim) (frame_at_start p lim task args) (progress_at_start cells) (most_is_enough p lim task args cells some));
}
