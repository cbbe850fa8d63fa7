use Rattle.determinism_laws.proofs.elision.Building.{ends_at_done, goes_on_at_join, goes_on_at_spawn, runs_as_defined}
use Rattle.determinism_laws.proofs.elision.laws.executions_are_made_of_segments.Goals as goal

pub returns : goal.returns
returns c = record {
  done = ends_at_done;
  joins = λ p lim frame s after on value. goes_on_at_join p lim frame s after on value;
  spawns = λ p lim frame child s between after args effects future place returned value. goes_on_at_spawn p lim frame s child between after args effects future place returned value;
  whole = runs_as_defined;
}
