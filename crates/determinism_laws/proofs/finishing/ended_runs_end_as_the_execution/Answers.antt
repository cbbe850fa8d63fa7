use Rattle.determinism_laws.proofs.EndedAlike.{end_alike, ends_as_the_execution}
use Rattle.determinism_laws.proofs.finishing.ended_runs_end_as_the_execution.Goals as goal

pub returns : goal.returns
returns c = record { execution = ends_as_the_execution; alike = end_alike }
