use Rattle.std.proofs.Common.{ap}
use Rattle.machine_state.specs.Moves.{frame_without_prints}
use Rattle.determinism_laws.proofs.numbering.BetweenSegments.{entry_renumbered, given_renumbered, made_renumbered, numberings_agree}
use Rattle.determinism_laws.proofs.numbering.laws.frames_keep_their_numbers.Goals as goal

pub returns : goal.returns
returns c = record {
  entry = λ p to task number fuel args. entry_renumbered to p task number fuel args;
  given = λ to frame other value. given_renumbered to frame other value;
  printed = λ to frame other same. ap frame_without_prints same;
  made = λ to frame other future child spawned. made_renumbered to frame other future child spawned;
  agree = λ to renumber frame other. numberings_agree to renumber frame other;
}
