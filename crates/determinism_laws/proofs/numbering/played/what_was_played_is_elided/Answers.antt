use Rattle.determinism_laws.proofs.numbering.Playing.{played_elides}
use Rattle.determinism_laws.proofs.numbering.played.what_was_played_is_elided.Goals as goal

pub returns : goal.returns
returns c = played_elides
