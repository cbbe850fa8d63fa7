use Rattle.held_span.proofs.Sharing.{shared-iff}
use Rattle.held_span.proofs.mark_laws.shared_marks_tell_interference.Goals as goal

pub returns : goal.returns
returns c = λ lists marks are a b first second at_a at_b. shared-iff lists marks are a b first second at_a at_b
