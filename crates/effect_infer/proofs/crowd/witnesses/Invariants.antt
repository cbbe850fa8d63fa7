use Rattle.effect_infer.specs.Crowded.{AreWitnesses}
use Rattle.effect_infer.proofs.crowd.witnesses.Given as goal

-- those so far were found
abbrev pub invariant-loop-place : goal.invariant-loop-place
invariant-loop-place l = AreWitnesses l.all l.method l.least l.needs
