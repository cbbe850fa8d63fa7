use Rattle.std.proofs.Common.{take}
use Rattle.summary_comparing.specs.Chained.{AreEach, IsNeedChain}
use Rattle.summary_comparing.proofs.chain.chains_of.Given as goal

-- the effects so far have theirs
abbrev pub invariant-loop-effect : goal.invariant-loop-effect
invariant-loop-effect l = AreEach (IsNeedChain l.p l.summaries l.decl) (take l.effect-index l.effects) l.chains
