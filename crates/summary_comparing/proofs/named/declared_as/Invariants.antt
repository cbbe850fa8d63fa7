use Rattle.std.proofs.Common.{◌≡◌, drop}
use Rattle.summary_comparing.specs.ChainTexts.{declared_as}
use Rattle.summary_comparing.proofs.named.declared_as.Given as goal

-- it is among what is left, or nowhere
abbrev pub invariant-loop-decl : goal.invariant-loop-decl
invariant-loop-decl l = declared_as l.name (drop l.decl-index l.decls) ≡ declared_as l.name l.decls
