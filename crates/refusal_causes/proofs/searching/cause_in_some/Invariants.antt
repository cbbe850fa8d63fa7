use Rattle.std.proofs.Common.{take}
use Rattle.std.specs.List.{All}
use Rattle.refusal_causes.specs.inner.Keeping.{KeepsThere}
use Rattle.refusal_causes.proofs.searching.cause_in_some.Given as goal

-- no declaration so far fails the rule
abbrev pub invariant-loop-decl : goal.invariant-loop-decl
invariant-loop-decl l = All (KeepsThere l.p l.rule l.place) (take l.decl-index l.decls)
