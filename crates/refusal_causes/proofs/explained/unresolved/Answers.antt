use Rattle.std.proofs.Common.{subst}
use Rattle.twe_names.specs.Resolves.{ResolveHasCause}
use Rattle.twe_names.specs.declared.fail.NameFail.{NameFail}
use Rattle.refusal_causes.proofs.explained.unresolved.Goals as goal

-- the rule is the first that fails
pub misnamed-requires-clause-first : goal.misnamed-requires-clause-first
misnamed-requires-clause-first c = subst (λ (fail : NameFail). ResolveHasCause c.args.tree fail) c.in-Names.is c.requires.cause
