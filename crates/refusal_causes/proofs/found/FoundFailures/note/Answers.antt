use Rattle.std.proofs.Common.{Some, subst}
use Rattle.std.specs.BTreeMap as tree
use Rattle.refusal_causes.specs.declared.found.CausedFailure.{CausedFailure}
use Rattle.refusal_causes.specs.declared.found.FailureKey.{FailureKey}
use Rattle.refusal_causes.specs.inner.Found.{key_cmp}
use Rattle.refusal_causes.proofs.Entries.{grows_by}
use Rattle.refusal_causes.proofs.found.FoundFailures.note.Goals as goal

-- the map has one failure more
pub returns-clause-grows : goal.returns-clause-grows
returns-clause-grows c =
    let failure : CausedFailure = record { rule = c.args.rule; place = c.args.place; cause = c.args.cause } in
    grows_by c.args.p.now c.args.self.now (record { entries = c.insert.new.self }) failure
    (subst (λ (k : FailureKey). tree.Updates key_cmp c.args.self.now.entries c.insert.new.self k (Some failure)) c.key_of.ensures
    c.in_ok-insert.ensures.updates)
    c.insert.ensures.ordered (record { fails = c.requires.fails; caused = c.requires.caused })
