use Rattle.refusal_causes.specs.inner.Keeping.{KeepsThere}
use Rattle.refusal_causes.proofs.Loops.{not_found, one_more, whole}
use Rattle.refusal_causes.proofs.searching.cause_in_some.Goals as goal

-- one declaration more keeps the rule
pub loop-decl-preserved : goal.loop-decl-preserved
loop-decl-preserved c =
    let P = KeepsThere c.args.p.now c.args.rule c.args.place in
    one_more P c.args.decls.now c.loop-decl.decl-index c.decl-item.result c.loop-decl-test.true c.decl-item.is c.loop-decl.invariant
    (not_found (P c.decl-item.result) c.in_ok-found.found c.in_default.is c.in_ok-found.ensures.none)

-- all do
pub returns-clause-none : goal.returns-clause-none
returns-clause-none c =
    whole (KeepsThere c.args.p.now c.args.rule c.args.place) c.args.decls.now c.loop-decl.decl-index c.loop-decl-test.false
    c.loop-decl.invariant
