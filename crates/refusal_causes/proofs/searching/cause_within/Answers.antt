use Rattle.std.proofs.Common.{List, ◌∙◌, subst}
use Rattle.std.specs.List.{All}
use Rattle.effect_check.specs.declared.act.Act.{Act}
use Rattle.refusal_causes.specs.inner.Keeping.{IsKept}
use Rattle.refusal_causes.proofs.Loops.{not_found, one_more, whole}
use Rattle.refusal_causes.proofs.searching.cause_within.Goals as goal

-- one act more keeps the rule
pub loop-act-preserved : goal.loop-act-preserved
loop-act-preserved c =
    let P = IsKept c.args.p.now c.args.rule c.args.place c.args.decl.now in
    one_more P c.as_slice-acts.result.now c.loop-act.act-index c.act-item.result c.loop-act-test.true c.act-item.is c.loop-act.invariant
    (not_found (P c.act-item.result) c.in_ok-found.found c.in_default.is c.in_ok-found.ensures.none)

-- all do
pub returns-clause-none : goal.returns-clause-none
returns-clause-none c =
    let P = IsKept c.args.p.now c.args.rule c.args.place c.args.decl.now in
    subst (λ (xs : List Act). All P xs) (c.as_slice-acts.ensures ∙ c.in_ok-done.ensures)
    (whole P c.as_slice-acts.result.now c.loop-act.act-index c.loop-act-test.false c.loop-act.invariant)
