use Rattle.std.proofs.Common.{true, IfSome, sym, subst}
use Rattle.effect_check.specs.declared.rule.ERule.{ERule}
use Rattle.refusal_causes.specs.Causes.{IsCauseIn}
use Rattle.refusal_causes.proofs.searching.cause_of_act.Goals as goal

-- the rules that speak of no future have their cause with ways and without
pub returns-in-E6-clause-found : goal.returns-in-E6-clause-found
returns-in-E6-clause-found c =
    subst (λ (r : ERule). IfSome c.cause_of_order.result (IsCauseIn c.args.p.now true r c.args.place c.args.decl.now)) (sym c.in-E6.is)
    (c.cause_of_order.ensures.found true)

pub returns-in-E7-clause-found : goal.returns-in-E7-clause-found
returns-in-E7-clause-found c =
    subst (λ (r : ERule). IfSome c.cause_of_child.result (IsCauseIn c.args.p.now true r c.args.place c.args.decl.now)) (sym c.in-E7.is)
    (c.cause_of_child.ensures.found true)
