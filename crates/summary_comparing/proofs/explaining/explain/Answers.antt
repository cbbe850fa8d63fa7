use Rattle.std.proofs.Common.{List, inl, inr, sym, ◌∙◌, subst}
use Rattle.std.proofs.lemmas.Result.{IfOk-weaker}
use Rattle.effect_sets.specs.declared.effects.Effect.{Effect}
use Rattle.effect_sets.specs.declared.effects.Summary.{Summary}
use Rattle.summary_comparing.specs.Needed.{body_needs}
use Rattle.summary_comparing.specs.Widest.{AreFewWidest, HasManyWidest}
use Rattle.summary_comparing.specs.ChainTexts.{AreExplained}
use Rattle.summary_comparing.specs.inner.Differing.{HaveSame}
use Rattle.summary_comparing.proofs.Compared.{when-none, when-some}
use Rattle.summary_comparing.proofs.Numbered.{few-same, many-same}
use Rattle.summary_comparing.proofs.explaining.explain.Goals as goal

-- the body needs too many effects
pub returns-in_default : goal.returns-in_default
returns-in_default c =
    let p = c.args.p.now in
    let its = c.args.its.now in
    let decl = c.args.decl.now in
    let summaries = c.in_ok-summaries.summaries in
    let body = c.in_ok-body.body in
    let same = subst (λ (ss : List Summary). HaveSame body (body_needs p ss decl)) c.as_slice-summaries.ensures c.in_ok-body.ensures in
    let many = when-none _ c.in_ok-needed.needed c.in_default.is c.in_ok-needed.ensures.many in
    IfOk-weaker c.many_lines.result _ (AreExplained p its decl)
    (λ lines is. subst (AreExplained p its decl) (sym is) (AreExplained.many summaries c.in_ok-summaries.ensures
    (inl (many-same body (body_needs p summaries decl) same (subst HasManyWidest c.as_slice-body.ensures many)))))
    c.many_lines.ensures

-- the spawned children do
pub returns-in_default-spawned : goal.returns-in_default-spawned
returns-in_default-spawned c =
    let p = c.args.p.now in
    let its = c.args.its.now in
    let decl = c.args.decl.now in
    let summaries = c.in_ok-summaries.summaries in
    let children = c.as_slice-children.ensures ∙ c.in_ok-children.ensures in
    IfOk-weaker c.many_lines-in_default-spawned.result _ (AreExplained p its decl)
    (λ lines is. subst (AreExplained p its decl) (sym is) (AreExplained.many summaries c.in_ok-summaries.ensures
    (inr (subst HasManyWidest children (when-none _ c.in_ok-spawned.spawned c.in_default-spawned.is c.in_ok-spawned.ensures.many)))))
    c.many_lines-in_default-spawned.ensures

-- the effects of the body
pub few_lines-requires-clause-body : goal.few_lines-requires-clause-body
few_lines-requires-clause-body c =
    subst (λ (es : List Effect). HaveSame es (body_needs c.args.p.now c.as_slice-summaries.result.now c.args.decl.now))
    (sym c.as_slice-body.ensures) c.in_ok-body.ensures

-- the widest of them
pub few_lines-requires-clause-few_needed : goal.few_lines-requires-clause-few_needed
few_lines-requires-clause-few_needed c =
    let all = body_needs c.args.p.now c.as_slice-summaries.result.now c.args.decl.now in
    let needed = c.in-Some.needed in
    let few = when-some (AreFewWidest c.as_slice-body.result.now) c.in_ok-needed.needed needed c.in-Some.is c.in_ok-needed.ensures.few in
    subst (AreFewWidest all) (sym c.as_slice.ensures)
    (few-same c.in_ok-body.body all c.in_ok-body.ensures needed (subst (λ (es : List Effect). AreFewWidest es needed) c.as_slice-body.ensures few))
