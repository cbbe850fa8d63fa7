use Rattle.std.proofs.Common.{List, inl, inr, sym, ap, ◌∙◌, subst}
use Rattle.std.proofs.lemmas.Result.{IfOk-weaker}
use Rattle.effect_sets.specs.declared.effects.Effect.{Effect}
use Rattle.summary_comparing.specs.Widest.{AreFewWidest, HasManyWidest}
use Rattle.summary_comparing.specs.Needed.{body_needs, child_needs}
use Rattle.summary_comparing.specs.Comparisons.{IsComparison, comparison_of}
use Rattle.summary_comparing.proofs.Compared.{when-none, when-some}
use Rattle.summary_comparing.proofs.Numbered.{comparison-same, few-same, many-same}
use Rattle.summary_comparing.proofs.comparing.compare.Goals as goal

-- the body needs too many effects
pub returns-in_default : goal.returns-in_default
returns-in_default c =
    let all = body_needs c.args.p.now c.args.summaries.now c.args.decl.now in
    let many = when-none _ c.in_ok-needed.needed c.in_default.is c.in_ok-needed.ensures.many in
    IsComparison.many (inl (many-same c.in_ok-body.body all c.in_ok-body.ensures (subst HasManyWidest c.as_slice.ensures many)))

-- the spawned children do
pub returns-in_default-spawned : goal.returns-in_default-spawned
returns-in_default-spawned c =
    let children = c.as_slice-2.ensures ∙ c.in_ok-children.ensures in
    IsComparison.many (inr (subst HasManyWidest children (when-none _ c.in_ok-spawned.spawned c.in_default-spawned.is c.in_ok-spawned.ensures.many)))

-- both are few
pub returns : goal.returns
returns c =
    let p = c.args.p.now in
    let summaries = c.args.summaries.now in
    let decl = c.args.decl.now in
    let needed = c.in-Some.needed in
    let spawned = c.in-Some-spawned.spawned in
    let body = c.in_ok-body.body in
    let all = body_needs p summaries decl in
    let children = c.as_slice-4.ensures ∙ c.in_ok-children.ensures in
    let few = few-same body all c.in_ok-body.ensures needed (subst (λ (es : List Effect). AreFewWidest es needed) c.as_slice.ensures
    (when-some (AreFewWidest c.as_slice.result.now) c.in_ok-needed.needed needed c.in-Some.is c.in_ok-needed.ensures.few)) in
    let others = subst (λ (es : List Effect). AreFewWidest es spawned) (c.as_slice-2.ensures ∙ c.in_ok-children.ensures)
    (when-some (AreFewWidest c.as_slice-2.result.now) c.in_ok-spawned.spawned spawned c.in-Some-spawned.is c.in_ok-spawned.ensures.few) in
    let same =
    ap (λ (es : List Effect). comparison_of es c.as_slice-4.result.now c.as_slice-5.result.now needed spawned) c.as_slice-3.ensures
    ∙ (comparison-same body all c.in_ok-body.ensures c.as_slice-4.result.now c.as_slice-5.result.now needed spawned
    ∙ (ap (λ (es : List Effect). comparison_of all es c.as_slice-5.result.now needed spawned) children
    ∙ ap (λ (es : List Effect). comparison_of all (child_needs p decl) es needed spawned) c.as_slice-5.ensures)) in
    IfOk-weaker c.comparison_of.result _ (IsComparison c.args.p.now c.args.summaries.now c.args.decl.now)
    (λ comparison is. subst (IsComparison c.args.p.now c.args.summaries.now c.args.decl.now) (sym (is ∙ same)) (IsComparison.few needed spawned few others))
    c.comparison_of.ensures
