use Rattle.std.proofs.Common.{◌≡◌, ◌∙◌, true, List, sym, subst}
use Rattle.std.specs.List.{All}
use Rattle.effect_sets.specs.declared.effects.Effect.{Effect}
use Rattle.effect_check.specs.Covered.{CoveredAt}
use Rattle.refusal_causes.specs.Barring.{IsLack}
use Rattle.refusal_causes.specs.Causes.{IsCauseIn}
use Rattle.refusal_causes.specs.Seeking.{needs_of}
use Rattle.refusal_causes.specs.inner.Keeping.{IsKept}
use Rattle.refusal_causes.proofs.Covering.{in_range}
use Rattle.refusal_causes.proofs.Kept.{kept_if}
use Rattle.refusal_causes.proofs.Needs.{found_weaker, lack_causes, none_weaker}
use Rattle.refusal_causes.proofs.needing.cause_of_lack.Goals as goal

-- the body has the point
pub cause_of_needs-requires-clause-here : goal.cause_of_needs-requires-clause-here
cause_of_needs-requires-clause-here c =
    (in_range c.args.p.now c.args.decl.now c.requires.fits c.args.act.now.point c.args.act.now.kind c.requires.done).0

-- what is lacked is a cause
pub returns-clause-found : goal.returns-clause-found
returns-clause-found c =
    let p = c.args.p.now in
    let decl = c.args.decl.now in
    let act = c.args.act.now in
    let needs : c.as_slice.result.now ≡ needs_of act.kind = c.as_slice.ensures ∙ c.in_ok-needs.ensures in
    found_weaker (IsLack p true decl act.point c.as_slice.result.now) (IsCauseIn p true c.args.rule c.args.place decl)
    (lack_causes p c.args.rule c.args.place decl act.point act.kind c.as_slice.result.now c.requires.of_needs c.requires.done
    (sym c.needs_at.ensures ∙ c.if-not-needs_at.false) needs true)
    c.cause_of_needs.result c.cause_of_needs.ensures.found

-- nothing is lacked
pub returns-clause-none : goal.returns-clause-none
returns-clause-none c =
    let p = c.args.p.now in
    let decl = c.args.decl.now in
    let act = c.args.act.now in
    let needs : c.as_slice.result.now ≡ needs_of act.kind = c.as_slice.ensures ∙ c.in_ok-needs.ensures in
    none_weaker (All (CoveredAt p decl act.point) c.as_slice.result.now) (IsKept p c.args.rule c.args.place decl act)
    (λ all. kept_if p c.args.rule c.args.place decl act c.requires.of_needs
    (λ _. subst (λ (xs : List Effect). All (CoveredAt p decl act.point) xs) needs all))
    c.cause_of_needs.result c.cause_of_needs.ensures.none
