use Rattle.std.proofs.Common.{◌≡◌, ◌∙◌, false, IsTrue, IfSome, List, Option, Contains, sym, subst}
use Rattle.effect_sets.specs.declared.effects.Effect.{Effect}
use Rattle.effect_sets.specs.declared.effects.Summary.{Summary}
use Rattle.effect_sets.specs.Covers.{covers}
use Rattle.effect_check.specs.FailsEffect.{EffectFailure}
use Rattle.refusal_causes.specs.declared.cause.RuleCause.TheVariants.{Undeclared}
use Rattle.refusal_causes.specs.Causes.{IsCause}
use Rattle.refusal_causes.specs.Seeking.{needs_of}
use Rattle.refusal_causes.proofs.Listed.{undeclared_fails}
use Rattle.refusal_causes.proofs.alone.note_undeclared.Goals as goal

-- the rule fails
pub note-requires-clause-fails : goal.note-requires-clause-fails
note-requires-clause-fails c =
    let decl = c.args.decl.now in
    let act = c.args.act.now in
    let need = c.in-Some-undeclared.need in
    let needs : c.as_slice.result.now ≡ needs_of act.kind = c.as_slice.ensures ∙ c.in_ok-needs-in-Some.ensures in
    let found : Contains c.as_slice.result.now need × (¬ IsTrue (covers decl.summary need)) =
    subst (λ (o : Option Effect). IfSome o (λ (e : Effect). Contains c.as_slice.result.now e × (¬ IsTrue (covers decl.summary e))))
    c.in-Some-undeclared.is c.in_ok-undeclared-in-Some.ensures.found in
    (undeclared_fails c.args.p.now decl act.point need found.1 c.args.of_methods c.requires.inside act.kind c.requires.done c.in-Some.field-0
    (sym c.need_at-need.ensures ∙ c.in-Some.is) (subst (λ (xs : List Effect). Contains xs need) needs found.0)).0

-- the cause is true
pub note-requires-clause-caused : goal.note-requires-clause-caused
note-requires-clause-caused c =
    let p = c.args.p.now in
    let decl = c.args.decl.now in
    let act = c.args.act.now in
    let need = c.in-Some-undeclared.need in
    let f : EffectFailure = c.in-Some.field-0 in
    let needs : c.as_slice.result.now ≡ needs_of act.kind = c.as_slice.ensures ∙ c.in_ok-needs-in-Some.ensures in
    let found : Contains c.as_slice.result.now need × (¬ IsTrue (covers decl.summary need)) =
    subst (λ (o : Option Effect). IfSome o (λ (e : Effect). Contains c.as_slice.result.now e × (¬ IsTrue (covers decl.summary e))))
    c.in-Some-undeclared.is c.in_ok-undeclared-in-Some.ensures.found in
    subst (λ (s : Summary). IsCause p false f.rule f.place (Undeclared need s decl.place)) (sym c.in_ok-declared-in-Some-undeclared.ensures)
    (undeclared_fails p decl act.point need found.1 c.args.of_methods c.requires.inside act.kind c.requires.done f
    (sym c.need_at-need.ensures ∙ c.in-Some.is) (subst (λ (xs : List Effect). Contains xs need) needs found.0)).1
