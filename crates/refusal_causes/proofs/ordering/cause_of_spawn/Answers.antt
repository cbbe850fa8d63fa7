use Rattle.std.proofs.Common.{◌≡◌, ◌∙◌, true, Bool, refl, sym, subst, arith}
use Rattle.effect_check.specs.declared.act.ActKind.{ActKind}
use Rattle.effect_check.specs.declared.act.ActKind.TheVariants.{Make}
use Rattle.effect_check.specs.Covered.{Does}
use Rattle.refusal_causes.specs.inner.Keeping.{SpawnsAnew}
use Rattle.refusal_causes.proofs.Joins.{may_be_out, not_out, spawns_anew}
use Rattle.refusal_causes.proofs.WaysThere.{may_show}
use Rattle.refusal_causes.proofs.ordering.cause_of_spawn.Goals as goal

-- the future may be out
pub returns-then-may-clause-found : goal.returns-then-may-clause-found
returns-then-may-clause-found c =
    let p = c.args.p.now in
    let task = c.args.task.now in
    let point = c.args.act.now.point in
    let arm = c.in-Make-default-true-default-default-default-default in
    let flow = c.in_ok-points-in-Make-default-true-default-default-default-default in
    let does : Does p task point (Make arm.future arm.spawned arm.deterministic arm.effects arm.future_place arm.place) =
    subst (λ (k : ActKind). Does p task point k) arm.is c.requires.done in
    let spawned : arm.spawned ≡ true = grind (arith, arm.spawned-test, arm.spawned-is) in (
      refl,
      record {
        point = point;
        future = arm.future;
        deterministic = arm.deterministic;
        effects = arm.effects;
        at = arm.future_place;
        task_place = arm.place;
        spawns = subst (λ (b : Bool). Does p task point (Make arm.future b arm.deterministic arm.effects arm.future_place arm.place)) spawned does;
        there = sym c.is_at.ensures ∙ c.if-not-is_at.false;
        out = may_be_out p task c.requires.fits flow.points flow.ensures.exact arm.future flow.ensures.first point arm.spawned arm.deterministic
            arm.effects arm.future_place arm.place does (sym c.may.ensures ∙ c.if-may.true);
        shown = c.way_if-way.ensures;
      },
    )

-- it is not out
pub returns-in-Make-default-true-default-default-default-default-clause-none :
    goal.returns-in-Make-default-true-default-default-default-default-clause-none
returns-in-Make-default-true-default-default-default-default-clause-none c =
    let p = c.args.p.now in
    let task = c.args.task.now in
    let point = c.args.act.now.point in
    let arm = c.in-Make-default-true-default-default-default-default in
    let flow = c.in_ok-points-in-Make-default-true-default-default-default-default in
    let does : Does p task point (Make arm.future arm.spawned arm.deterministic arm.effects arm.future_place arm.place) =
    subst (λ (k : ActKind). Does p task point k) arm.is c.requires.done in
    subst (λ (k : ActKind). SpawnsAnew task c.args.place point k) (sym arm.is)
    (spawns_anew task c.args.place point arm.future arm.spawned arm.deterministic arm.effects arm.future_place arm.place
    (not_out p task c.requires.fits flow.points flow.ensures.exact arm.future flow.ensures.first point arm.spawned arm.deterministic
    arm.effects arm.future_place arm.place does (sym c.may.ensures ∙ c.if-may.false)))

-- on some path it is out
pub way_if-way-requires : goal.way_if-way-requires
way_if-way-requires c =
    let p = c.args.p.now in
    let task = c.args.task.now in
    let point = c.args.act.now.point in
    let arm = c.in-Make-default-true-default-default-default-default in
    let flow = c.in_ok-points-in-Make-default-true-default-default-default-default in
    let does : Does p task point (Make arm.future arm.spawned arm.deterministic arm.effects arm.future_place arm.place) =
    subst (λ (k : ActKind). Does p task point k) arm.is c.requires.done in
    may_show task.body point arm.future
    (may_be_out p task c.requires.fits flow.points flow.ensures.exact arm.future flow.ensures.first point arm.spawned arm.deterministic
    arm.effects arm.future_place arm.place does (sym c.may.ensures ∙ c.if-may.true))
