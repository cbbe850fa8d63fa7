use Rattle.std.proofs.Common.{◌≡◌, ◌∙◌, true, Bool, refl, sym, subst, arith}
use Rattle.std.proofs.lemmas.Bool.{false≢true}
use Rattle.effect_check.specs.declared.act.ActKind.{ActKind}
use Rattle.effect_check.specs.declared.act.ActKind.TheVariants.{Make}
use Rattle.effect_check.specs.Covered.{Does}
use Rattle.refusal_causes.specs.inner.Keeping.{SpawnsAnew}
use Rattle.refusal_causes.specs.inner.Listed.{makes_among}
use Rattle.refusal_causes.proofs.Covering.{in_range}
use Rattle.refusal_causes.proofs.Joins.{spawns_anew}
use Rattle.refusal_causes.proofs.Needs.{is_there}
use Rattle.refusal_causes.proofs.group.note_spawn.Goals as goal

-- the future is none of these
pub returns-then-not-follows-clause-kept : goal.returns-then-not-follows-clause-kept
returns-then-not-follows-clause-kept c = λ place none makes.
    absurd (false≢true (sym c.if-not-follows.true ∙ c.follows.ensures
    ∙ subst (λ (k : ActKind). makes_among c.args.points.now.first k ≡ true) c.in-Make-default-true-default-default-default-default.is makes))

-- the future is not out
pub returns-then-not-may-clause-kept : goal.returns-then-not-may-clause-kept
returns-then-not-may-clause-kept c = λ place none makes.
    let p = c.args.p.now in
    let task = c.args.task.now in
    let point = c.args.act.now.point in
    let arm = c.in-Make-default-true-default-default-default-default in
    let kind : ActKind = Make arm.future arm.spawned arm.deterministic arm.effects arm.future_place arm.place in
    let does : Does p task point kind = subst (λ (k : ActKind). Does p task point k) arm.is c.requires.done in
    let within = in_range p task c.requires.fits point kind does in
    subst (λ (k : ActKind). SpawnsAnew task place point k) (sym arm.is)
    (spawns_anew task place point arm.future arm.spawned arm.deterministic arm.effects arm.future_place arm.place
    (λ out. false≢true (sym (sym c.may.ensures ∙ c.if-not-may.true)
    ∙ (c.requires.facts.may point arm.future within.0 within.1 (sym c.follows.ensures ∙ c.if-not-follows.false)).1 out)))

-- the future may be out
pub note_of_task-requires-clause-caused : goal.note_of_task-requires-clause-caused
note_of_task-requires-clause-caused c =
    let p = c.args.p.now in
    let task = c.args.task.now in
    let point = c.args.act.now.point in
    let arm = c.in-Make-default-true-default-default-default-default in
    let kind : ActKind = Make arm.future arm.spawned arm.deterministic arm.effects arm.future_place arm.place in
    let does : Does p task point kind = subst (λ (k : ActKind). Does p task point k) arm.is c.requires.done in
    let spawned : arm.spawned ≡ true = grind (arith, arm.spawned-test, arm.spawned-is) in
    let within = in_range p task c.requires.fits point kind does in (
      refl,
      record {
        point = point;
        future = arm.future;
        deterministic = arm.deterministic;
        effects = arm.effects;
        at = arm.future_place;
        task_place = arm.place;
        spawns = subst (λ (b : Bool). Does p task point (Make arm.future b arm.deterministic arm.effects arm.future_place arm.place)) spawned does;
        there = is_there arm.future_place;
        out = (c.requires.facts.may point arm.future within.0 within.1 (sym c.follows.ensures ∙ c.if-not-follows.false)).0
            (sym c.may.ensures ∙ c.if-not-may.false);
        shown = (refl, tt);
      },
    )
