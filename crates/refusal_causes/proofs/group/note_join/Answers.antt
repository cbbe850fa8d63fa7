use Rattle.std.proofs.Common.{◌≡◌, ◌∙◌, true, Bool, refl, sym, subst, arith}
use Rattle.std.proofs.lemmas.Bool.{false≢true}
use Rattle.effect_check.specs.declared.act.ActKind.{ActKind}
use Rattle.effect_check.specs.declared.act.ActKind.TheVariants.{Wait}
use Rattle.effect_check.specs.Covered.{Does}
use Rattle.refusal_causes.specs.inner.Keeping.{JoinsSurely}
use Rattle.refusal_causes.specs.inner.Listed.{waits_among}
use Rattle.refusal_causes.proofs.Covering.{in_range}
use Rattle.refusal_causes.proofs.Joins.{joins_surely}
use Rattle.refusal_causes.proofs.Kept.{makes_done}
use Rattle.refusal_causes.proofs.Loops.{if_none}
use Rattle.refusal_causes.proofs.Needs.{is_there}
use Rattle.refusal_causes.proofs.Unmade.{not_among}
use Rattle.refusal_causes.proofs.group.note_join.Goals as goal

-- the future is none of these
pub returns-then-not-follows-clause-kept : goal.returns-then-not-follows-clause-kept
returns-then-not-follows-clause-kept c = λ place none waits.
    absurd (false≢true (sym c.if-not-follows.true ∙ c.follows.ensures
    ∙ subst (λ (k : ActKind). waits_among c.args.points.now.first k ≡ true) c.in-Wait-default-true-default.is waits))

-- the future is surely out
pub returns-then-surely-clause-kept : goal.returns-then-surely-clause-kept
returns-then-surely-clause-kept c = λ place none waits.
    let p = c.args.p.now in
    let task = c.args.task.now in
    let point = c.args.act.now.point in
    let arm = c.in-Wait-default-true-default in
    let kind : ActKind = Wait arm.future arm.join arm.place in
    let does : Does p task point kind = subst (λ (k : ActKind). Does p task point k) arm.is c.requires.done in
    let within = in_range p task c.requires.fits point kind does in
    subst (λ (k : ActKind). JoinsSurely task place point k) (sym arm.is)
    (joins_surely task place point arm.future arm.join arm.place
    ((c.requires.group.facts.surely point arm.future within.0 within.1 (sym c.follows.ensures ∙ c.if-not-follows.false)).0
    (sym c.surely.ensures ∙ c.if-surely.true)))

-- the acts are the task's
pub place_of_making-future_place-requires : goal.place_of_making-future_place-requires
place_of_making-future_place-requires c =
    makes_done c.args.p.now c.args.task.now c.args.points.now.first c.args.makes.now c.requires.group.are

-- the future is not surely out
pub note_of_task-requires-clause-caused : goal.note_of_task-requires-clause-caused
note_of_task-requires-clause-caused c =
    let p = c.args.p.now in
    let task = c.args.task.now in
    let point = c.args.act.now.point in
    let arm = c.in-Wait-default-true-default in
    let kind : ActKind = Wait arm.future arm.join arm.place in
    let does : Does p task point kind = subst (λ (k : ActKind). Does p task point k) arm.is c.requires.done in
    let join : arm.join ≡ true = grind (arith, arm.join-test, arm.join-is) in
    let within = in_range p task c.requires.fits point kind does in (
      refl,
      record {
        point = point;
        future = arm.future;
        at = arm.place;
        joins = subst (λ (b : Bool). Does p task point (Wait arm.future b arm.place)) join does;
        there = is_there arm.place;
        not_out = λ out. false≢true (sym (sym c.surely.ensures ∙ c.if-surely.false)
            ∙ (c.requires.group.facts.surely point arm.future within.0 within.1 (sym c.follows.ensures ∙ c.if-not-follows.false)).1 out);
        shown = (refl, tt);
        made = c.place_of_making-future_place.ensures.found;
        unmade = if_none c.place_of_making-future_place.result _ _
            (not_among p task arm.future c.args.points.now.first c.args.makes.now c.requires.group.are
            (sym c.follows.ensures ∙ c.if-not-follows.false))
            c.place_of_making-future_place.ensures.none;
      },
    )
