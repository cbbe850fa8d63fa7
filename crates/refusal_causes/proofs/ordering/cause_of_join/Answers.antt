use Rattle.std.proofs.Common.{◌≡◌, ◌∙◌, true, Bool, List, refl, sym, subst, arith}
use Rattle.std.specs.List.{All}
use Rattle.std.proofs.lemmas.List.Elements.{All-contains_itself}
use Rattle.effect_check.specs.declared.act.Act.{Act}
use Rattle.effect_check.specs.declared.act.ActKind.{ActKind}
use Rattle.effect_check.specs.declared.act.ActKind.TheVariants.{Wait}
use Rattle.effect_check.specs.Acts.{acts_in_all}
use Rattle.effect_check.specs.Covered.{Does}
use Rattle.refusal_causes.specs.inner.Keeping.{IsDone, IsNoMake, JoinsSurely}
use Rattle.refusal_causes.proofs.Joins.{joins_surely, not_surely_out, surely_out}
use Rattle.refusal_causes.proofs.Loops.{if_none}
use Rattle.refusal_causes.proofs.Unmade.{made_nowhere}
use Rattle.refusal_causes.proofs.WaysThere.{not_surely_show}
use Rattle.refusal_causes.proofs.ordering.cause_of_join.Goals as goal

-- the future is surely out
pub returns-then-surely-clause-none : goal.returns-then-surely-clause-none
returns-then-surely-clause-none c =
    let p = c.args.p.now in
    let task = c.args.task.now in
    let point = c.args.act.now.point in
    let arm = c.in-Wait-default-true-default in
    let flow = c.in_ok-points-in-Wait-default-true-default in
    let does : Does p task point (Wait arm.future arm.join arm.at) = subst (λ (k : ActKind). Does p task point k) arm.is c.requires.done in
    subst (λ (k : ActKind). JoinsSurely task c.args.place point k) (sym arm.is)
    (joins_surely task c.args.place point arm.future arm.join arm.at
    (surely_out p task c.requires.fits flow.points flow.ensures.exact arm.future flow.ensures.first point arm.join arm.at does
    (sym c.surely.ensures ∙ c.if-surely.true)))

-- it is not
pub returns-else-surely-clause-found : goal.returns-else-surely-clause-found
returns-else-surely-clause-found c =
    let p = c.args.p.now in
    let task = c.args.task.now in
    let point = c.args.act.now.point in
    let arm = c.in-Wait-default-true-default in
    let flow = c.in_ok-points-in-Wait-default-true-default in
    let does : Does p task point (Wait arm.future arm.join arm.at) = subst (λ (k : ActKind). Does p task point k) arm.is c.requires.done in
    let join : arm.join ≡ true = grind (arith, arm.join-test, arm.join-is) in (
      refl,
      record {
        point = point;
        future = arm.future;
        at = arm.at;
        joins = subst (λ (b : Bool). Does p task point (Wait arm.future b arm.at)) join does;
        there = sym c.is_at.ensures ∙ c.if-not-is_at.false;
        not_out = not_surely_out p task c.requires.fits flow.points flow.ensures.exact arm.future flow.ensures.first point arm.join arm.at does
            (sym c.surely.ensures ∙ c.if-surely.false);
        shown = c.way_if-way.ensures;
        made = c.place_of_making-future_place.ensures.found;
        unmade = if_none c.place_of_making-future_place.result _ _
            (λ none. made_nowhere p task arm.future (subst (All (IsNoMake arm.future)) c.requires.all none))
            c.place_of_making-future_place.ensures.none;
      },
    )

-- all acts are the task's
pub place_of_making-future_place-requires : goal.place_of_making-future_place-requires
place_of_making-future_place-requires c =
    subst (λ (xs : List Act). All (IsDone c.args.p.now c.args.task.now) xs) (sym c.requires.all)
    (All-contains_itself (acts_in_all c.args.p.now c.args.task.now.body.block))

-- on some path it is not out
pub way_if-way-requires : goal.way_if-way-requires
way_if-way-requires c =
    let p = c.args.p.now in
    let task = c.args.task.now in
    let point = c.args.act.now.point in
    let arm = c.in-Wait-default-true-default in
    let flow = c.in_ok-points-in-Wait-default-true-default in
    let does : Does p task point (Wait arm.future arm.join arm.at) = subst (λ (k : ActKind). Does p task point k) arm.is c.requires.done in
    not_surely_show task.body point arm.future
    (not_surely_out p task c.requires.fits flow.points flow.ensures.exact arm.future flow.ensures.first point arm.join arm.at does
    (sym c.surely.ensures ∙ c.if-surely.false))
