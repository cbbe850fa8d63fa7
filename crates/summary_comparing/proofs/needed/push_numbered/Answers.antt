use Rattle.std.proofs.Common.{◌≡◌, ◌++◌, Option, length, refl, sym, ap, ◌∙◌, subst}
use Rattle.std.specs.Prelude.{OnOk}
use Rattle.std.proofs.lemmas.List.{append-nil}
use Rattle.std.proofs.lemmas.Option.{slice_get_past, slice_get_read}
use Rattle.effect_infer.specs.declared.needs.need.BodyStep.{BodyStep}
use Rattle.summary_comparing.specs.inner.Differing.{needs_if}
use Rattle.summary_comparing.proofs.needed.push_numbered.Goals as goal

-- there is no such step
pub returns-in-None : goal.returns-in-None
returns-in-None c =
    let needs = c.args.needs.now in
    let none = slice_get_past c.args.steps.now c.args.number c.in-None.ensures.lookup.3 in
    sym (ap (λ (found : Option BodyStep). needs ++ needs_if c.args.summaries.now c.args.params found) none ∙ append-nil needs)

-- it needs this
pub returns-in-Some : goal.returns-in-Some
returns-in-Some c =
    let steps = c.args.steps.now in
    let step = c.in-Some.step.now in
    let look = c.in-Some.ensures.lookup in
    let found = slice_get_read steps (length steps) c.args.number step refl look.3.0 look.1 in
    subst (λ (o : Option BodyStep). OnOk c.push_step.result (c.push_step.new.needs
    ≡ c.args.needs.now ++ needs_if c.args.summaries.now c.args.params o)) (sym found) c.push_step.ensures
