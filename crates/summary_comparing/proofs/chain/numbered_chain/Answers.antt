use Rattle.std.proofs.Common.{◌≡◌, List, Option, Some, length, refl, subst, arith}
use Rattle.std.specs.Prelude.{slice_get}
use Rattle.std.specs.List.{Contains}
use Rattle.std.proofs.lemmas.Option.{slice_get_read}
use Rattle.effect_infer.specs.declared.needs.need.BodyStep.{BodyStep}
use Rattle.summary_comparing.specs.inner.Differing.{needs_if}
use Rattle.summary_comparing.proofs.Numbered.{needs-within}
use Rattle.summary_comparing.proofs.chain.numbered_chain.Goals as goal

-- the step is there
pub returns-in-None : goal.returns-in-None
returns-in-None c =
    let within = needs-within c.args.summaries.now c.args.decl.now.params c.args.steps.now c.args.number c.args.effect.now c.requires.there in
    let past = c.in-None.ensures.lookup.3 in
    absurd (omega (arith, within, past))

-- it is a step of the body
pub placed_chain-requires-clause-step : goal.placed_chain-requires-clause-step
placed_chain-requires-clause-step c =
    let steps = c.args.steps.now in
    let step = c.in-Some.step.now in
    let look = c.in-Some.ensures.lookup in
    subst (λ (xs : List BodyStep). slice_get xs c.args.number ≡ Some step) c.requires.steps
    (slice_get_read steps (length steps) c.args.number step refl look.3.0 look.1)

-- and needs the effect
pub placed_chain-requires-clause-there : goal.placed_chain-requires-clause-there
placed_chain-requires-clause-there c =
    let steps = c.args.steps.now in
    let step = c.in-Some.step.now in
    let look = c.in-Some.ensures.lookup in
    subst (λ (found : Option BodyStep). Contains (needs_if c.args.summaries.now c.args.decl.now.params found) c.args.effect.now)
    (slice_get_read steps (length steps) c.args.number step refl look.3.0 look.1) c.requires.there
