use Rattle.std.proofs.Common.{◌≡◌, List, sym, ap, ◌∙◌, subst}
use Rattle.std.specs.List.{flat_map}
use Rattle.std.proofs.lemmas.Result.{IfOk-weaker}
use Rattle.effect_sets.specs.declared.effects.Effect.{Effect}
use Rattle.twe_program.specs.Program.{Program}
use Rattle.effect_infer.specs.declared.needs.need.BodyStep.{BodyStep}
use Rattle.effect_infer.specs.needs.Steps.{steps_in_all}
use Rattle.summary_comparing.specs.Needed.{body_needs}
use Rattle.summary_comparing.specs.inner.Differing.{HasEach, HaveSame, numbered_needs}
use Rattle.summary_comparing.proofs.Numbered.{numbered-same}
use Rattle.summary_comparing.proofs.needed.body_needs.Goals as goal

-- what the steps with these numbers need is what all need
pub returns : goal.returns
returns c =
    let p = c.args.p.now in
    let summaries = c.args.summaries.now in
    let decl = c.args.decl.now in
    let steps = c.in_ok-steps.steps in
    let numbers = c.in_ok-numbers.numbers in
    let all = steps_in_all p.cells decl.body.block in
    let are : steps ≡ all = c.in_ok-steps.ensures ∙ ap (λ cells. steps_in_all cells decl.body.block) (c.as_slice.ensures ∙ ap (λ (q : Program). q.cells) c.p.view_is) in
    let each = subst (λ (xs : List BodyStep). HasEach xs numbers) (c.as_slice-2.ensures ∙ are) c.in_ok-numbers.ensures in
    let same = numbered-same summaries decl.params all numbers each in
    let given = ap (λ (xs : List BodyStep). flat_map (numbered_needs summaries decl.params xs) c.as_slice-numbers.result.now) (c.as_slice-3.ensures ∙ are)
    ∙ ap (flat_map (numbered_needs summaries decl.params all)) c.as_slice-numbers.ensures in
    IfOk-weaker c.steps_needs.result _ (λ (needs : List Effect). HaveSame needs (body_needs p summaries decl))
    (λ needs is. subst (λ (es : List Effect). HaveSame es (body_needs p summaries decl)) (sym (is ∙ given)) same) c.steps_needs.ensures
