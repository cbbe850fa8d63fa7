use Rattle.std.proofs.Common.{◌≡◌, ◌+◌, List, Some, length, refl, sym, ap, ◌∙◌, subst}
use Rattle.std.specs.Prelude.{slice_get}
use Rattle.std.proofs.lemmas.Option.{slice_get_read}
use Rattle.region_paths.specs.declared.elements.Elem.{Elem}
use Rattle.effect_infer.specs.declared.needs.need.BodyStep.{BodyStep}
use Rattle.summary_comparing.specs.declared.states.SearchState.{SearchState}
use Rattle.summary_comparing.specs.inner.Search.{CallsListed, ComeInOrder, IsListed, StatesGrow}
use Rattle.summary_comparing.proofs.Linked.{grow-further, listed-more, listed-skip}
use Rattle.summary_comparing.proofs.search.push_callees.Goals.{in-Touch, in-Call+in_ok-push_callee-in-Call}
use Rattle.summary_comparing.proofs.search.push_callees.Goals as goal

-- one step more
pub loop-step-preserved : goal.loop-step-preserved
loop-step-preserved c =
    let bodies = c.args.bodies.now in
    let target = c.args.target.now in
    let first = c.args.states.now in
    let states = c.loop-step.states in
    let values = c.args.values.now in
    let steps = c.args.steps.now in
    let at = c.loop-step.step in
    let item : BodyStep = c.index-steps-step.result in
    let there : slice_get steps at ≡ Some item = slice_get_read steps (length steps) at item refl c.loop-step-test.true c.index-steps-step.is in
    record {
      grows = elim c.match-each.branch [
        | in-Touch w ↦ subst (StatesGrow bodies target first) (sym w.states-is) c.loop-step.invariant.grows
        | in-Call+in_ok-push_callee-in-Call w ↦ subst (StatesGrow bodies target first) (sym w.states-is)
            (grow-further bodies target first states w.push_callee.new.states c.loop-step.invariant.grows w.in_ok-push_callee-in-Call.ensures.grows)
      ];
      order = elim c.match-each.branch [
        | in-Touch w ↦ subst (λ (ss : List SearchState). ComeInOrder ss c.args.at) (sym w.states-is) c.loop-step.invariant.order
        | in-Call+in_ok-push_callee-in-Call w ↦ subst (λ (ss : List SearchState). ComeInOrder ss c.args.at) (sym w.states-is) w.in_ok-push_callee-in-Call.ensures.order
      ];
      listed = elim c.match-each.branch [
        | in-Touch w ↦ subst (λ (ss : List SearchState). CallsListed bodies target ss c.args.at values steps (at + 1)) (sym w.states-is)
            (listed-skip bodies target states c.args.at values steps at _ c.loop-step.invariant.listed (there ∙ ap Some w.in-Touch.is))
        | in-Call+in_ok-push_callee-in-Call w ↦ subst (λ (ss : List SearchState). CallsListed bodies target ss c.args.at values steps (at + 1)) (sym w.states-is)
            (listed-more bodies target states w.push_callee.new.states c.args.at values steps at w.in-Call.method w.in-Call.args w.in_ok-push_callee-in-Call.ensures.grows
            c.loop-step.invariant.listed (there ∙ ap Some w.in-Call.is)
            (subst (λ (xs : List Elem). IsListed bodies target w.push_callee.new.states c.args.at values w.in-Call.method xs) w.as_slice.ensures w.in_ok-push_callee-in-Call.ensures.listed))
      ];
    }
