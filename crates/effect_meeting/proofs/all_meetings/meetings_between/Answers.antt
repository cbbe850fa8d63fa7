use Rattle.std.proofs.Common.{List, sym, ap, ◌∙◌, subst}
use Rattle.std.proofs.lemmas.Result.{IfOk-weaker}
use Rattle.effect_sets.specs.declared.effects.Effect.{Effect}
use Rattle.effect_meeting.specs.Meetings.{AreMeetings}
use Rattle.effect_meeting.specs.MeetingsOf.{meetings_of}
use Rattle.effect_meeting.proofs.Meetings.{are-meetings}
use Rattle.effect_meeting.proofs.all_meetings.meetings_between.Goals as goal

-- those in order are all there are
pub returns-clause-meet : goal.returns-clause-meet
returns-clause-meet c =
    let first = c.args.first.now.effects in
    let second = c.args.second.now.effects in
    IfOk-weaker c.meetings_in_order.result _ (AreMeetings first second)
    (λ found is. subst (AreMeetings first second)
    (sym (is ∙ ap (λ (es : List Effect). meetings_of es c.as_slice-2.result.now) c.as_slice.ensures ∙ ap (λ (es : List Effect). meetings_of first es) c.as_slice-2.ensures))
    (are-meetings first second))
    c.meetings_in_order.ensures
