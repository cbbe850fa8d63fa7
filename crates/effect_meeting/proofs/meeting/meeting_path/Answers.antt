use Rattle.std.proofs.Common.{◌≡◌, IfNone, None, replicate, ap, ◌∙◌, subst, rules}
use Rattle.std.proofs.lemmas.Result.{IfOk-weaker}
use Rattle.effect_meeting.specs.Meeting.{NeverMeet}
use Rattle.effect_meeting.specs.inner.Aligned.{common_length}
use Rattle.effect_meeting.specs.inner.Columns.{NeverMeetAlong, all_plain}
use Rattle.effect_meeting.proofs.Along.{if-none, none-plain, never-tried}
use Rattle.effect_meeting.proofs.meeting.meeting_path.Goals as goal

-- nothing has variables
pub meeting_along-requires : goal.meeting_along-requires
meeting_along-requires c =
    let is : c.as_slice.result.now ≡ replicate c.common_length.result None = search rules in
    ap all_plain is ∙ none-plain c.common_length.result

-- paths that do not meet along anything of the length that is tried do not meet
pub returns-clause-none : goal.returns-clause-none
returns-clause-none c =
    let p = c.args.first.now in
    let q = c.args.second.now in
    let slice : c.as_slice.result.now ≡ replicate c.common_length.result None = search rules in
    let is : c.as_slice.result.now ≡ replicate (common_length p q) None = slice ∙ ap (λ n. replicate n None) c.common_length.ensures in
    IfOk-weaker c.meeting_along.result (λ found. IfNone found (NeverMeetAlong c.args.shared p q c.as_slice.result.now))
    (λ found. IfNone found (NeverMeet c.args.shared p q))
    (λ found none. if-none found _ _ (λ never. never-tried c.args.shared p q (subst (NeverMeetAlong c.args.shared p q) is never)) none)
    c.meeting_along.ensures.none
