use Rattle.std.proofs.Common.{ℕ, List, Option, IfNone, IfSome, sym, subst}
use Rattle.effect_meeting.specs.declared.met.Met.{Met}
use Rattle.effect_meeting.specs.Meeting.{IsWhereMet, NeverMeet}
use Rattle.refusal_notes.specs.Meetings.{MeetingDue}
use Rattle.refusal_notes.proofs.meetings.path_remark.Goals as goal

-- the effects meet nowhere
pub returns-in_ok-text-in-None : goal.returns-in_ok-text-in-None
returns-in_ok-text-in-None c =
    let p = c.args.need.now.path in
    let q = c.args.other.now.path in
    let Due = MeetingDue c.args.regions.now c.args.cells.now c.args.variables.now c.args.shared c.args.need.now c.args.other.now in
    let empty : IfNone c.in_ok-meeting_path.field-0 (NeverMeet c.args.shared p q) = c.in_ok-meeting_path.ensures.none in
    let never : NeverMeet c.args.shared p q = subst (λ (o : Option Met). IfNone o (NeverMeet c.args.shared p q)) c.in-None.is empty in
    subst (λ (text : List ℕ). Due text) (sym c.in_ok-text-in-None.ensures) (MeetingDue.nowhere never)

-- they meet at the path that was found, and at no cell
pub returns-in_ok-text-in-Some : goal.returns-in_ok-text-in-Some
returns-in_ok-text-in-Some c =
    let p = c.args.need.now.path in
    let q = c.args.other.now.path in
    let Due = MeetingDue c.args.regions.now c.args.cells.now c.args.variables.now c.args.shared c.args.need.now c.args.other.now in
    let there : IfSome c.in_ok-meeting_path.field-0 (IsWhereMet c.args.shared p q) = c.in_ok-meeting_path.ensures.found in
    let met : IsWhereMet c.args.shared p q c.in-Some.met = subst (λ (o : Option Met). IfSome o (IsWhereMet c.args.shared p q)) c.in-Some.is there in
    subst (λ (text : List ℕ). Due text) (sym c.in_ok-text-in-Some.ensures) (MeetingDue.at_path c.args.always c.in-Some.met c.requires.decide met c.requires.no_cell)
