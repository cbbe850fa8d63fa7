use Rattle.std.proofs.Common.{ℕ, List, Option, IfSome, sym, subst}
use Rattle.effect_meeting.specs.declared.cells.CellMet.{CellMet}
use Rattle.effect_meeting.specs.Cells.{IsFirstMet}
use Rattle.refusal_notes.specs.Meetings.{MeetingDue}
use Rattle.refusal_notes.proofs.meetings.parameters_remark.Goals as goal

-- the effects meet at the cell that was found
pub returns-in_ok-text-in-Some : goal.returns-in_ok-text-in-Some
returns-in_ok-text-in-Some c =
    let First = IsFirstMet c.args.shared c.args.need.now.path c.args.other.now.path c.args.cells.now in
    let Due = MeetingDue c.args.regions.now c.args.cells.now c.args.variables.now c.args.shared c.args.need.now c.args.other.now in
    let there : IfSome c.in_ok-first_cell.field-0 First = c.in_ok-first_cell.ensures.found in
    let met : First c.in-Some.met = subst (λ (o : Option CellMet). IfSome o First) c.in-Some.is there in
    subst (λ (text : List ℕ). Due text) (sym c.in_ok-text-in-Some.ensures) (MeetingDue.at_cell c.in_ok-always.always c.in-Some.met (record { no_local = c.requires; always_is = c.in_ok-always.ensures }) met)
