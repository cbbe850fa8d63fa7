use Rattle.std.proofs.Common.{◌≡◌, Option, List, IfNone, IfSome, drop, length, sym, ap, ◌∙◌, subst, rules}
use Rattle.region_paths.specs.declared.elements.Elem.{Elem}
use Rattle.effect_meeting.specs.declared.met.Met.{Met}
use Rattle.effect_meeting.specs.inner.CellLines.{IsMetAfter, cell_line}
use Rattle.effect_meeting.specs.inner.Columns.{IsForcedAlong, IsMetAlong, NeverMeetAlong, all_plain}
use Rattle.effect_meeting.proofs.CellLaws.{met-within, never-below, never-line, never-plain, written_below}
use Rattle.effect_meeting.proofs.cells.meeting_within.Goals as goal

-- a declaration in a path with variables has no cells
pub returns-then-not-all_plain-clause-none : goal.returns-then-not-all_plain-clause-none
returns-then-not-all_plain-clause-none c =
    let line : c.as_slice.result.now ≡ cell_line c.args.declared.now c.args.bounds.now = search rules in
    never-plain c.args.shared c.args.first.now c.args.second.now c.args.declared.now c.args.bounds.now
    (ap all_plain (sym line) ∙ sym c.all_plain.ensures ∙ c.if-not-all_plain.true)

-- nor does one along whose line the paths never meet
pub returns-in-None-clause-none : goal.returns-in-None-clause-none
returns-in-None-clause-none c =
    let line : c.as_slice-2.result.now ≡ cell_line c.args.declared.now c.args.bounds.now = search rules in
    let empty : IfNone c.in_ok-meeting_along.field-0 (NeverMeetAlong c.args.shared c.args.first.now c.args.second.now c.as_slice-2.result.now) =
    c.in_ok-meeting_along.ensures.none in
    let never : NeverMeetAlong c.args.shared c.args.first.now c.args.second.now c.as_slice-2.result.now =
    subst (λ (o : Option Met). IfNone o (NeverMeetAlong c.args.shared c.args.first.now c.args.second.now c.as_slice-2.result.now)) c.in-None.is empty in
    never-line c.args.shared c.args.first.now c.args.second.now c.args.declared.now c.args.bounds.now
    (subst (NeverMeetAlong c.args.shared c.args.first.now c.args.second.now) line never)

-- the indexes that are below the bounds are those of a cell
pub returns-then-are_written_below-clause-found : goal.returns-then-are_written_below-clause-found
returns-then-are_written_below-clause-found c =
    let declared = c.args.declared.now in
    let bounds = c.args.bounds.now in
    let line : c.as_slice-2.result.now ≡ cell_line declared bounds = search rules in
    let there : IfSome c.in_ok-meeting_along.field-0 (IsMetAlong c.args.shared c.args.first.now c.args.second.now c.as_slice-2.result.now) =
    c.in_ok-meeting_along.ensures.found in
    let met : IsMetAlong c.args.shared c.args.first.now c.args.second.now c.as_slice-2.result.now c.in-Some.met =
    subst (λ (o : Option Met). IfSome o (IsMetAlong c.args.shared c.args.first.now c.args.second.now c.as_slice-2.result.now)) c.in-Some.is there in
    let elems : c.as_slice-in-Some-2.result.now ≡ drop (length declared) c.in-Some.met.elems = search rules in
    let is : c.from.result ≡ drop (length declared) c.in-Some.met.elems = search rules in
    subst (λ (es : List Elem). IsMetAfter c.args.shared c.args.first.now c.args.second.now declared bounds (record { elems = es; values = c.in-Some.met.values })) (sym is)
    (met-within c.args.shared c.args.first.now c.args.second.now declared bounds c.in-Some.met
    (subst (λ (zs : List (Option Elem)). IsMetAlong c.args.shared c.args.first.now c.args.second.now zs c.in-Some.met) line met)
    (ap (written_below bounds) (sym elems) ∙ sym c.are_written_below.ensures ∙ c.if-are_written_below.true))

-- where the indexes are not below, no others are
pub returns-clause-none : goal.returns-clause-none
returns-clause-none c =
    let declared = c.args.declared.now in
    let bounds = c.args.bounds.now in
    let line : c.as_slice-2.result.now ≡ cell_line declared bounds = search rules in
    let there : IfSome c.in_ok-meeting_along.field-0 (IsForcedAlong c.args.shared c.args.first.now c.args.second.now c.as_slice-2.result.now) =
    c.in_ok-meeting_along.ensures.forced in
    let forced : IsForcedAlong c.args.shared c.args.first.now c.args.second.now c.as_slice-2.result.now c.in-Some.met =
    subst (λ (o : Option Met). IfSome o (IsForcedAlong c.args.shared c.args.first.now c.args.second.now c.as_slice-2.result.now)) c.in-Some.is there in
    let elems : c.as_slice-in-Some-2.result.now ≡ drop (length declared) c.in-Some.met.elems = search rules in
    never-below c.args.shared c.args.first.now c.args.second.now declared bounds c.in-Some.met
    (subst (λ (zs : List (Option Elem)). IsForcedAlong c.args.shared c.args.first.now c.args.second.now zs c.in-Some.met) line forced)
    (ap (written_below bounds) (sym elems) ∙ sym c.are_written_below.ensures ∙ c.if-are_written_below.false)
