use Rattle.std.proofs.Common.{◌≡◌, ℕ, List, ◌∙◌, sym, ap, subst}
use Rattle.twe_ast.specs.declared.item.Item.{Item}
use Rattle.twe_ast.specs.declared.name.Name as written
use Rattle.twe_program.specs.Program.{Program}
use Rattle.twe_base.specs.declared.place.Place.{Place}
use Rattle.twe_io.specs.declared.status.Status.TheVariants.{Refused}
use Rattle.twe_io.specs.Answers.{on_out}
use Rattle.explain_pages.specs.declared.places.note.Explanation.{Explanation}
use Rattle.refusal_notes.specs.declared.mends.Mend.{Mend}
use Rattle.refusal_notes.specs.Answers.{AreMendsOf, ExplainDue, caused_explanation}
use Rattle.refusal_notes.specs.Meetings.{IsMeetingTold}
use Rattle.refusal_notes.specs.Mends.{AreMends}
use Rattle.refusal_notes.specs.Explanation.{explanation_by}
use Rattle.explain_pages.specs.Page.{refused_text}
use Rattle.explain_pages.specs.names.Variables.{variables_at}
use Rattle.refusal_notes.specs.Explanation.{place_of_cause}
use Rattle.refusal_notes.proofs.answering.answer_caused.Goals as goal

-- what is said of the refusal and its cause, of where its effects meet, and of the edits that mend it
pub returns : goal.returns
returns c =
    let wanted = c.args.wanted.now in
    let text = c.args.text.now in
    let refusal = c.args.refusal in
    let cause = c.args.cause.now in
    let tree = c.args.tree.now in
    let p = c.args.p.now in
    let told = c.tell_meeting.new.remarks in
    let remarks = c.try_mends.new.remarks in
    let variables = variables_at tree.items (place_of_cause cause) in
    let items : c.as_slice.result.now ≡ tree.items = c.as_slice.ensures in
    let names : c.in_ok-names.names ≡ variables =
    c.in_ok-names.ensures
    ∙ ap (λ (xs : List Item). variables_at xs c.place_of_cause.result) items
    ∙ ap (λ (place : Place). variables_at tree.items place) c.place_of_cause.ensures in
    let regions : c.as_slice-regions.result.now ≡ p.regions = c.as_slice-regions.ensures ∙ ap (λ (q : Program). q.regions) c.p.view_is in
    let is : c.in_ok-explanation.explanation ≡ caused_explanation refusal cause tree p =
    c.in_ok-explanation.ensures
    ∙ ap (λ (xs : List (List ℕ)). explanation_by refusal cause xs c.as_slice-3.result.now) regions
    ∙ ap (λ (xs : List written.Name). explanation_by refusal cause p.regions xs) (c.as_slice-3.ensures ∙ names) in
    let mends : List Mend = c.as_slice-5.result.now in
    let by_regions : AreMends text refusal.place cause p.regions c.as_slice-2.result.now c.in_ok-mends.mends =
    subst (λ (xs : List (List ℕ)). AreMends text refusal.place cause xs c.as_slice-2.result.now c.in_ok-mends.mends) regions
    c.in_ok-mends.ensures in
    let by_names : AreMends text refusal.place cause p.regions variables c.in_ok-mends.mends =
    subst (λ (xs : List written.Name). AreMends text refusal.place cause p.regions xs c.in_ok-mends.mends) (c.as_slice-2.ensures ∙ names)
    by_regions in
    let may_mend : AreMendsOf text refusal cause tree p mends =
    subst (λ (ms : List Mend). AreMends text refusal.place cause p.regions variables ms) (sym c.as_slice-5.ensures) by_names in
    let named : c.as_slice-4.result.now ≡ variables = c.as_slice-4.ensures ∙ names in
    let at_once : IsMeetingTold p c.as_slice-4.result.now cause (caused_explanation refusal cause tree p).remarks told =
    subst (λ (e : Explanation). IsMeetingTold p c.as_slice-4.result.now cause e.remarks told) is c.in_ok-tell_meeting.ensures in
    let before : IsMeetingTold p variables cause (caused_explanation refusal cause tree p).remarks told =
    subst (λ (xs : List written.Name). IsMeetingTold p xs cause (caused_explanation refusal cause tree p).remarks told) named at_once in
    subst (ExplainDue wanted text)
    (sym (c.on_out.ensures ∙ ap (on_out Refused) (c.in_ok-lines.ensures
    ∙ ap (λ (e : Explanation). refused_text wanted text refusal (record e { remarks = remarks })) is)))
    (ExplainDue.caused refusal cause tree p mends told remarks c.requires before may_mend c.in_ok-try_mends.ensures)
