use Rattle.std.proofs.Common.{◌≡◌, ◌-◌, None, Some, sym, ap, ◌∙◌, subst}
use Rattle.std.specs.Prelude.{slice_get}
use Rattle.twe_io.specs.declared.status.Status.TheVariants.{Done, Refused}
use Rattle.twe_io.specs.Answers.{on_err, on_out}
use Rattle.twe_explore.specs.Answers.{ExploreDue}
use Rattle.twe_explore.proofs.answering.answer_one.Goals as goal

-- there are fewer results
pub returns-in_ok-line-in-None : goal.returns-in_ok-line-in-None
returns-in_ok-line-in-None c =
    let found = c.args.found.now in
    let none : slice_get found.ended (c.args.number - 1) ≡ None = ap (slice_get found.ended) (sym c.saturating_sub.ensures) ∙ sym c.in-None.ensures in
    subst (ExploreDue c.args.question.now c.args.text.now) (sym (c.on_err.ensures ∙ ap (on_err Refused) c.in_ok-line-in-None.ensures))
    (ExploreDue.no_result c.args.p.now found c.args.number c.requires.wanted c.requires.accepted c.requires.found none)

-- this is the result
pub returns-in_ok-lines-in-Some : goal.returns-in_ok-lines-in-Some
returns-in_ok-lines-in-Some c =
    let found = c.args.found.now in
    let run = c.in-Some.run'.now in
    let there : slice_get found.ended (c.args.number - 1) ≡ Some run = ap (slice_get found.ended) (sym c.saturating_sub.ensures) ∙ sym c.in-Some.ensures in
    subst (ExploreDue c.args.question.now c.args.text.now) (sym (c.on_out.ensures ∙ ap (on_out Done) c.in_ok-lines-in-Some.ensures))
    (ExploreDue.journal_of c.args.p.now found c.args.number run c.requires.wanted c.requires.accepted c.requires.found there)
