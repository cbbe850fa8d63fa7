use Rattle.std.proofs.Common.{◌∙◌, ◌≤◌, List, length, inl, inr, ap, sym, subst}
use Rattle.std.proofs.lemmas.Bool.{cases_lt, false≢true}
use Rattle.twe_io.specs.declared.status.Status.TheVariants.{Refused}
use Rattle.twe_io.specs.Answers.{on_out}
use Rattle.refusal_causes.specs.declared.found.CausedFailure.{CausedFailure}
use Rattle.refusal_causes.specs.Listing.{AreAllCauses}
use Rattle.refusal_notes.specs.AllFailures.{AllDue}
use Rattle.refusal_notes.proofs.all_failures.answer_late.Goals as goal

-- there are several
pub returns-then-are_several : goal.returns-then-are_several
returns-then-are_several c =
    let p = c.args.p.now in
    let failures : List CausedFailure = c.as_slice-failures.result.now in
    let causes : AreAllCauses p failures =
    subst (λ (xs : List CausedFailure). AreAllCauses p xs) (sym c.as_slice-failures.ensures) c.in_ok-made.ensures in
    subst (AllDue c.args.wanted.now c.args.text.now) (sym (c.on_out.ensures ∙ ap (on_out Refused) c.in_ok-pages.ensures))
    (AllDue.several p c.args.tree.now failures c.requires.parsed c.requires.meant c.requires.of_tree causes
    (c.are_several.ensures.0 c.if-are_several.true))

-- there is one
pub returns : goal.returns
returns c =
    let p = c.args.p.now in
    let failures : List CausedFailure = c.as_slice-failures.result.now in
    let causes : AreAllCauses p failures =
    subst (λ (xs : List CausedFailure). AreAllCauses p xs) (sym c.as_slice-failures.ensures) c.in_ok-made.ensures in
    let few : length failures ≤ 1 = elim (cases_lt 1 (length failures)) [
      | inl several ↦ absurd (false≢true (sym c.if-are_several.false ∙ c.are_several.ensures.1 several))
      | inr few ↦ few
    ] in
    AllDue.single p failures c.requires.meant causes few c.in_ok-answer.ensures
