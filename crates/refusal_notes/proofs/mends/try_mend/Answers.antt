use Rattle.std.proofs.Common.{◌∙◌, ◌∷◌, [], ◌++◌, List, ℕ, true, false, refl, ap, subst}
use Rattle.refusal_notes.specs.Mends.{IsTried, TellsAcceptance}
use Rattle.refusal_notes.proofs.mends.try_mend.Goals as goal

-- the text is accepted after it
pub returns-in_ok-push : goal.returns-in_ok-push
returns-in_ok-push c =
    let mend = c.args.mend.now in
    let read = subst (TellsAcceptance c.as_slice.result.now) c.if-branch.true c.in_ok-is_accepted.ensures in
    let is = subst (λ (text : List ℕ). TellsAcceptance text true) c.as_slice.ensures read in
    IsTried.accepted is.0 is.1
    (c.in_ok-push.ensures.ok ∙ ap (λ (remark : List ℕ). c.args.remarks.now ++ remark ∷ []) c.in_ok-mend_remark.ensures)

-- it is refused after it
pub returns-else-branch : goal.returns-else-branch
returns-else-branch c =
    let read = subst (TellsAcceptance c.as_slice.result.now) c.if-branch.false c.in_ok-is_accepted.ensures in
    let is = subst (λ (text : List ℕ). TellsAcceptance text false) c.as_slice.ensures read in
    IsTried.refused is.0 is.1 refl
