use Rattle.std.proofs.Common.{◌≡◌, IfOk, ap, sym, ◌∙◌, subst}
use Rattle.std.specs.List.{AllZip}
use Rattle.rayon.proofs.ToStd.{slice-AllZip}
use Rattle.text_answers.specs.Answers.{IsAnswerTo}
use Rattle.par_check.specs.Batch.{command_of}
use Rattle.par_check.proofs.Answered.{all-answered}
use Rattle.par_check.proofs.answers.answer_all.Goals as goal

-- each result is the answer to its program
pub returns : goal.returns
returns g c =
    let answers = IsAnswerTo (command_of c.args.job) in
    let h = c.in_ok-answers.ensures in
    let chain = rw (c.map.ensures.base, c.map.ensures.f) at h.1 in
    let made = rw c.in_ok-answers-2.was at h.2 in
    let slice = ap (λ it. it.slice.now) c.with_min_len.ensures.base ∙ (c.par_iter.ensures ∙ c.as_slice.ensures) in
    let zipped = slice-AllZip chain.0 c.args.texts.now (chain.1 ∙ slice) (λ text result. IfOk result (answers text)) h.0 chain.2 in
    subst (AllZip answers c.args.texts.now) (sym (c.from.ensures ∙ made.2)) (all-answered answers c.args.texts.now h.0 made.0 made.1 zipped)
