use Rattle.std.proofs.Common.{◌≡◌, ◌∙◌, None, refl, sym, ap, subst}
use Rattle.twe_io.specs.declared.status.Status.TheVariants.{Usage}
use Rattle.twe_io.specs.Answers.{on_err}
use Rattle.twe_io.specs.Ends.{source}
use Rattle.twe_report.specs.Causes.{TextCause}
use Rattle.twe_report.proofs.run.answer.Goals as goal

-- the words ask for nothing
pub returns-in_ok-usage_text-in-None : goal.returns-in_ok-usage_text-in-None
returns-in_ok-usage_text-in-None g c =
    let src = source g.S.Source.left g.S.Source.faults g.S.Source.read_gives in
    let none : g.P.TextProgram.asked c.args.words.now ≡ None = sym c.in_ok-wanted.ensures ∙ c.in-None.is in
    subst (TextCause g.P.TextProgram.asked g.P.TextProgram.usage g.P.TextProgram.due src c.args.words.now c.args.src.now c.args.src.now)
    (sym (c.on_err.ensures ∙ ap (on_err Usage) c.in_ok-usage_text-in-None.ensures))
    (TextCause.not_asked none refl)

-- the words ask for this
pub answer_source-requires : goal.answer_source-requires
answer_source-requires g c = sym c.in_ok-wanted.ensures ∙ c.in-Some.is
