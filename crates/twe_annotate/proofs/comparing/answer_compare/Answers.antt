use Rattle.std.proofs.Common.{refl, sym, subst}
use Rattle.twe_annotate.specs.Answers.{AnnotateDue}
use Rattle.twe_annotate.specs.declared.words.AnnotateRequest.TheVariants.{Compare}
use Rattle.twe_annotate.proofs.comparing.answer_compare.Goals as goal

-- the lines of the comparison
pub returns : goal.returns
returns c =
    subst (AnnotateDue Compare c.args.text.now) (sym c.answer_lines.ensures)
    (AnnotateDue.compared c.args.meaning.tree c.args.meaning.program c.in_ok-lines.lines refl c.requires c.in_ok-lines.ensures)
