use Rattle.std.proofs.Common.{ℕ, List, subst}
use Rattle.text_answers.specs.Input.{program_part}
use Rattle.twe_explain.specs.Inputs.{InputDue}
use Rattle.twe_explain.specs.Inputs.{PartsDue}
use Rattle.twe_explain.proofs.inputs.answer_cut.Goals as goal

-- these are its parts
pub returns : goal.returns
returns c =
    let wanted = c.args.wanted.now in
    let input = c.args.input.now in
    let answer = c.in_ok-answer.answer in
    InputDue.parts c.requires.mark
    (subst (λ (journal : List ℕ). PartsDue c.args.all wanted (program_part input) journal answer) c.requires.journal
    (subst (λ (text : List ℕ). PartsDue c.args.all wanted text c.args.parts.1.now answer) c.requires.text c.in_ok-answer.ensures))
