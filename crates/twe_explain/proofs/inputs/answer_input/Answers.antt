use Rattle.std.proofs.Common.{refl}
use Rattle.twe_explain.specs.Inputs.{InputDue}
use Rattle.twe_explain.proofs.inputs.answer_input.Goals as goal

-- the input is a text
pub returns-in_ok-answer-in-None : goal.returns-in_ok-answer-in-None
returns-in_ok-answer-in-None c = InputDue.whole (c.in-None.ensures.none refl) c.in_ok-answer-in-None.ensures
