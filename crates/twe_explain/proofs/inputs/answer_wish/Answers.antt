use Rattle.twe_explain.specs.Inputs.{WishDue}
use Rattle.twe_explain.proofs.inputs.answer_wish.Goals as goal

-- no run is asked for
pub returns-in_ok-answer-in-None : goal.returns-in_ok-answer-in-None
returns-in_ok-answer-in-None c = WishDue.unrun c.in-None.is c.in_ok-answer-in-None.ensures

-- or it is
pub returns-in_ok-answer-in-Some : goal.returns-in_ok-answer-in-Some
returns-in_ok-answer-in-Some c = WishDue.run c.in-Some.lim c.in-Some.is c.in_ok-answer-in-Some.ensures
