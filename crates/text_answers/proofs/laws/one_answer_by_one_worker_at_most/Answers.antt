use Rattle.text_answers.proofs.Alone.{answer_by_any}
use Rattle.text_answers.proofs.OneAnswer.{one_answer_to}
use Rattle.text_answers.proofs.laws.one_answer_by_one_worker_at_most.Goals as goal

pub returns-clause-one : goal.returns-clause-one
returns-clause-one c =
    one_answer_to c.one_program.ensures c.one_refusal.ensures c.refused_or_accepted.ensures.never_both c.one_lowest_first.ensures

-- by one worker the answer is that without workers
pub returns-clause-alone : goal.returns-clause-alone
returns-clause-alone c command input answer other few is also =
    returns-clause-one c command input answer other few is (answer_by_any command input other also)
