use Rattle.std.proofs.Common.{refl, sym}
use Rattle.text_answers.proofs.Cuts.{unmarked_journal, unmarked_program}
use Rattle.text_answers.proofs.input.cut_input.Goals as goal

-- there is no mark
pub returns-in-None-clause-program : goal.returns-in-None-clause-program
returns-in-None-clause-program c = sym (unmarked_program c.args.input.now (c.in-None.ensures.none refl))

pub returns-in-None-clause-journal : goal.returns-in-None-clause-journal
returns-in-None-clause-journal c = sym (unmarked_journal c.args.input.now (c.in-None.ensures.none refl))
