use Rattle.run_notes.proofs.journals.answer_moves.Goals as goal

-- the run has its answer
pub returns-clause-told : goal.returns-clause-told
returns-clause-told c = record {
  journal = c.in_ok-journal.journal;
  st = c.in_ok-journal.st;
  replayed = c.in_ok-journal.ensures.replayed;
  told = c.in_ok-answer.ensures;
}
