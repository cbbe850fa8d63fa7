use Rattle.text_answers.proofs.WrittenJournals.{written_replays}
use Rattle.text_answers.proofs.laws.written_journals_replay.Goals as goal

pub returns : goal.returns
returns c = written_replays c.one_program.ensures c.refused_or_accepted.ensures.never_both
