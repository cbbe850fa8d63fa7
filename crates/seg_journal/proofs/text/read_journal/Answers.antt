use Rattle.seg_journal.proofs.ReadLaws.{reads_spelled, names_first}
use Rattle.seg_journal.proofs.text.read_journal.Goals as goal

pub returns-clause-only : goal.returns-clause-only
returns-clause-only c = reads_spelled _ _ c.read_lines.ensures.spelled c.read_lines.ensures.bad_line

pub returns-clause-first_bad : goal.returns-clause-first_bad
returns-clause-first_bad c = names_first _ _ c.read_lines.ensures.spelled c.read_lines.ensures.bad_line
