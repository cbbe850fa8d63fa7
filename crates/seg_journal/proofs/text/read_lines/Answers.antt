use Rattle.std.proofs.Common.{Err, ap}
use Rattle.seg_journal.proofs.BadLines.{first_bad}
use Rattle.seg_journal.proofs.ReadLaws.{passed_on}
use Rattle.seg_journal.proofs.text.read_lines.Goals as goal

pub returns-in_err-moves-clause-bad_line : goal.returns-in_err-moves-clause-bad_line
returns-in_err-moves-clause-bad_line c n e =
    let same = passed_on _ _ _ c.from_residual.ensures.1 e in
    let stops = c.in_err-moves.ensures.bad_line n (ap Err same) in
    first_bad _ _ _ _ _ c.split_head-head.ensures.split c.split_head-head.ensures.limits c.split_head-head.ensures.headless c.split_head-head.ensures.counted stops
