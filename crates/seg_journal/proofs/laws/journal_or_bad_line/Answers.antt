use Rattle.seg_journal.proofs.BadLines.{none_bad}
use Rattle.seg_journal.proofs.EitherWay.{either_way}
use Rattle.seg_journal.proofs.laws.journal_or_bad_line.Goals as goal

pub returns-clause-either : goal.returns-clause-either
returns-clause-either c = either_way

pub returns-clause-never_both : goal.returns-clause-never_both
returns-clause-never_both c text journal bad =
    let (head, moves, spells) = journal in
    let (number, first) = bad in
    none_bad text head moves number spells first
