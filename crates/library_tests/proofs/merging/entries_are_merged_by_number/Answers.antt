use Rattle.seg_journal.proofs.Slots.{two_parts}
use Rattle.library_tests.proofs.merging.entries_are_merged_by_number.Goals as goal

pub merge_two-requires : goal.merge_two-requires
merge_two-requires g c =
    let one = c.in_ok-later.ensures in
    let two = c.in_ok-first.ensures in
    two_parts c.in_ok-later.later c.in_ok-first.first one.0 two.0 one.1 two.1 one.2 two.2
