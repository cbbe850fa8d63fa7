use Rattle.seg_meaning.proofs.PlainLists.{plain_segment}
use Rattle.seg_meaning.proofs.laws.over_a_list_it_is_the_segment.Goals as goal

pub returns : goal.returns
returns c = plain_segment
