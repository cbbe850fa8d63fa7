use Rattle.seg_meaning.proofs.Determined.{segment_agrees, segment_determined}
use Rattle.seg_meaning.proofs.laws.a_segment_is_determined_by_its_reads.Goals as goal

pub returns-clause-own : goal.returns-clause-own
returns-clause-own c = segment_agrees

pub returns-clause-other : goal.returns-clause-other
returns-clause-other c = segment_determined
