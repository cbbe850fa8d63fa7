use Rattle.machine_state.proofs.segment_laws.SegmentKept.{segment_keeps}
use Rattle.machine_state.proofs.segment_laws.segments_keep.Goals as goal

pub returns : goal.returns
returns c = segment_keeps
