-- Frames without reserved memory.
use Rattle.seg_meaning.specs.declared.frame.Frame.{Frame}

-- the frame with no memory reserved for a further child
abbrev pub unreserved : Frame → Frame
unreserved frame = record frame { out = record frame.out { room = 0 } }
