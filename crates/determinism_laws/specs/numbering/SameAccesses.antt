-- Segments of frames that are the same but for numbers, over cells that have the values that are read.
use Rattle.std.specs.Prelude.{◌≡◌, ℤ, List}
use Rattle.twe_program.specs.Program.{Program}
use Rattle.seg_meaning.specs.declared.frame.Frame.{Frame}
use Rattle.seg_meaning.specs.Access.{after}
use Rattle.seg_meaning.specs.Segment.{segment}
use Rattle.determinism_laws.specs.numbering.Renumbering.{Numbering, SameButNumbers, stop_renumbered}

-- The segment of `frame` over `others` does what that of `other` over `cells` does: it makes the same accesses, and leaves a
-- frame and a stop that are the same but for the numbers.
pub record DoesTheSame (p : Program) (to : Numbering) (frame other : Frame) (cells others : List ℤ) : Type 0 where
  pub accesses : (segment p frame others).accesses ≡ (segment p other cells).accesses
  pub leaves : (segment p frame others).cells ≡ after others (segment p other cells).accesses
  pub frames : SameButNumbers to (segment p frame others).frame (segment p other cells).frame
  pub stops : stop_renumbered to (segment p frame others).stop ≡ (segment p other cells).stop
