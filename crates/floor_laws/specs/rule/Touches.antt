-- What an open segment has done to the cells so far.
use Rattle.std.specs.Prelude.{◌≡◌, ◌⊎◌, ◌==◌, ℕ, ℤ, Bool, true, false, List, [], ◌∷◌, length, Contains, Option, Some, None, if◌then◌else◌, slice_get}
use Rattle.twe_program.specs.Program.{Program, cell_count}
use Rattle.seg_meaning.specs.declared.frame.Frame.{Frame}
use Rattle.seg_meaning.specs.Access.{Access, Agrees, Reads, Writes, Prints, after, value_in}
use Rattle.seg_meaning.specs.Segment.{segment}
use Rattle.isolation_laws.specs.soundness.DeclaredNow.{access_of}
use Rattle.floor_laws.specs.declared.rule.view.OpenSegment.{OpenSegment}
use Rattle.floor_laws.specs.declared.rule.view.Touch.{Touch}
use Rattle.floor_laws.specs.declared.rule.view.Touch.TheVariants.{Read, Write}

-- the touch as an access of a segment, with the same cell and value
abbrev pub access_by : Touch → Access
access_by (Read cell value) = Reads cell value
access_by (Write cell value) = Writes cell value

-- the touches as accesses of a segment
abbrev pub accesses_of : List Touch → List Access
accesses_of [] = []
accesses_of (touch ∷ touches) = access_by touch ∷ accesses_of touches

-- Touches stand for the accesses of a segment: the accesses agree with all cells of the program with which the touches agree,
-- and leave the cells that the touches leave. So a cell whose value is known needn't be read again, and of two writes of a cell
-- between which no other cell is touched the later one is enough.
pub record StandFor (p : Program) (touches : List Touch) (accesses : List Access) : Type 0 where
  pub agree : (cells : List ℤ) → length cells ≡ cell_count p → Agrees cells (accesses_of touches) → Agrees cells accesses
  pub same : (cells : List ℤ) → length cells ≡ cell_count p → Agrees cells (accesses_of touches)
      → after cells accesses ≡ after cells (accesses_of touches)

-- one of the accesses writes the cell
abbrev pub is_written : ℕ → List Access → Bool
is_written c [] = false
is_written c (Reads cell value ∷ earlier) = is_written c earlier
is_written c (Writes cell value ∷ earlier) = if cell == c then true else is_written c earlier
is_written c (Prints value ∷ earlier) = is_written c earlier

-- the value of a cell
abbrev pub cell_at : List ℤ → ℕ → ℤ
cell_at cells c = value_in (slice_get cells c)

-- The segment that starts from this frame makes such an access over some list of cells: of the same concrete path, and a write
-- if it is one. Its value doesn't count.
pub record IsAccessFrom (p : Program) (frame : Frame) (access : Access) : Type 0 where
  pub cells : List ℤ
  pub made : Access
  pub makes : Contains (segment p frame cells).accesses made
  pub same : access_of p made ≡ access_of p access

-- the cells that the segment in hand has touched, the latest first; none if no segment is open
abbrev pub touches_of : Option OpenSegment → List Touch
touches_of None = []
touches_of (Some open_segment) = open_segment.touches
