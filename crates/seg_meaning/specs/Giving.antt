-- How a frame that waits takes the awaited value.
use Rattle.std.specs.Prelude.{ℕ, ℤ, ◌==◌, List, [], ◌∷◌, Option, None, Some, if◌then◌else◌, slice_set}
use Rattle.seg_meaning.specs.declared.frame.OpenBody.{OpenBody}
use Rattle.seg_meaning.specs.declared.frame.Frame.{Frame}
use Rattle.seg_meaning.specs.declared.frame.Next.{Next}
use Rattle.seg_meaning.specs.declared.frame.Next.TheVariants.{Go, Get, Join, Closing, Ended}

-- the children without this one
abbrev pub without : ℕ → List ℕ → List ℕ
without child [] = []
without child (first ∷ others) = if first == child then others else (first ∷ without child others)

-- the variables once the one that takes the value, if any does, has it
abbrev pub vars_with : Option ℕ → ℤ → List ℤ → List ℤ
vars_with None value vars = vars
vars_with (Some var) value vars = slice_set vars var value

-- the same for the body of a frame, if it has not ended
abbrev pub body_with : Option ℕ → ℤ → Option OpenBody → Option OpenBody
body_with into value None = None
body_with into value (Some body) = Some (record body { vars = vars_with into value body.vars })

-- the frame takes the value and can run its next segment; a joined child is no longer among its unjoined children. A
-- frame that does not wait stays as it is.
abbrev pub given_by : Next → Frame → ℤ → Frame
given_by Go frame value = frame
given_by (Get on into) frame value = record frame { body = body_with into value frame.body; next = Go }
given_by (Join on into) frame value = record frame {
  body = body_with into value frame.body;
  out = record frame.out { items = without on frame.out.items };
  next = Go;
}
given_by (Closing on) frame value = record frame { out = record frame.out { items = without on frame.out.items }; next = Go }
given_by Ended frame value = frame

-- the frame takes the value of what it waits for
abbrev pub given : Frame → ℤ → Frame
given frame value = given_by frame.next frame value
