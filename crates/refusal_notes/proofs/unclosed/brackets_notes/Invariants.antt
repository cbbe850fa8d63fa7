use Rattle.std.proofs.Common.{◌≡◌, ◌++◌, drop}
use Rattle.std.specs.List.{flat_map}
use Rattle.refusal_notes.specs.Unclosed.{bracket_notes}
use Rattle.refusal_notes.proofs.unclosed.brackets_notes.Given as goal

-- the notes so far, with those that are left
abbrev pub invariant-loop-place : goal.invariant-loop-place
invariant-loop-place l = l.notes ++ flat_map bracket_notes (drop l.place-index l.places) ≡ flat_map bracket_notes l.places
