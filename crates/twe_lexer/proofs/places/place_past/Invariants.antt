use Rattle.std.proofs.Common.{◌≡◌, ℕ, ◌+◌, ◌≤◌, List, ◌++◌, take}
use Rattle.twe_lexer.specs.Places.{place_after}
use Rattle.twe_lexer.proofs.places.place_past.Given as goal

abbrev pub invariant-loop-byte : goal.invariant-loop-byte
invariant-loop-byte l = record {
  lines : l.place.line ≤ l.fn.place.line + l.byte-index;
  columns : l.place.col ≤ l.fn.place.col + l.byte-index;
  place_is : (before : List ℕ) → l.fn.place ≡ place_after before → l.place ≡ place_after (before ++ take l.byte-index l.bytes);
}
