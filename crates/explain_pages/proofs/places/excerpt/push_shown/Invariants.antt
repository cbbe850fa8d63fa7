use Rattle.std.proofs.Common.{◌≡◌, ◌++◌, drop}
use Rattle.explain_pages.specs.places.Excerpt.{shown}
use Rattle.explain_pages.proofs.places.excerpt.push_shown.Given as goal

-- the text so far, with what is left
abbrev pub invariant-loop-byte : goal.invariant-loop-byte
invariant-loop-byte l = l.text ++ shown (drop l.byte-index l.bytes) ≡ l.fn.text ++ shown l.bytes
