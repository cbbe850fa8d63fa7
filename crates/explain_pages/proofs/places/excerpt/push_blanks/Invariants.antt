use Rattle.std.proofs.Common.{◌≡◌, ◌++◌}
use Rattle.explain_pages.specs.places.Excerpt.{blanks}
use Rattle.explain_pages.proofs.places.excerpt.push_blanks.Given as goal

-- so many blanks are appended
abbrev pub invariant-loop : goal.invariant-loop
invariant-loop l = l.text ≡ l.fn.text ++ blanks l.counter
