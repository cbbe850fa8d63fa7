use Rattle.std.proofs.Common.{◌≡◌, ◌++◌, drop}
use Rattle.summary_comparing.specs.ChainTexts.{more_places}
use Rattle.summary_comparing.proofs.chain_lines.push_more_places.Given as goal

-- the places so far and those of what is left are those of all
abbrev pub invariant-loop-place : goal.invariant-loop-place
invariant-loop-place l = l.text ++ more_places (drop l.place-index l.places) ≡ l.fn.text ++ more_places l.places
