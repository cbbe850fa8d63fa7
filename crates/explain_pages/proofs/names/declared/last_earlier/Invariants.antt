use Rattle.std.proofs.Common.{◌≡◌, None, drop}
use Rattle.explain_pages.specs.names.Declaring.{last_earlier}
use Rattle.explain_pages.proofs.names.declared.last_earlier.Given as goal

-- what is found in all of them is found from here on
abbrev pub invariant-loop-name : goal.invariant-loop-name
invariant-loop-name l = last_earlier l.found l.word l.place (drop l.name-index l.names) ≡ last_earlier None l.word l.place l.names
