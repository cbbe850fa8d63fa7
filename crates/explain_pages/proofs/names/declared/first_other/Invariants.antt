use Rattle.std.proofs.Common.{◌≡◌, drop}
use Rattle.explain_pages.specs.names.Declaring.{first_other}
use Rattle.explain_pages.proofs.names.declared.first_other.Given as goal

-- what is found in all of them is found from here on
abbrev pub invariant-loop-name : goal.invariant-loop-name
invariant-loop-name l = first_other l.word l.place (drop l.name-index l.names) ≡ first_other l.word l.place l.names
