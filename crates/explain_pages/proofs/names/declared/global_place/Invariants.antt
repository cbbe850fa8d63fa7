use Rattle.std.proofs.Common.{◌≡◌, drop}
use Rattle.explain_pages.specs.names.Declaring.{global_place}
use Rattle.explain_pages.proofs.names.declared.global_place.Given as goal

-- what is found in all of them is found from here on
abbrev pub invariant-loop-item : goal.invariant-loop-item
invariant-loop-item l = global_place l.word l.place (drop l.item-index l.items) ≡ global_place l.word l.place l.items
