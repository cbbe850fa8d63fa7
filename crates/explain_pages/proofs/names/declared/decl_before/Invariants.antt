use Rattle.std.proofs.Common.{◌≡◌, drop}
use Rattle.explain_pages.specs.names.Declaring.{decl_before, before_all}
use Rattle.explain_pages.proofs.names.declared.decl_before.Given as goal

-- what is found in all of them is found from here on
abbrev pub invariant-loop-item : goal.invariant-loop-item
invariant-loop-item l = decl_before l.found l.place (drop l.item-index l.items) ≡ decl_before before_all l.place l.items
