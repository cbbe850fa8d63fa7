use Rattle.std.proofs.Common.{[], ◌∷◌, take}
use Rattle.region_paths.specs.Concrete.{region}
use Rattle.span_profile.specs.inner.Numbering.{IsNumber, Numbered, parts_of}
use Rattle.span_profile.proofs.Numbers.{all_paths}
use Rattle.span_profile.proofs.places.number_places.Given as goal

-- the cells of the declarations up to here have their numbers
abbrev pub invariant-loop-decl : goal.invariant-loop-decl
invariant-loop-decl l = record {
  console : IsNumber l.tree l.console (parts_of (region 0 ∷ []));
  cells : Numbered l.tree l.cells (all_paths (take l.decl-index l.decl-items));
}
