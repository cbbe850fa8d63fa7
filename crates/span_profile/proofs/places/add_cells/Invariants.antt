use Rattle.span_profile.specs.inner.Numbering.{AreNumbered, IsNumber, KeepsNumbers, decl_parts, decl_paths}
use Rattle.span_profile.proofs.places.add_cells.Given as goal

-- the cells up to here have their numbers
abbrev pub invariant-loop-place : goal.invariant-loop-place
invariant-loop-place l = record {
  keeps : KeepsNumbers l.fn.tree l.tree;
  base : IsNumber l.tree l.base (decl_parts l.decl);
  numbers : AreNumbered l.fn.tree l.fn.numbers l.tree l.numbers (decl_paths l.decl l.place);
}
