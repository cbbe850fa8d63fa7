use Rattle.std.proofs.Common.{◌≡◌, drop, length}
use Rattle.opt_engine.specs.inner.Hinting.{without_marks}
use Rattle.opt_engine.proofs.scratch.unmark.Given as goal

abbrev pub invariant-loop-at : goal.invariant-loop-at
invariant-loop-at l = record {
  unmarked : without_marks l.marks (drop l.at-index l.cells) ≡ without_marks l.fn.marks l.cells;
  long : length l.marks ≡ length l.fn.marks;
}
