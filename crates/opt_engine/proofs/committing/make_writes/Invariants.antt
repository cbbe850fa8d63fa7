use Rattle.std.proofs.Common.{◌≡◌, drop, length}
use Rattle.opt_engine.specs.Touches.{with_writes}
use Rattle.opt_engine.proofs.committing.make_writes.Given as goal

abbrev pub invariant-loop-w : goal.invariant-loop-w
invariant-loop-w l = record {
  made : with_writes l.cells (drop l.w-index l.writes) ≡ with_writes l.fn.cells l.writes;
  long : length l.cells ≡ length l.fn.cells;
}
