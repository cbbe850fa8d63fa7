use Rattle.std.proofs.Common.{sym, arith}
use Rattle.std.proofs.lemmas.List.{length-take-le, take_all}
use Rattle.run_notes.proofs.cycles.shown_edges.Goals as goal

-- there are more than so many
pub slice_bounds-result-end : goal.slice_bounds-result-end
slice_bounds-result-end c = sym (length-take-le 50 c.args.cycle.now (omega arith))

-- or no more
pub returns-then-cycle-le-MOST_EDGES : goal.returns-then-cycle-le-MOST_EDGES
returns-then-cycle-le-MOST_EDGES c = sym (take_all 50 c.args.cycle.now (omega arith))
