use Rattle.std.proofs.Common.{subst}
use Rattle.twe_program.specs.WellFormed.{IsWellFormed}
use Rattle.span_profile.proofs.Tracking.{start_cells}
use Rattle.held_span.proofs.Starts.{spans_first}
use Rattle.held_span.proofs.spanning.Spanning.start.Goals as goal

pub new-requires : goal.new-requires
new-requires c =
    let well = subst IsWellFormed c.p.view_is c.p.invariant in
    start_cells c.args.p.now c.args.lim well c.len-cells.result c.in_ok-st.st c.in_ok-st.ensures c.len-cells.ensures

pub returns : goal.returns
returns c = λ rows journal plan.
    spans_first c.args.p.now c.args.lim c.args.marks.now rows journal plan _ c.in_ok-st.ensures c.in_ok-new.ensures c.in_ok-new-2.ensures.room c.in_ok-new-2.ensures.none c.in_ok-new-2.ensures.ways c.in_ok-new-3.ensures c.new-4.ensures
