use Rattle.std.proofs.Common.{refl, ap, ◌∙◌, subst}
use Rattle.twe_program.specs.Program.{Program}
use Rattle.twe_program.specs.WellFormed.{IsWellFormed}
use Rattle.span_profile.specs.inner.Sets.{no_cells}
use Rattle.span_profile.proofs.Tracking.{start_cells, tracked_start}
use Rattle.span_profile.proofs.profiling.Tracked.start.Goals as goal

pub returns-clause-tracked : goal.returns-clause-tracked
returns-clause-tracked c =
    let well = subst (λ (p : Program). IsWellFormed p) c.p.view_is c.p.invariant in
    let size = start_cells c.args.p.now c.args.lim well c.len-size.result c.in_ok-st.st c.in_ok-st.ensures c.len-size.ensures in
    tracked_start c.args.p.now c.args.lim _ c.in_ok-st.ensures c.new-2.ensures refl c.in_ok-number_places.ensures (c.in_ok-new-2.ensures ∙ ap no_cells size) (c.in_ok-new-3.ensures ∙ ap no_cells size) c.new-6.ensures (c.in_ok-new.ensures.start c.args.p.now c.args.lim) (c.new-7.ensures.trail c.args.p.now)
