use Rattle.std.proofs.Common.{◌≡◌, ◌+◌, ℕ, ℤ, List, length, nat_lt, refl, ap, ◌∙◌, subst, arith}
use Rattle.twe_program.specs.Program.{Program, cell_count}
use Rattle.twe_program.specs.WellFormed.{IsWellFormed}
use Rattle.seg_meaning.specs.declared.frame.Frame.{Frame}
use Rattle.seg_meaning.proofs.Accesses.{may_carry_out}
use Rattle.machine_state.proofs.tasks.OneSegment.{run_settled, run_settles}
use Rattle.machine_state.proofs.lists.Places.{below_there}
use Rattle.span_profile.specs.inner.Sets.{NumberSet}
use Rattle.span_profile.proofs.FuelTaken.{ready_fuel}
use Rattle.span_profile.proofs.Ran.{has_done, lent, segment_lent}
use Rattle.span_profile.proofs.Watching.{may_carry_watched}
use Rattle.span_profile.proofs.running.run.Goals as goal

-- there are as many cells as the sets may have
pub run_segment-requires : goal.run_segment-requires
run_segment-requires c =
    let p = c.args.p.now in
    let well : IsWellFormed p = subst (λ (q : Program). IsWellFormed q) c.p.view_is c.p.invariant in
    let reads = ap (λ (s : NumberSet). s.size) c.requires.reads in
    let writes = ap (λ (s : NumberSet). s.size) c.requires.writes in
    let many : length c.swap.new.x ≡ cell_count p = ap (λ (l : List ℤ). length l) c.swap.ensures.x_after ∙ c.requires.cells in
    may_carry_watched p c.take_ready-frame.result (record { values = c.swap.new.x; reads = c.args.watched.now.reads; writes = c.args.watched.now.writes })
    (λ cell below. record { value = below; read = omega (arith, below, many, reads); written = omega (arith, below, many, writes) })
    (may_carry_out p well c.swap.new.x many c.take_ready-frame.result)

pub overflow_add-weight : goal.overflow_add-weight
overflow_add-weight c =
    let st = c.args.st.now in
    let row = below_there st.tasks c.args.t c.requires.there in
    let fuel = ap (λ (f : Frame). f.fuel) (c.take_ready-frame.ensures.frame row.0 row.1) ∙ ready_fuel st.tasks row.0.frame in
    let less = c.requires.fuel row.0 row.1 in
    omega (arith, c.saturating_sub-weight.ensures, fuel, less)

-- what the segment leaves may be settled
pub settle-requires : goal.settle-requires
settle-requires c =
    let st = c.args.st.now in
    let row = below_there st.tasks c.args.t c.requires.there in
    let w = lent c.args.p.now c.take_ready-frame.result c.run_segment.new.frame st.cells c.swap.new.x c.args.watched.now.reads c.args.watched.now.writes c.run_segment.new.cells c.in_ok-stop.stop c.swap.ensures.x_after
    c.in_ok-stop.ensures.segment in
    run_settles c.args.p.now c.args.lim st c.args.t row.0 c.take_ready-frame.new.rows c.take_ready-frame.result c.run_segment.new.frame c.in_ok-stop.stop c.swap-2.new.y
    row.1 (c.take_ready-frame.ensures.rows row.0 row.1) (c.take_ready-frame.ensures.frame row.0 row.1)
    (segment_lent c.args.p.now c.take_ready-frame.result c.run_segment.new.frame st.cells c.swap-2.new.y c.args.watched.now.reads c.args.watched.now.writes c.run_segment.new.cells c.in_ok-stop.stop c.swap-2.ensures.y_after w)
    c.requires.settles

-- and its settling is the move
pub returns-clause-moved : goal.returns-clause-moved
returns-clause-moved c =
    let st = c.args.st.now in
    let row = below_there st.tasks c.args.t c.requires.there in
    let w = lent c.args.p.now c.take_ready-frame.result c.run_segment.new.frame st.cells c.swap.new.x c.args.watched.now.reads c.args.watched.now.writes c.run_segment.new.cells c.in_ok-stop.stop c.swap.ensures.x_after
    c.in_ok-stop.ensures.segment in
    run_settled c.args.p.now c.args.lim st c.args.t row.0 c.take_ready-frame.new.rows c.take_ready-frame.result c.run_segment.new.frame c.in_ok-stop.stop c.swap-2.new.y (c.settle.new.st, c.in_ok-end.end)
    row.1 (c.take_ready-frame.ensures.rows row.0 row.1) (c.take_ready-frame.ensures.frame row.0 row.1)
    (segment_lent c.args.p.now c.take_ready-frame.result c.run_segment.new.frame st.cells c.swap-2.new.y c.args.watched.now.reads c.args.watched.now.writes c.run_segment.new.cells c.in_ok-stop.stop c.swap-2.ensures.y_after w)
    c.in_ok-end.ensures

pub returns-clause-done : goal.returns-clause-done
returns-clause-done c = λ row here.
    let st = c.args.st.now in
    let w = lent c.args.p.now c.take_ready-frame.result c.run_segment.new.frame st.cells c.swap.new.x c.args.watched.now.reads c.args.watched.now.writes c.run_segment.new.cells c.in_ok-stop.stop c.swap.ensures.x_after
    c.in_ok-stop.ensures.segment in
    has_done c.args.p.now st c.args.t row _ c.take_ready-frame.result c.run_segment.new.frame c.args.watched.now.reads c.args.watched.now.writes c.run_segment.new.cells _ c.in_ok-stop.stop (c.requires.prints row here)
    (c.take_ready-frame.ensures.frame row here) w c.requires.reads c.requires.writes refl refl refl
    (ap (λ (n : ℕ). 1 + n) c.saturating_sub-weight.ensures) (c.taken_by-taken.ensures row here) (λ i. nat_lt (c.len-printed.ensures i) (c.len.ensures i))
