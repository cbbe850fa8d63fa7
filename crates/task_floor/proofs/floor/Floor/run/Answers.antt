use Rattle.std.proofs.Common.{◌≡◌, sym, subst}
use Rattle.twe_program.specs.Program.{Program}
use Rattle.twe_program.specs.WellFormed.{IsWellFormed}
use Rattle.seg_meaning.specs.Segment.{CarriesOut, MayCarryOut}
use Rattle.task_floor.specs.steps.Segments.{HasRunSegment}
use Rattle.floor_laws.specs.table.nodes.FloorSeats.{floor_seat}
use Rattle.task_floor.specs.inner.InHand.{GoesOver, SegFollows, SegView, TouchesAlone, seg_ways}
use Rattle.task_floor.proofs.Carrying.{bare, carried_alone, has_run, may_carry_here}
use Rattle.task_floor.proofs.floor.Floor.run.Goals as goal

pub run_segment-requires : goal.run_segment-requires
run_segment-requires g c =
    let p = c.args.p.now in
    let may = c.requires.may in
    let stand = c.args.stand in
    let well : IsWellFormed p = subst IsWellFormed c.p.view_is c.p.invariant in
    let named : p ≡ g.N.Named.prog = c.requires.named in
    subst (λ (q : Program). MayCarryOut p (seg_ways q) c.args.frame.now c.segment-segment.result) named
    (subst (λ (seg : SegView). MayCarryOut p (seg_ways p) c.args.frame.now seg) (sym c.segment-segment.ensures) (may_carry_here p well stand may.0 may.1 c.args.frame.now may.2))

pub returns-clause-ran : goal.returns-clause-ran
returns-clause-ran g c t turn may =
    let p = c.args.p.now in
    let old = c.args.stand in
    let left = c.run_segment.new.cells in
    let new = c.into_stand.result in
    let back : g.N.Named.prog ≡ p = sym c.requires.named in
    let goes : GoesOver p left (bare new) = subst (λ (q : Program). GoesOver q left (bare new)) back c.into_stand.ensures.goes in
    let carried : CarriesOut p (SegFollows p) c.args.frame.now (bare old) c.in_ok-stop.stop c.run_segment.new.frame left =
    subst (λ (seg : SegView). CarriesOut p (SegFollows p) c.args.frame.now seg c.in_ok-stop.stop c.run_segment.new.frame left) c.segment-segment.ensures
    (subst (λ (q : Program). CarriesOut p (SegFollows q) c.args.frame.now c.segment-segment.result c.in_ok-stop.stop c.run_segment.new.frame left) back c.in_ok-stop.ensures.segment) in
    subst (λ (q : Program). HasRunSegment q (floor_seat old.me) (floor_seat new.me) t turn c.run_segment.new.frame c.in_ok-stop.stop) c.requires.named
    (has_run p old left new c.args.frame.now c.run_segment.new.frame c.in_ok-stop.stop carried goes t turn may)

pub returns-clause-stays : goal.returns-clause-stays
returns-clause-stays g c =
    let p = c.args.p.now in
    let old = c.args.stand in
    let left = c.run_segment.new.cells in
    let new = c.into_stand.result in
    let carried : CarriesOut p (SegFollows g.N.Named.prog) c.args.frame.now (bare old) c.in_ok-stop.stop c.run_segment.new.frame left =
    subst (λ (seg : SegView). CarriesOut p (SegFollows g.N.Named.prog) c.args.frame.now seg c.in_ok-stop.stop c.run_segment.new.frame left) c.segment-segment.ensures c.in_ok-stop.ensures.segment in
    let alone : TouchesAlone old new = carried_alone p g.N.Named.prog old left new c.args.frame.now c.run_segment.new.frame c.in_ok-stop.stop carried c.into_stand.ensures.goes in
    record { view = alone.view; slots = c.into_stand.ensures.slots }

pub returns-clause-same : goal.returns-clause-same
returns-clause-same g c =
    let p = c.args.p.now in
    let old = c.args.stand in
    let left = c.run_segment.new.cells in
    let new = c.into_stand.result in
    let carried : CarriesOut p (SegFollows g.N.Named.prog) c.args.frame.now (bare old) c.in_ok-stop.stop c.run_segment.new.frame left =
    subst (λ (seg : SegView). CarriesOut p (SegFollows g.N.Named.prog) c.args.frame.now seg c.in_ok-stop.stop c.run_segment.new.frame left) c.segment-segment.ensures c.in_ok-stop.ensures.segment in
    let alone : TouchesAlone old new = carried_alone p g.N.Named.prog old left new c.args.frame.now c.run_segment.new.frame c.in_ok-stop.stop carried c.into_stand.ensures.goes in
    alone.same
