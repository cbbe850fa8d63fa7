use Rattle.std.proofs.Common.{◌<◌, ℤ, List, length, replicate, sym, ap, ◌∙◌, subst}
use Rattle.std.specs.List.{All}
use Rattle.twe_program.specs.WellFormed.{IsWellFormed}
use Rattle.seg_meaning.specs.Segment.{MayCarryOut}
use Rattle.opt_engine.specs.declared.notes.CellMark.{CellMark}
use Rattle.opt_engine.specs.declared.notes.CellMark.TheVariants as marks
use Rattle.opt_engine.specs.declared.touch.CellValue.{CellValue}
use Rattle.opt_engine.specs.declared.touching.Touching.{Touching}
use Rattle.opt_engine.specs.Drafts.{IsDraftedOf}
use Rattle.opt_engine.specs.inner.Hinting.{hint_ways, without_marks}
use Rattle.opt_engine.proofs.HintedRuns.{left_so, may_hint}
use Rattle.opt_engine.proofs.starts.run_start.Goals as goal

-- each access is to a cell of the program
pub run_segment-requires : goal.run_segment-requires
run_segment-requires g c =
    subst (λ (t : Touching). MayCarryOut c.args.p.now hint_ways c.in_ok-after.after t) (sym c.new-hinted.ensures)
    (may_hint c.args.p.now c.into_touching.result (subst IsWellFormed c.p.view_is c.p.invariant) c.into_touching.ensures.fresh (c.into_touching.ensures.cells ∙ c.requires.cells) c.in_ok-after.after)

-- what was read and written has marks
pub again-scratch-requires-clause-reads : goal.again-scratch-requires-clause-reads
again-scratch-requires-clause-reads g c =
    let left = left_so c.args.p.now c.args.start.task c.args.start.frame c.in_ok-after.after c.run_segment.new.frame c.into_touching.result c.new-hinted.result c.into_touching-2.result c.run_segment.new.cells
    c.in_ok-stop.stop c.args.scratch (subst IsWellFormed c.p.view_is c.p.invariant) c.requires.plain c.in_ok-after.ensures c.into_touching.ensures.fresh c.into_touching.ensures.cells c.requires.cells
    c.new-hinted.ensures c.in_ok-stop.ensures.segment c.into_touching-2.ensures c.in_ok-noted.ensures.whole in
    subst (λ (x : List CellValue × List CellMark). All (λ (r : CellValue). r.cell < length x.1) x.0)
    (λ i. (sym (c.as_slice.ensures ∙ c.in_ok-noted.ensures.reads) i, sym c.in_ok-noted.ensures.marks i)) left.reads

pub again-scratch-requires-clause-writes : goal.again-scratch-requires-clause-writes
again-scratch-requires-clause-writes g c =
    let left = left_so c.args.p.now c.args.start.task c.args.start.frame c.in_ok-after.after c.run_segment.new.frame c.into_touching.result c.new-hinted.result c.into_touching-2.result c.run_segment.new.cells
    c.in_ok-stop.stop c.args.scratch (subst IsWellFormed c.p.view_is c.p.invariant) c.requires.plain c.in_ok-after.ensures c.into_touching.ensures.fresh c.into_touching.ensures.cells c.requires.cells
    c.new-hinted.ensures c.in_ok-stop.ensures.segment c.into_touching-2.ensures c.in_ok-noted.ensures.whole in
    subst (λ (x : List CellValue × List CellMark). All (λ (w : CellValue). w.cell < length x.1) x.0)
    (λ i. (sym (c.as_slice-2.ensures ∙ c.in_ok-noted.ensures.writes) i, sym c.in_ok-noted.ensures.marks i)) left.writes

-- and nothing else has
pub again-scratch-requires-clause-no_others : goal.again-scratch-requires-clause-no_others
again-scratch-requires-clause-no_others g c =
    let left = left_so c.args.p.now c.args.start.task c.args.start.frame c.in_ok-after.after c.run_segment.new.frame c.into_touching.result c.new-hinted.result c.into_touching-2.result c.run_segment.new.cells
    c.in_ok-stop.stop c.args.scratch (subst IsWellFormed c.p.view_is c.p.invariant) c.requires.plain c.in_ok-after.ensures c.into_touching.ensures.fresh c.into_touching.ensures.cells c.requires.cells
    c.new-hinted.ensures c.in_ok-stop.ensures.segment c.into_touching-2.ensures c.in_ok-noted.ensures.whole in
    (λ i. without_marks (without_marks (c.in_ok-noted.ensures.marks i) ((c.as_slice.ensures ∙ c.in_ok-noted.ensures.reads) i)) ((c.as_slice-2.ensures ∙ c.in_ok-noted.ensures.writes) i))
    ∙ (left.none ∙ ap (λ (l : List ℤ). replicate (length l) marks.Untouched) (sym c.in_ok-noted.ensures.cells))

-- it is a draft of some cells
pub returns-clause-drafted : goal.returns-clause-drafted
returns-clause-drafted g c =
    let left = left_so c.args.p.now c.args.start.task c.args.start.frame c.in_ok-after.after c.run_segment.new.frame c.into_touching.result c.new-hinted.result c.into_touching-2.result c.run_segment.new.cells
    c.in_ok-stop.stop c.args.scratch (subst IsWellFormed c.p.view_is c.p.invariant) c.requires.plain c.in_ok-after.ensures c.into_touching.ensures.fresh c.into_touching.ensures.cells c.requires.cells
    c.new-hinted.ensures c.in_ok-stop.ensures.segment c.into_touching-2.ensures c.in_ok-noted.ensures.whole in
    subst (λ (x : List CellValue × List CellValue). IsDraftedOf c.args.p.now (record {
      task = c.args.start.task;
      before = c.args.start.frame;
      after = c.run_segment.new.frame;
      reads = x.0;
      writes = x.1;
      stop = c.in_ok-stop.stop;
    })) (λ i. (sym c.in_ok-noted.ensures.reads i, sym c.in_ok-noted.ensures.writes i)) left.drafted

pub returns-clause-cells : goal.returns-clause-cells
returns-clause-cells g c =
    let left = left_so c.args.p.now c.args.start.task c.args.start.frame c.in_ok-after.after c.run_segment.new.frame c.into_touching.result c.new-hinted.result c.into_touching-2.result c.run_segment.new.cells
    c.in_ok-stop.stop c.args.scratch (subst IsWellFormed c.p.view_is c.p.invariant) c.requires.plain c.in_ok-after.ensures c.into_touching.ensures.fresh c.into_touching.ensures.cells c.requires.cells
    c.new-hinted.ensures c.in_ok-stop.ensures.segment c.into_touching-2.ensures c.in_ok-noted.ensures.whole in
    c.again-scratch.ensures ∙ (ap length c.in_ok-noted.ensures.cells ∙ left.size_is)
