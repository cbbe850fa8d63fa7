use Rattle.std.proofs.Common.{◌∙◌, sym, subst}
use Rattle.twe_program.specs.WellFormed.{IsWellFormed}
use Rattle.seg_meaning.specs.declared.frame.Frame.{Frame}
use Rattle.seg_meaning.specs.Segment.{CarriesOut}
use Rattle.opt_engine.specs.inner.Noting.{TouchFollows}
use Rattle.opt_engine.proofs.Drafting.{may_run, ran_draft}
use Rattle.opt_engine.proofs.drafts.run_draft.Goals as goal

pub run_segment-requires : goal.run_segment-requires
run_segment-requires c =
    may_run c.args.p.now c.args.draft c.in_ok-touching.touching (subst IsWellFormed c.p.view_is c.p.invariant) c.requires c.in_ok-touching.ensures c.in_ok-after.after

pub returns : goal.returns
returns c =
    let p = c.args.p.now in
    let stop = c.in_ok-stop.stop in
    let new_frame = c.run_segment.new.frame in
    let new = c.run_segment.new.cells in
    let first = c.in_ok-after.ensures ∙ sym c.requires.plain in
    let carried = subst (λ (f : Frame). CarriesOut p TouchFollows f c.in_ok-touching.touching stop new_frame new) first c.in_ok-stop.ensures.segment in
    (λ i. record {
      task = c.args.draft.task;
      before = c.args.draft.frame;
      after = new_frame;
      reads = c.in_ok-noted.ensures.reads i;
      writes = c.in_ok-noted.ensures.writes i;
      stop = stop;
    })
    ∙ ran_draft p c.args.draft new_frame c.in_ok-touching.touching new stop (subst IsWellFormed c.p.view_is c.p.invariant) c.requires c.in_ok-touching.ensures carried c.in_ok-noted.ensures.whole
