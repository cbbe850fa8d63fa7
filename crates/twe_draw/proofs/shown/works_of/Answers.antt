use Rattle.std.proofs.Common.{None, get_or, replicate, ◌∙◌}
use Rattle.seg_journal.specs.declared.journal.End.TheVariants.{Admitted}
use Rattle.seg_journal.specs.declared.moves.Kind.TheVariants.{Admit}
use Rattle.twe_draw.specs.declared.picture.bars.EntryBar.{EntryBar}
use Rattle.twe_draw.specs.Shown.{with_entry_work}
use Rattle.twe_draw.proofs.Lists.{fold_at}
use Rattle.twe_draw.proofs.Works.{small_more}
use Rattle.twe_draw.proofs.shown.works_of.Goals as goal

-- one entry more was added
pub loop-bar-preserved : goal.loop-bar-preserved
loop-bar-preserved c =
    let none : EntryBar = record {
      number = 0;
      task = 0;
      kind = Admit;
      taken = None;
      end = Admitted;
      begins = 0;
      ends = 0;
      previous = None;
      giver = None;
    } in
    let bar : EntryBar = get_or c.args.bars.now c.loop-bar.bar-index none in
    record {
      count = c.add_work.ensures.length ∙ c.loop-bar.invariant.count;
      added =
          fold_at with_entry_work (replicate c.args.tasks 0) c.args.bars.now c.loop-bar.bar-index none c.loop-bar.works
          c.add_work.new.works c.loop-bar-test.true c.loop-bar.invariant.added c.add_work.ensures.same;
      small = λ task.
          small_more c.loop-bar.works c.add_work.new.works bar c.loop-bar.bar-index task c.add_work.ensures.same
          c.add_work.ensures.fits c.loop-bar.invariant.small;
    }
