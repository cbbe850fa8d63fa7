use Rattle.std.proofs.Common.{◌≡◌, ◌+◌, ◌≤◌, ℕ, Bool, false, List, take, get_or, if◌then◌else◌, sym, ◌∙◌, arith}
use Rattle.twe_draw.specs.picture.Choice.{how_many}
use Rattle.twe_draw.proofs.picture.SetFlags.{at_most_one, one_more_flag}
use Rattle.twe_draw.proofs.picture.flags.how_many.Goals as goal

-- one flag more was counted
pub loop-flag-preserved : goal.loop-flag-preserved
loop-flag-preserved c = record {
  counted =
      (λ i. c.loop-flag.invariant.counted i + c.one_if-count.ensures i)
      ∙ sym (one_more_flag c.args.flags.now c.loop-flag.flag-index false c.loop-flag-test.true);
  few = let one = at_most_one (get_or c.args.flags.now c.loop-flag.flag-index false) in omega arith;
}
