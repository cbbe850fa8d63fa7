use Rattle.std.proofs.Common.{ℕ, Bool, false, List, replicate, ◌∙◌}
use Rattle.std.specs.Prelude.{slice_get}
use Rattle.twe_draw.specs.Shown.{with_flag}
use Rattle.twe_draw.proofs.Lists.{fold_at}
use Rattle.twe_draw.proofs.shown.chain_flags.Goals as goal

-- one flag more is set
pub loop-number-preserved : goal.loop-number-preserved
loop-number-preserved c = record {
  count = c.flag_entry.ensures.length ∙ c.loop-number.invariant.count;
  set_are =
      fold_at (λ (flags : List Bool) (number : ℕ). with_flag flags (slice_get c.args.bars.now number))
      (replicate c.args.tasks false) c.args.chain.now c.loop-number.number-index 0 c.loop-number.flags
      c.flag_entry.new.flags c.loop-number-test.true c.loop-number.invariant.set_are c.flag_entry.ensures.same;
}
