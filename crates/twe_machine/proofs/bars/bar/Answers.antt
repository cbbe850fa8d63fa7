use Rattle.std.proofs.Common.{arith, below_more}
use Rattle.std.proofs.lemmas.Option.{slice_get_within}
use Rattle.twe_machine.proofs.bars.bar.Goals as goal

-- what was looked at is no bar
pub loop-s-preserved : goal.loop-s-preserved
loop-s-preserved c = record {
  no_bar = below_more _ _ c.loop-s.invariant.no_bar (λ bar. cc (c.is_bar.ensures.bar.1 bar));
  free = below_more _ _ c.loop-s.invariant.free (c.is_bar.ensures.yields c.if-is_bar.false);
}

-- and a bar is a task that is there
pub returns-clause-none : goal.returns-clause-none
returns-clause-none c =
    λ s bar. let there = slice_get_within c.args.st.now.tasks s bar.1.0 bar.1.1 in c.loop-s.invariant.no_bar s (omega (arith, there)) bar

pub returns-clause-free : goal.returns-clause-free
returns-clause-free c =
    λ made. (
      made,
      λ s differ enabled interfere.
          let there = slice_get_within c.args.st.now.tasks s enabled.0 enabled.1 in c.loop-s.invariant.free s (omega (arith, there)) differ enabled interfere,
    )
