use Rattle.std.proofs.Common.{◌≡◌, ◌++◌, drop, map}
use Rattle.effect_infer.specs.Table.{few_summary_of}
use Rattle.effect_infer.proofs.summary.each_summary.Given as goal

-- the summaries so far and those of what is left are those of all
abbrev pub invariant-loop-widest : goal.invariant-loop-widest
invariant-loop-widest l = l.each ++ map few_summary_of (drop l.widest-index l.table) ≡ map few_summary_of l.table
