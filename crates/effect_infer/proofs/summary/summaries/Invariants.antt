use Rattle.std.proofs.Common.{◌≡◌, ◌<◌, ◌≤◌, ◌++◌, ℕ, length, drop, map}
use Rattle.twe_base.specs.Language.{max_effects}
use Rattle.effect_infer.specs.Rows.{row}
use Rattle.effect_infer.specs.Inferred.{summary_of}
use Rattle.effect_infer.proofs.summary.summaries.Given as goal

-- the summaries so far and those of what is left are those of all, and no method so far has too many needs
abbrev pub invariant-loop-method : goal.invariant-loop-method
invariant-loop-method l = record {
  made : l.needs ++ map summary_of (drop l.method l.table) ≡ map summary_of l.table;
  few : (m : ℕ) → m < l.method → length (row l.table m) ≤ max_effects;
}
