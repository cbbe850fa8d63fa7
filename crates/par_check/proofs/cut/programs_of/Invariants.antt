use Rattle.std.proofs.Common.{◌≡◌, ◌≤◌, ◌++◌, length, All}
use Rattle.twe_base.specs.Language.{max_text_bytes}
use Rattle.par_check.specs.Batch.{programs_of}
use Rattle.par_check.proofs.cut.programs_of.Given as goal

-- the programs so far, with those of the rest
abbrev pub invariant-loop-program : goal.invariant-loop-program
invariant-loop-program l = record {
  cut : l.texts ++ programs_of l.rest ≡ programs_of l.batch;
  short : All (λ text. length text ≤ max_text_bytes) l.texts;
  within : length l.rest ≤ max_text_bytes;
}

abbrev pub decreases-loop-program : goal.decreases-loop-program
decreases-loop-program l = length l.rest
