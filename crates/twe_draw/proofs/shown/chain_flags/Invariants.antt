use Rattle.std.proofs.Common.{◌≡◌, ℕ, Bool, false, List, length, take, replicate}
use Rattle.std.specs.Prelude.{slice_get}
use Rattle.std.specs.List.{fold}
use Rattle.twe_draw.specs.Shown.{with_flag}
use Rattle.twe_draw.proofs.shown.chain_flags.Given as goal

-- the flags of the entries up to here are set
abbrev pub invariant-loop-number : goal.invariant-loop-number
invariant-loop-number l = record {
  count : length l.flags ≡ l.tasks;
  set_are :
      l.flags
      ≡ fold (λ (flags : List Bool) (number : ℕ). with_flag flags (slice_get l.bars number)) (replicate l.tasks false)
      (take l.number-index l.chain);
}
