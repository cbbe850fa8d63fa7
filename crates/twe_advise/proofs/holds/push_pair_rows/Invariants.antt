use Rattle.std.proofs.Common.{◌≡◌, ◌++◌, drop}
use Rattle.std.specs.List.{flat_map}
use Rattle.twe_advise.specs.Holds.{pair_row}
use Rattle.twe_advise.proofs.holds.push_pair_rows.Given as goal

-- what is written, and what is left, are all
abbrev pub invariant-loop-held : goal.invariant-loop-held
invariant-loop-held l = l.text ++ flat_map (pair_row l.p l.items) (drop l.held-index l.pairs) ≡ l.fn.text ++ flat_map (pair_row l.p l.items) l.pairs
