use Rattle.std.proofs.Common.{◌≡◌}
use Rattle.effect_infer.specs.Rows.{no_rows}
use Rattle.effect_infer.proofs.rows.no_rows.Given as goal

-- so many empty lists
abbrev pub invariant-loop-at : goal.invariant-loop-at
invariant-loop-at g l = l.lists ≡ no_rows l.at
