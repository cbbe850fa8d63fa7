use Rattle.std.proofs.Common.{◌≡◌, ◌≤◌, ◌++◌, drop}
use Rattle.twe_draw.specs.picture.Rows.{rows_from}
use Rattle.twe_draw.proofs.picture.rows.rows_of.Given as goal

-- the rows up to here are made
abbrev pub invariant-loop-flag : goal.invariant-loop-flag
invariant-loop-flag l = record {
  made : l.rows ++ rows_from l.next (drop l.flag-index l.shown) ≡ rows_from 0 l.shown;
  few : l.next ≤ l.flag-index;
}
