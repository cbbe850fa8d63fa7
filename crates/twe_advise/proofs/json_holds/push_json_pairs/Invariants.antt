use Rattle.std.proofs.Common.{◌≡◌, ◌++◌, drop}
use Rattle.twe_advise.specs.JsonHolds.{json_pairs}
use Rattle.twe_advise.proofs.json_holds.push_json_pairs.Given as goal

-- what is written, and what is left, are all
abbrev pub invariant-loop-number : goal.invariant-loop-number
invariant-loop-number l = l.text ++ json_pairs l.p l.items l.number (drop l.number l.pairs) ≡ l.fn.text ++ json_pairs l.p l.items 0 l.pairs
