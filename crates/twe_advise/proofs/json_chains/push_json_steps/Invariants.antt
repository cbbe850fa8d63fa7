use Rattle.std.proofs.Common.{◌≡◌, ◌++◌, drop}
use Rattle.twe_advise.specs.JsonChains.{json_steps}
use Rattle.twe_advise.proofs.json_chains.push_json_steps.Given as goal

-- what is written, and what is left, are all
abbrev pub invariant-loop-number : goal.invariant-loop-number
invariant-loop-number l = l.text ++ json_steps l.p l.tasks l.starts l.number (drop l.number l.steps) ≡ l.fn.text ++ json_steps l.p l.tasks l.starts 0 l.steps
