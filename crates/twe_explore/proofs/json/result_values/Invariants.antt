use Rattle.std.proofs.Common.{◌≡◌, ◌++◌, drop, map}
use Rattle.serde_json.specs.View.{view}
use Rattle.twe_explore.specs.Json.{results_data}
use Rattle.twe_explore.proofs.json.result_values.Given as goal

-- the results so far, with those that are left
abbrev pub invariant-loop-at : goal.invariant-loop-at
invariant-loop-at l =
    map view l.values.items ++ results_data l.lim (drop l.at l.runs) (drop l.at l.answers) ≡ results_data l.lim l.runs l.answers
