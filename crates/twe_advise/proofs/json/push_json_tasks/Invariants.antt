use Rattle.std.proofs.Common.{◌≡◌, ◌++◌, take}
use Rattle.twe_advise.specs.Json.{json_tasks}
use Rattle.twe_advise.proofs.json.push_json_tasks.Given as goal

-- the objects up to here were written
abbrev pub invariant-loop-number : goal.invariant-loop-number
invariant-loop-number l = l.text ≡ l.fn.text ++ json_tasks l.works l.rows l.holds 0 (take l.number l.decls)
