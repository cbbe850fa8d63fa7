use Rattle.std.proofs.Common.{◌≤◌, ◌^◌, take}
use Rattle.std.specs.List.{Contains}
use Rattle.effect_infer.specs.declared.found.FoundNeed.{FoundNeed}
use Rattle.effect_infer.specs.Kept.{method_rank}
use Rattle.effect_infer.proofs.keep.top_rank.Given as goal

-- no rank so far is higher
abbrev pub invariant-loop-found : goal.invariant-loop-found
invariant-loop-found l = record { top : (need : FoundNeed) → Contains (take l.found-index l.all) need → method_rank need.need ≤ l.top; small : l.top ≤ 2 ^ 63 }
