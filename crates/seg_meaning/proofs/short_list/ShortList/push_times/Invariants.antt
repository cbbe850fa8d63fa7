use Rattle.std.proofs.Common.{◌≡◌, ◌++◌, replicate}
use Rattle.seg_meaning.proofs.short_list.ShortList.push_times.Given as goal

-- the item is appended so many times
abbrev pub invariant-loop : goal.invariant-loop
invariant-loop g l = l.self ≡ l.fn.self ++ replicate l.counter l.fn.item
