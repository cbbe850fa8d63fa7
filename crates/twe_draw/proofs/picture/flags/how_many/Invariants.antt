use Rattle.std.proofs.Common.{◌≡◌, ◌≤◌, take}
use Rattle.twe_draw.specs.picture.Choice.{how_many}
use Rattle.twe_draw.proofs.picture.flags.how_many.Given as goal

-- those up to here were counted
abbrev pub invariant-loop-flag : goal.invariant-loop-flag
invariant-loop-flag l = record { counted : l.count ≡ how_many (take l.flag-index l.flags); few : l.count ≤ l.flag-index }
