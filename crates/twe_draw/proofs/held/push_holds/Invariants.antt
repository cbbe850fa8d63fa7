use Rattle.std.proofs.Common.{◌≡◌, ◌++◌, take}
use Rattle.std.specs.List.{flat_map}
use Rattle.twe_draw.specs.Held.{held_shown}
use Rattle.twe_draw.proofs.held.push_holds.Given as goal

-- the holds up to here were written
abbrev pub invariant-loop-hold : goal.invariant-loop-hold
invariant-loop-hold l = l.text ≡ l.fn.text ++ flat_map (held_shown l.p l.tasks l.bars l.rows l.axis) (take l.hold-index l.holds)
