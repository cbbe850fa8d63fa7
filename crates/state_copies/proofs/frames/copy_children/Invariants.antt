use Rattle.std.proofs.Common.{◌≡◌, take}
use Rattle.state_copies.proofs.frames.copy_children.Given as goal

abbrev pub invariant-loop-child : goal.invariant-loop-child
invariant-loop-child l = l.copy ≡ record { items = take l.child-index l.children.items; room = 0 }
