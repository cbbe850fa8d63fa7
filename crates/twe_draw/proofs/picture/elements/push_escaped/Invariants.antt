use Rattle.std.proofs.Common.{◌≡◌, ◌++◌, take}
use Rattle.twe_draw.specs.picture.Elements.{escaped}
use Rattle.twe_draw.proofs.picture.elements.push_escaped.Given as goal

-- the bytes up to here were written
abbrev pub invariant-loop-byte : goal.invariant-loop-byte
invariant-loop-byte l = l.text ≡ l.fn.text ++ escaped (take l.byte-index l.bytes)
