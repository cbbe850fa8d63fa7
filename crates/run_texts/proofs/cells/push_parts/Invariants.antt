use Rattle.std.proofs.Common.{◌≡◌, ◌++◌, take}
use Rattle.std.specs.List.{flat_map}
use Rattle.isolation_laws.specs.soundness.CellPaths.{concrete}
use Rattle.run_texts.specs.CellTexts.{next_part}
use Rattle.run_texts.proofs.cells.push_parts.Given as goal

-- the elements up to here were written
abbrev pub invariant-loop-elem : goal.invariant-loop-elem
invariant-loop-elem l = l.text ≡ l.fn.text ++ flat_map (λ elem. next_part l.regions (concrete elem)) (take l.elem-index l.elems)
