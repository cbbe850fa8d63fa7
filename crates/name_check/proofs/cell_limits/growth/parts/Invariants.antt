-- The parts so far are those of the elements so far.
use Rattle.std.proofs.Common.{◌≡◌, take, map}
use Rattle.twe_ast.specs.declared.path.CellElem.{CellElem}
use Rattle.name_check.specs.cell_limits.inner.Parts.{part_of}
use Rattle.name_check.proofs.cell_limits.growth.parts.Given as goal

abbrev pub invariant-loop-elem : goal.invariant-loop-elem
invariant-loop-elem l = l.parts.items ≡ map (λ (elem : CellElem). part_of l.names elem.kind) (take l.elem-index l.elems)
