-- The names of the elements so far are there.
use Rattle.std.proofs.Common.{take}
use Rattle.std.specs.List.{All}
use Rattle.twe_ast.specs.declared.path.CellElem.{CellElem}
use Rattle.name_check.specs.cell_limits.inner.Parts.{IsKnown, Keeps}
use Rattle.name_check.proofs.cell_limits.names.Names.add_all.Given as goal

abbrev pub invariant-loop-elem : goal.invariant-loop-elem
invariant-loop-elem l = record {
  known : All (λ (elem : CellElem). IsKnown l.self elem.kind) (take l.elem-index l.elems);
  keeps : Keeps l.fn.self l.self;
}
