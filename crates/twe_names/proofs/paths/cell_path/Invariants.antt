use Rattle.std.proofs.Common.{◌≡◌, take, map}
use Rattle.twe_ast.specs.declared.path.CellElem.{CellElem}
use Rattle.twe_names.specs.PathMeaning.{elem_of_cell_kind}
use Rattle.twe_names.proofs.paths.cell_path.Given as goal

-- the elements so far
abbrev pub invariant-loop-elem : goal.invariant-loop-elem
invariant-loop-elem l = l.elems ≡ map (λ (elem : CellElem). elem_of_cell_kind l.globals elem.kind) (take l.elem-index l.path.elems)
