-- A run starts with as many cells as its program has.
use Rattle.std.proofs.Common.{◌≡◌, ◌+◌, List, [], ◌∷◌, length, length-append, replicate, refl, ◌∙◌}
use Rattle.std.proofs.lemmas.List.{length-replicate}
use Rattle.twe_program.specs.declared.program.CellDecl.{CellDecl}
use Rattle.twe_program.specs.Program.{cells_made, size_of}
use Rattle.machine_state.specs.Moves.{initial_values}

pub length-initial_values : (decls : List CellDecl) → length (initial_values decls) ≡ cells_made decls
length-initial_values [] = refl
length-initial_values (cell ∷ cells) =
    length-append (replicate (size_of cell.dims) cell.init) (initial_values cells)
    ∙ λ i. length-replicate (size_of cell.dims) cell.init i + length-initial_values cells i
