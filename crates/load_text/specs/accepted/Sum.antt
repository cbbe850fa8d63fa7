-- The cell to which the tasks of the load generator add the others.
use Rattle.std.specs.Prelude.{◌≡◌, Some, slice_get, codes}
use Rattle.twe_program.specs.declared.program.CellDecl.{CellDecl}
use Rattle.twe_program.specs.declared.program.Dims.TheVariants.{Scalar}
use Rattle.twe_program.specs.Program.{Program}

-- the first declaration of the program is that of the cell `s`, which is no array
pub record BeginsWithSum (p : Program) : Type 0 where
  pub cell : CellDecl
  pub first : slice_get p.cells 0 ≡ Some cell
  pub named : cell.name ≡ codes "s"
  pub number : cell.first ≡ 0
  pub scalar : cell.dims ≡ Scalar
