-- The numbers of the cells of a declaration stay below the limit on cells.
use Rattle.std.proofs.Common.{◌≡◌, ◌<◌, ◌≤◌, ◌+◌, ◌*◌, ℕ, zero, suc, List, [], ◌∷◌, Some, subst, arith}
use Rattle.std.proofs.Math.Nat.{mul-le-mul_right}
use Rattle.std.specs.Prelude.{slice_get}
use Rattle.twe_program.specs.declared.program.CellDecl.{CellDecl}
use Rattle.twe_program.specs.Program.{cells_made, size_of}
use Rattle.twe_program.specs.Numbering.{CellsCountUp}

-- the cells of a declaration come before the end of all
pub cells_before : (decls : List CellDecl) (n i : ℕ) (cell : CellDecl) → CellsCountUp n decls → slice_get decls i ≡ Some cell
    → cell.first + size_of cell.dims ≤ n + cells_made decls
cells_before [] n i cell up found = absurd (cc)
cells_before (c ∷ cells) n zero cell up found =
    let same : c ≡ cell = cc in
    subst (λ (x : CellDecl). x.first + size_of x.dims ≤ n + cells_made (c ∷ cells)) same (omega (arith, up.0))
cells_before (c ∷ cells) n (suc i) cell up found = omega (arith, cells_before cells (n + size_of c.dims) i cell up.1 found)

pub number_below : (decls : List CellDecl) (i : ℕ) (cell : CellDecl) (place : ℕ) → CellsCountUp 0 decls → cells_made decls ≤ 65536 → slice_get decls i ≡ Some cell
    → place < size_of cell.dims → cell.first + place < 65536
number_below decls i cell place up few found within = omega (arith, cells_before decls 0 i cell up found)

-- an element of a grid is one of its cells
pub grid_within : (rows columns row column : ℕ) → row < rows → column < columns → row * columns + column < rows * columns
grid_within rows columns row column r c =
    let next : suc row ≤ rows = omega arith in
    omega (arith, mul-le-mul_right columns next)
